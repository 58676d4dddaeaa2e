-- Connections that are opened and closed: nothing else changes.
use Rattle.std.proofs.Common.{◌≡◌, ◌<◌, ◌≤◌, Bool, ℕ, zero, suc, ◌+◌, ◌⊎◌, inl, inr, List, [], ◌∷◌, ◌++◌, map, length, Some, None, Ok}
use Rattle.std.proofs.Common.{refl, sym, ap, subst}
use Rattle.std.proofs.Common.{◌∙◌, arith}
use Rattle.std.specs.Prelude.{slice_get, if◌then◌else◌}
use Rattle.std.proofs.lemmas.Bool.{lt-leb}
use Rattle.std.proofs.lemmas.List.{length-append, length-map, map_push}
use Rattle.nfs_model.specs.Tree.{Layout}
use Rattle.nfs_model.specs.World as worlds
use Rattle.nfs_model.specs.Events.Refusals as events
use Rattle.nfs_model.specs.Events.Refusals.{open_count}
use Rattle.nfs_model.specs.Events.Step.{new_connection}
use Rattle.nfs_values.specs.declared.call.Call.{Call}
use Rattle.scheduler.specs.declared.message.Message.{Message}
use Rattle.engine.specs.laws.lemmas.Feeding.{stands-alike}
use Rattle.desk.specs.Words.{books}
use Rattle.service.specs.Jobs.{job_of, job_reply_of}
use Rattle.engine_feed.specs.declared.state.ConnectionState.{ConnectionState}
use Rattle.engine_feed.specs.Seen.{connection_of, owed_by, layout_in, messages_of}
use Rattle.slab.specs.Slab.{Slab, get, slab_len, Updates}
use Rattle.engine.specs.declared.connection.Connection.{Connection}
use Rattle.engine.specs.declared.connection.Connection.TheVariants as places
use Rattle.engine.specs.Connections.{Held, Open, held_at, held_by, AreKeyed}
use Rattle.std.specs.Global.{Vec}
use Rattle.nfs_values.specs.declared.number.ConnectionNumber.{ConnectionNumber}
use Rattle.engine.specs.declared.event.Done.TheVariants.{Opened}
use Rattle.engine.specs.declared.state.State.{State}
use Rattle.engine.specs.declared.worker.Worker.{Worker}
use Rattle.engine.specs.Seen.{connection_seen, held_in, setup_in, world}
use Rattle.engine.specs.Words.{DoesEvent}
use Rattle.engine.specs.Sound.{IsSoundEngine, IsPlaced, IsReady, rooms_on}
use Rattle.engine.proofs.Lists.{all-later}
use Rattle.engine.proofs.Keyed.{opened, opened-keyed}
use Rattle.engine.proofs.Placed.{placed-later, ready-later, kept_on, nothing-owed}

-- the state with other connections is sound, where each that is open is owed what it was
pub reconnected : (s new : State) → new ≡ record s { connections = new.connections; slab = new.slab } → IsSoundEngine s
    → length (held_in s) ≤ length (held_in new) → AreKeyed new.connections.items new.slab
    → slab_len new.slab ≡ open_count (map connection_seen (held_in new))
    → ((c : ℕ) (x : ConnectionState) → slice_get (held_in new) c ≡ Some (Open x) → owed_by x ≡ rooms_on c s) → IsSoundEngine new
reconnected s new same sound longer keyed opened owed =
    let layout = layout_in s.calls in
    let n = length (held_in s) in
    let k = length (held_in new) in
    let next : State = record s { connections = new.connections; slab = new.slab } in
    subst IsSoundEngine (sym same) (record {
      layout = sound.layout;
      kept = sound.kept;
      stands = stands-alike job_of job_reply_of (setup_in s) (world s) (world next) (books s.desk)
          (record { server = refl; parts = refl; stamps = refl; workers = refl; finished = refl; ran = refl }) sound.stands;
      running = sound.running;
      waiting = all-later (IsPlaced layout n) (IsPlaced layout k) (messages_of s.calls) (placed-later layout n k longer) sound.waiting;
      workers = all-later (IsReady layout n) (IsReady layout k) s.workers.items (ready-later layout n k longer) sound.workers;
      few = sound.few;
      stamps = sound.stamps;
      keyed = keyed;
      opened = opened;
      owed = owed;
    })

-- ---- a connection that is opened

last-or-before : (cs : List Held) (o x : ConnectionState) (c : ℕ) → slice_get (cs ++ Open o ∷ []) c ≡ Some (Open x)
    → (slice_get cs c ≡ Some (Open x)) ⊎ ((c ≡ length cs) × (o ≡ x))
last-or-before [] o x zero e = inr (refl, cc)
last-or-before [] o x (suc c) e = absurd cc
last-or-before (d ∷ cs) o x zero e = inl e
last-or-before (d ∷ cs) o x (suc c) e = elim (last-or-before cs o x c e) [ inl f ↦ inl f | inr p ↦ inr (ap (λ (n : ℕ). suc n) p.0, p.1) ]

owed_if : (layout : Layout) (cs : List Held) (ms : List (Message Call)) (ws : List Worker) (o x : ConnectionState) (c : ℕ)
    → kept_on (length cs) ms ws ≡ 0 → owed_by o ≡ 0
    → (slice_get cs c ≡ Some (Open x) → owed_by x ≡ kept_on c ms ws)
    → (slice_get cs c ≡ Some (Open x)) ⊎ ((c ≡ length cs) × (o ≡ x)) → owed_by x ≡ kept_on c ms ws
owed_if layout cs ms ws o x c none zero_owed before (inl e) = before e
owed_if layout cs ms ws o x c none zero_owed before (inr p) =
    ap owed_by (sym p.1) ∙ zero_owed ∙ sym none ∙ ap (λ (i : ℕ). kept_on i ms ws) (sym p.0)

count-opened : (xs : List worlds.Connection) → open_count (xs ++ new_connection ∷ []) ≡ open_count xs + 1
count-opened [] = refl
count-opened (x ∷ xs) = let t = count-opened xs in omega (arith, t)

-- the state with one more connection, on which nothing came
opened-sound : (s new : State) (o : ConnectionState) → new ≡ record s { connections = new.connections; slab = new.slab }
    → held_in new ≡ held_in s ++ Open o ∷ [] → AreKeyed new.connections.items new.slab → slab_len new.slab ≡ slab_len s.slab + 1
    → connection_of o ≡ new_connection → owed_by o ≡ 0 → IsSoundEngine s → IsSoundEngine new
opened-sound s new o same items keyed more is nothing sound =
    let cs = held_in s in
    let layout = layout_in s.calls in
    let ms = messages_of s.calls in
    let ws = s.workers.items in
    let length_is : length (held_in new) ≡ length cs + 1 = ap length items ∙ length-append cs (Open o ∷ []) in
    let seen : map connection_seen (held_in new) ≡ map connection_seen cs ++ new_connection ∷ [] =
    ap (map connection_seen) items ∙ map_push connection_seen cs (Open o)
    ∙ ap (λ (x : worlds.Connection). map connection_seen cs ++ x ∷ []) is in
    let opened : slab_len new.slab ≡ open_count (map connection_seen (held_in new)) =
    more ∙ ap (λ (n : ℕ). n + 1) sound.opened ∙ sym (count-opened (map connection_seen cs)) ∙ ap open_count (sym seen) in
    reconnected s new same sound (omega (arith, length_is)) keyed opened
    (λ c x e.
    owed_if layout cs ms ws o x c (nothing-owed layout (length cs) ms ws sound.waiting sound.workers) nothing (sound.owed c x)
    (last-or-before cs o x c (subst (λ (l : List Held). slice_get l c ≡ Some (Open x)) items e)))

-- the state with the same connections, and room for more
pub reserved-sound : (s new : State) → new ≡ record s { connections = new.connections; slab = new.slab } → held_in new ≡ held_in s
    → AreKeyed new.connections.items new.slab → slab_len new.slab ≡ slab_len s.slab → IsSoundEngine s → IsSoundEngine new
reserved-sound s new same items keyed as_many sound =
    let size = ap length items in
    reconnected s new same sound (omega (arith, size)) keyed
    (as_many ∙ sound.opened ∙ ap (λ (l : List Held). open_count (map connection_seen l)) (sym items))
    (λ c x e. sound.owed c x (subst (λ (l : List Held). slice_get l c ≡ Some (Open x)) items e))

-- what is answered, where fewer than 64 are open
opened-events : (s new : State) (o : ConnectionState) (n : ConnectionNumber) → new ≡ record s { connections = new.connections; slab = new.slab }
    → held_in new ≡ held_in s ++ Open o ∷ [] → connection_of o ≡ new_connection → n.0 ≡ length (held_in s)
    → IsSoundEngine s → slab_len s.slab < 64 → DoesEvent s events.Open (Ok (Opened n)) new
opened-events s new o n same items is number sound few =
    let cs = held_in s in
    let seen : map connection_seen (held_in new) ≡ map connection_seen cs ++ new_connection ∷ [] =
    ap (map connection_seen) items ∙ map_push connection_seen cs (Open o)
    ∙ ap (λ (x : worlds.Connection). map connection_seen cs ++ x ∷ []) is in
    let opened = sound.opened in
    let few_seen : open_count (map connection_seen cs) < 64 = subst (λ (m : ℕ). m < 64) opened few in (
      ap (λ (b : Bool). if b then Some 31 else None) (lt-leb 64 (open_count (map connection_seen cs)) few_seen),
      (
        ap events.Opened (number ∙ sym (length-map cs connection_seen)),
        ap world same ∙ ap (λ (xs : List worlds.Connection). record (world s) { connections = xs }) seen,
      ),
    )

-- ---- room in the list and in the slab

module _ (s : State) (sound : IsSoundEngine s) (grown : Slab ConnectionState) (is : grown ≡ record s.slab { capacity = grown.capacity }) where
  held-grown : held_by s.connections.items grown ≡ held_in s
  held-grown = ap (λ (o : Slab ConnectionState). held_by s.connections.items o) is

  keyed-grown : AreKeyed s.connections.items grown
  keyed-grown = subst (λ (o : Slab ConnectionState). AreKeyed s.connections.items o) (sym is) (record { kept = sound.keyed.kept; apart = sound.keyed.apart })

  many-grown : slab_len grown ≡ slab_len s.slab
  many-grown = ap (λ (o : Slab ConnectionState). slab_len o) is

  -- nothing is opened
  pub grown-sound : (cs : Vec Connection) → cs.items ≡ s.connections.items → IsSoundEngine (record s { connections = cs; slab = grown })
  grown-sound cs items =
      reserved-sound s (record s { connections = cs; slab = grown }) refl
      (ap (λ (xs : List Connection). held_by xs grown) items ∙ held-grown)
      (subst (λ (xs : List Connection). AreKeyed xs grown) (sym items) keyed-grown) many-grown sound

  -- one is opened
  module _ (key : ℕ) (o : ConnectionState) (vacant : get grown key ≡ None) (slab' : Slab ConnectionState) (updates : Updates grown slab' key (Some o))
      (more : slab_len slab' ≡ slab_len grown + 1) (cs : Vec Connection) (items : cs.items ≡ s.connections.items ++ places.Open key ∷ [])
      (new : connection_of o ≡ new_connection) where
    abbrev after : State
    after = record s { connections = cs; slab = slab' }

    held-after : held_in after ≡ held_in s ++ Open o ∷ []
    held-after =
        ap (λ (xs : List Connection). held_by xs slab') items
        ∙ opened s.connections.items grown slab' keyed-grown key o vacant updates
        ∙ ap (λ (xs : List Held). xs ++ Open o ∷ []) held-grown

    pub opens-sound : owed_by o ≡ 0 → IsSoundEngine after
    opens-sound nothing =
        opened-sound s after o refl held-after
        (subst (λ (xs : List Connection). AreKeyed xs slab') (sym items)
        (opened-keyed s.connections.items grown slab' keyed-grown key o vacant updates))
        (more ∙ ap (λ (n : ℕ). n + 1) many-grown) new nothing sound

    pub opens-events : (n : ConnectionNumber) → n.0 ≡ length s.connections.items → slab_len s.slab < 64 → DoesEvent s events.Open (Ok (Opened n)) after
    opens-events n number few =
        opened-events s after o n refl held-after new (number ∙ sym (length-map s.connections.items (held_at s.slab))) sound few
