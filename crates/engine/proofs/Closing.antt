-- A connection of a list that is closed, or has other bytes.
use Rattle.std.proofs.Common.{◌≡◌, ℕ, zero, suc, ◌+◌, Bool, List, [], ◌∷◌, map, length, Option, Some, None, Ok, Err, refl, sym, ap, subst, ◌∙◌}
use Rattle.std.proofs.Common.{inl, arith}
use Rattle.std.specs.Prelude.{option_map, slice_get, slice_set, if◌then◌else◌}
use Rattle.std.proofs.lemmas.Option.{slice_get-map}
use Rattle.std.proofs.lemmas.List.{length-set}
use Rattle.nfs_model.specs.World as worlds
use Rattle.nfs_model.specs.World.{changed_at}
use Rattle.nfs_model.specs.Events.Refusals as events
use Rattle.nfs_model.specs.Events.Refusals.{is_open, open_count}
use Rattle.nfs_model.specs.Events.Step.{with_closed}
use Rattle.engine_feed.specs.declared.state.ConnectionState.{ConnectionState}
use Rattle.engine_feed.specs.Seen.{connection_of, finished_of}
use Rattle.slab.specs.Slab.{Slab, get, slab_len, Updates}
use Rattle.std.specs.Vec.{with_item}
use Rattle.engine.specs.declared.connection.Connection.TheVariants as places
use Rattle.engine.specs.Connections.{Held, Open, Closed, key_at, AreKeyed}
use Rattle.engine.specs.declared.connection.ClosedConnection.{ClosedConnection}
use Rattle.engine.specs.declared.event.Done.TheVariants as dones
use Rattle.engine.specs.declared.event.Refusal.TheVariants as refusals
use Rattle.engine.specs.declared.state.State.{State}
use Rattle.engine.specs.Seen.{connection_seen, held_in, world}
use Rattle.engine.specs.Sound.{IsSoundEngine}
use Rattle.engine.specs.Words.{DoesEvent}
use Rattle.engine.proofs.Keyed.{found-open, is-shut, closed, closed-keyed}
use Rattle.engine.proofs.Reconnected.{reconnected}

-- ---- one place of a list

pub seen-at : (cs : List Held) (i : ℕ) (d : Held) → slice_get cs i ≡ Some d → slice_get (map connection_seen cs) i ≡ Some (connection_seen d)
seen-at cs i d e = slice_get-map connection_seen cs i ∙ ap (option_map connection_seen) e

pub set-same : (cs : List Held) (i : ℕ) (d : Held) → slice_get cs i ≡ Some d → slice_set cs i d ≡ cs
set-same [] i d e = absurd cc
set-same (c ∷ cs) zero d e = let same : c ≡ d = cc in ap (λ (k : Held). k ∷ cs) (sym same)
set-same (c ∷ cs) (suc i) d e = ap (λ (ks : List Held). c ∷ ks) (set-same cs i d e)

-- what is seen of a list that has another connection at a place
pub seen-set : (f : worlds.Connection → worlds.Connection) (cs : List Held) (i : ℕ) (d k : Held) → slice_get cs i ≡ Some d
    → connection_seen k ≡ f (connection_seen d) → map connection_seen (slice_set cs i k) ≡ changed_at f (map connection_seen cs) i
seen-set f [] i d k e is = absurd cc
seen-set f (c ∷ cs) zero d k e is =
    let same : c ≡ d = cc in
    ap (λ (x : worlds.Connection). x ∷ map connection_seen cs) (is ∙ ap (λ (x : Held). f (connection_seen x)) (sym same))
seen-set f (c ∷ cs) (suc i) d k e is = ap (λ (xs : List worlds.Connection). connection_seen c ∷ xs) (seen-set f cs i d k e is)

-- ---- what is answered

abbrev if_open : Bool → Option ℕ
if_open b = if b then None else Some 36

may-close : (cs : List Held) (i : ℕ) (o : ConnectionState) → slice_get cs i ≡ Some (Open o)
    → if_open (is_open (slice_get (map connection_seen cs) i)) ≡ None
may-close cs i o e = ap (λ (x : Option worlds.Connection). if_open (is_open x)) (seen-at cs i (Open o) e)

may-not-close : (s : State) (i : ℕ) → key_at (slice_get s.connections.items i) ≡ None → if_open (is_open (slice_get (world s).connections i)) ≡ Some 36
may-not-close s i none = ap if_open (is-shut s.connections.items s.slab i none)

-- ---- how many are open

count-closed : (cs : List Held) (i : ℕ) (o : ConnectionState) (c : ClosedConnection) → slice_get cs i ≡ Some (Open o)
    → open_count (map connection_seen cs) ≡ open_count (map connection_seen (slice_set cs i (Closed c))) + 1
count-closed [] i o c e = absurd cc
count-closed (d ∷ cs) zero o c e =
    let same : d ≡ Open o = cc in
    let t : open_count (map connection_seen (d ∷ cs)) ≡ 1 + open_count (map connection_seen cs) =
    ap (λ (k : Held). open_count (map connection_seen (k ∷ cs))) same in
    omega (arith, t)
count-closed (d ∷ cs) (suc i) o c e = let t = count-closed cs i o c e in omega (arith, t)

-- ---- the state

-- what is open after it was open before it
open-before : (cs : List Held) (i : ℕ) (c : ClosedConnection) (j : ℕ) (x : ConnectionState) → slice_get (slice_set cs i (Closed c)) j ≡ Some (Open x)
    → slice_get cs j ≡ Some (Open x)
open-before [] i c j x e = e
open-before (d ∷ cs) zero c zero x e = absurd cc
open-before (d ∷ cs) zero c (suc j) x e = e
open-before (d ∷ cs) (suc i) c zero x e = e
open-before (d ∷ cs) (suc i) c (suc j) x e = open-before cs i c j x e

closed-sound : (s new : State) (i : ℕ) (o : ConnectionState) (c : ClosedConnection)
    → new ≡ record s { connections = new.connections; slab = new.slab } → held_in new ≡ slice_set (held_in s) i (Closed c)
    → AreKeyed new.connections.items new.slab → slab_len new.slab + 1 ≡ slab_len s.slab
    → slice_get (held_in s) i ≡ Some (Open o) → IsSoundEngine s → IsSoundEngine new
closed-sound s new i o c same items keyed less there sound =
    let cs = held_in s in
    let opened = sound.opened in
    let fewer = count-closed cs i o c there in
    let size = ap length items ∙ length-set cs i (Closed c) in
    reconnected s new same sound (omega (arith, size)) keyed
    (subst (λ (ks : List Held). slab_len new.slab ≡ open_count (map connection_seen ks)) (sym items) (omega (arith, less, opened, fewer)))
    (λ j x e. sound.owed j x (open-before cs i c j x (subst (λ (l : List Held). slice_get l j ≡ Some (Open x)) items e)))

-- what is seen of a connection that is closed
closed-seen : (s : State) (i : ℕ) (o : ConnectionState) (c : ClosedConnection) → slice_get (held_in s) i ≡ Some (Open o)
    → c.stream.items ≡ (connection_of o).stream → c.output.items ≡ (connection_of o).output → c.finished ≡ length (finished_of s.calls)
    → record (world s) { connections = map connection_seen (slice_set (held_in s) i (Closed c)) }
    ≡ record (world s) { connections = changed_at (with_closed (length (finished_of s.calls))) (map connection_seen (held_in s)) i }
closed-seen s i o c there stream output finished =
    ap (λ (xs : List worlds.Connection). record (world s) { connections = xs })
    (seen-set (with_closed (length (finished_of s.calls))) (held_in s) i (Open o) (Closed c) there
    (ap (λ (b : List ℕ). record (connection_seen (Closed c)) { stream = b }) stream
    ∙ ap (λ (b : List ℕ). record (connection_seen (Closed c)) { stream = o.stream.items; output = b }) output
    ∙ ap (λ (n : ℕ). record (connection_of o) { closed = Some n }) finished))

-- ---- a connection that is kept under a key

-- a number that has none open
pub shut-events : (s : State) (i : ℕ) → key_at (slice_get s.connections.items i) ≡ None → DoesEvent s (events.Close i) (Err refusals.Closed) s
shut-events s i none = (inl (may-not-close s i none), refl)

module _ (s : State) (sound : IsSoundEngine s) (i key : ℕ) (at : slice_get s.connections.items i ≡ Some (places.Open key)) (o : ConnectionState)
    (was : get s.slab key ≡ Some o) (slab' : Slab ConnectionState) (updates : Updates s.slab slab' key None) (less : slab_len slab' + 1 ≡ slab_len s.slab)
    (c : ClosedConnection) where
  abbrev shut : State
  shut = record s { connections = with_item s.connections i (places.Closed c); slab = slab' }

  stood : slice_get (held_in s) i ≡ Some (Open o)
  stood = found-open s.connections.items s.slab i key o at was

  set_to : held_in shut ≡ slice_set (held_in s) i (Closed c)
  set_to = closed s.connections.items s.slab slab' sound.keyed i key at updates c

  pub closes : c.stream.items ≡ (connection_of o).stream → c.output.items ≡ (connection_of o).output → c.finished ≡ length (finished_of s.calls)
      → DoesEvent s (events.Close i) (Ok dones.Closed) shut
  closes stream output finished = (
    may-close (held_in s) i o stood,
    (
      refl,
      ap (λ (ks : List Held). record (world s) { connections = map connection_seen ks }) set_to ∙ closed-seen s i o c stood stream output finished,
    ),
  )

  pub closes-sound : IsSoundEngine shut
  closes-sound = closed-sound s shut i o c refl set_to (closed-keyed s.connections.items s.slab slab' sound.keyed i key at updates c) less stood sound
