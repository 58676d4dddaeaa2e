-- Bytes that come on a connection: the world, the messages and the rooms after it.
use Rattle.std.proofs.Common.{◌≡◌, ◌≢◌, ◌<◌, ◌≤◌, ℕ, zero, suc, ◌+◌, ◌^◌, inl, inr, Bool, true, List, [], ◌∷◌, ◌++◌, map, length, Option, Some, None, Ok, Err}
use Rattle.std.proofs.Common.{refl, sym, ap, subst, ◌∙◌, arith}
use Rattle.std.specs.Prelude.{is_none, slice_get, slice_set, if◌then◌else◌}
use Rattle.std.specs.List.{AllByRecursion}
use Rattle.std.proofs.lemmas.Bool.{cases_eq}
use Rattle.std.proofs.lemmas.List.{length-map, length-set, map-append, append_cancel_left}
use Rattle.std.proofs.lemmas.Option.{slice_get_within}
use Rattle.nfs_model.specs.Tree.{Layout}
use Rattle.nfs_model.specs.Home.{home_of_asked}
use Rattle.nfs_model.specs.World as worlds
use Rattle.nfs_model.specs.World.{Setup}
use Rattle.nfs_model.specs.Events.Feed.{Feeds, feeding}
use Rattle.nfs_model.specs.Events.Refusals as events
use Rattle.nfs_model.specs.Events.Refusals.{open_count, takes_input}
use Rattle.nfs_values.specs.declared.call.Call.{Call}
use Rattle.affinity.specs.Affinity.{call_node}
use Rattle.scheduler.specs.declared.message.Message.{Message}
use Rattle.depot_rule.specs.Sums.{total}
use Rattle.depot_rule.specs.lemmas.Sums.{total-append}
use Rattle.filer_state.specs.state.Contents.{filer_contents}
use Rattle.filer_state.specs.state.Tree.{volume_of}
use Rattle.filer_state.specs.laws.lemmas.Steps.{laid-out}
use Rattle.desk.specs.laws.Books.{now, stamps}
use Rattle.engine.specs.laws.Store.{StandsFor}
use Rattle.engine.specs.laws.lemmas.Feeding.{WithoutHomeStays, all-append, fed-stands, feed-adds}
use Rattle.desk.specs.Words.{books}
use Rattle.service.specs.Jobs.{job_of, job_reply_of}
use Rattle.service.specs.lemmas.Homes.{at-home}
use Rattle.rpc_msg.specs.declared.offer.Offer.{Offer}
use Rattle.engine_feed.specs.declared.stop.Stop.{Stop}
use Rattle.engine_feed.specs.declared.state.ConnectionState.{ConnectionState}
use Rattle.engine_feed.specs.declared.state.CallsState.{CallsState}
use Rattle.engine_feed.specs.Numbers.{stop_number}
use Rattle.engine_feed.specs.Seen.{connection_of, owed_by, layout_in, messages_of, message_of}
use Rattle.engine_feed.specs.Sound.{IsAdmitted}
use Rattle.engine_feed.specs.Within.{IsPartOf, with_part}
use Rattle.engine_feed.specs.Words.{TakesInput, IsOwn, rooms}
use Rattle.slab.specs.Slab.{Slab, slab_len}
use Rattle.engine.specs.declared.connection.Connection.TheVariants as places
use Rattle.engine.specs.Connections.{Held, Open, key_at, AreKeyed}
use Rattle.engine.specs.declared.event.Done.TheVariants as dones
use Rattle.engine.specs.declared.event.Refusal.TheVariants as refusals
use Rattle.engine.specs.declared.state.State.{State}
use Rattle.engine.specs.declared.worker.Worker.{Worker}
use Rattle.engine.specs.Receiving.{takes_bytes, IsFed, ReceivesUnder}
use Rattle.engine.specs.Seen.{connection_seen, held_in, setup_in, world}
use Rattle.engine.specs.Sound.{IsSoundEngine, IsPlaced, IsReady, room_on}
use Rattle.engine.specs.Words.{DoesEvent}
use Rattle.engine.proofs.Lists.{all-after, all-later, set-here, set-elsewhere}
use Rattle.engine.proofs.Placed.{kept_on, room-own, room-other}
use Rattle.engine.proofs.Workers.{count-running}
use Rattle.engine.proofs.Keyed.{takes-none, found-open, written, written-keyed, written-len}
use Rattle.engine.proofs.Closing.{seen-at, seen-set, set-same}
use Rattle.engine.proofs.Reconnected.{reserved-sound}

-- ---- what is answered

pub none-of : {A : Type 0} (o : Option A) → is_none o ≡ true → o ≡ None
none-of None e = refl
none-of (Some x) e = absurd cc

abbrev if_takes : Bool → Option ℕ
if_takes b = if b then None else Some 36

may-take : (s : State) (i : ℕ) (d : Held) (b : Bool) → slice_get (held_in s) i ≡ Some d → takes_bytes s.offer d ≡ b
    → if_takes (takes_input (setup_in s) (slice_get (world s).connections i)) ≡ if_takes b
may-take s i d b there is =
    ap (λ (x : Option worlds.Connection). if_takes (takes_input (setup_in s) x)) (seen-at (held_in s) i d there) ∙ ap if_takes is

-- where a number has no open connection
may-not-take : (s : State) (i : ℕ) → key_at (slice_get s.connections.items i) ≡ None
    → if_takes (takes_input (setup_in s) (slice_get (world s).connections i)) ≡ Some 36
may-not-take s i none = ap if_takes (takes-none (setup_in s) s.connections.items s.slab i none)

open-takes : (offer : Offer) (d : Held) (o : ConnectionState) → d ≡ Open o → TakesInput o → takes_bytes offer d ≡ true
open-takes offer d o is takes = ap (takes_bytes offer) is ∙ ap (λ (f : Option ℕ). is_none f) (takes offer)

-- ---- how many are open

count-fed : (cs : List Held) (i : ℕ) (o x : ConnectionState) → slice_get cs i ≡ Some (Open o)
    → open_count (map connection_seen (slice_set cs i (Open x))) ≡ open_count (map connection_seen cs)
count-fed [] i o x e = refl
count-fed (d ∷ cs) zero o x e =
    let same : d ≡ Open o = cc in
    sym (ap (λ (k : Held). open_count (map connection_seen (k ∷ cs))) same)
count-fed (d ∷ cs) (suc i) o x e = let t = count-fed cs i o x e in omega (arith, t)

-- ---- where messages are placed

abbrev IsKnown : ℕ → Message Call → Type 0
IsKnown n m = m.origin.connection.0 < n

abbrev IsAtHome : Layout → worlds.Message → Type 0
IsAtHome layout m = home_of_asked layout m.asked ≡ Some m.affinity

placed-more : (layout : Layout) (n : ℕ) (ms : List (Message Call)) → AllByRecursion (IsAdmitted layout) ms → AllByRecursion (IsKnown n) ms
    → AllByRecursion (IsAtHome layout) (map message_of ms) → AllByRecursion (IsPlaced layout n) ms
placed-more layout n [] admitted known at_home = tt
placed-more layout n (m ∷ ms) admitted known at_home = (
  record {
    admitted = admitted.0;
    known = known.0;
    run = at-home layout m.call (call_node m.affinity) at_home.0;
  },
  placed-more layout n ms admitted.1 known.1 at_home.1,
)

own-known : (n number : ℕ) → number < n → (m : Message Call) → IsOwn number m → IsKnown n m
own-known n number less m own = let e = own.connection in omega (arith, e, less)

-- ---- rooms

rooms-own : (number : ℕ) (more : List (Message Call)) → AllByRecursion (IsOwn number) more → total (room_on number) more ≡ rooms more
rooms-own number [] own = refl
rooms-own number (m ∷ more) own =
    let this = room-own number m own.0.connection in
    let rest = rooms-own number more own.1 in
    omega (arith, this, rest)

rooms-other : (number c : ℕ) → c ≢ number → (more : List (Message Call)) → AllByRecursion (IsOwn number) more → total (room_on c) more ≡ 0
rooms-other number c d [] own = refl
rooms-other number c d (m ∷ more) own =
    let this = room-other c m (λ e. d (sym e ∙ own.0.connection)) in
    let rest = rooms-other number c d more own.1 in
    omega (arith, this, rest)

-- what is kept on a connection, with what more messages keep
kept-more : (c kept : ℕ) (ms more all : List (Message Call)) (ws : List Worker) → all ≡ ms ++ more → total (room_on c) more ≡ kept
    → kept_on c all ws ≡ kept_on c ms ws + kept
kept-more c kept ms more all ws is sum =
    let whole = ap (total (room_on c)) is ∙ total-append (room_on c) ms more in
    omega (arith, whole, sum)

-- the connection that bytes came on owes the rooms of its new messages more, and the others what they owed
fed-owed : (cs : List Held) (number : ℕ) (before after : ConnectionState) (ms more all : List (Message Call)) (ws : List Worker)
    → slice_get cs number ≡ Some (Open before) → all ≡ ms ++ more → AllByRecursion (IsOwn number) more → owed_by after ≡ owed_by before + rooms more
    → ((c : ℕ) (x : ConnectionState) → slice_get cs c ≡ Some (Open x) → owed_by x ≡ kept_on c ms ws)
    → (c : ℕ) (x : ConnectionState) → slice_get (slice_set cs number (Open after)) c ≡ Some (Open x) → owed_by x ≡ kept_on c all ws
fed-owed cs number before after ms more all ws there is own owes owed c x e = elim (cases_eq c number) [
  | inl same ↦
      let here : slice_get (slice_set cs number (Open after)) c ≡ Some (Open after) =
      ap (slice_get (slice_set cs number (Open after))) same ∙ set-here cs number (Open before) (Open after) there in
      let it : after ≡ x = same-open after x (sym here ∙ e) in
      let was = owed c before (ap (slice_get cs) same ∙ there) in
      let kept = kept-more c (rooms more) ms more all ws is (ap (λ (n : ℕ). total (room_on n) more) same ∙ rooms-own number more own) in
      let now_owed = ap owed_by it in
      omega (arith, was, kept, owes, now_owed)
  | inr other ↦
      let was = owed c x (sym (set-elsewhere cs number c (Open after) other) ∙ e) in
      let kept = kept-more c 0 ms more all ws is (rooms-other number c other more own) in
      omega (arith, was, kept)
]
  where
    same-open : (a b : ConnectionState) → Some (Open a) ≡ Some (Open b) → a ≡ b
    same-open a b e = cc

-- ---- the world

is-part : (s : State) (number : ℕ) (before : ConnectionState) → IsSoundEngine s → slice_get (held_in s) number ≡ Some (Open before)
    → IsPartOf s.calls number before (world s)
is-part s number before sound there =
    let b = books s.desk in
    let laid = laid-out b.layout (now b) in
    record {
      connection = seen-at (held_in s) number (Open before) there;
      shows = record { waiting = refl; finished = refl };
      running = count-running s.workers.items ∙ sound.running;
      volumes = length-map (filer_contents b.layout (now b)).volumes volume_of ∙ laid.volumes
          ∙ ap (λ (layout : Layout). length layout.volumes) sound.layout;
    }

abbrev fed_state : State → State → State
fed_state s new = record s { connections = new.connections; slab = new.slab; calls = new.calls }

world-fed : (s new : State) (number : ℕ) (before after : ConnectionState) → held_in new ≡ slice_set (held_in s) number (Open after)
    → slice_get (held_in s) number ≡ Some (Open before) → with_part new.calls number after (world s) ≡ world (fed_state s new)
world-fed s new number before after items there =
    ap (λ (cs : List worlds.Connection). record (world (fed_state s new)) { connections = cs })
    (sym (ap (map connection_seen) items
    ∙ seen-set (λ (x : worlds.Connection). connection_of after) (held_in s) number (Open before) (Open after) there refl))

-- the setup of other calls of the same layout
setup-same : (s new : State) → layout_in new.calls ≡ layout_in s.calls → setup_in (fed_state s new) ≡ setup_in s
setup-same s new e = ap (λ (l : Layout). record (setup_in s) { layout = l }) e

-- ---- the state

-- a place that bytes came on
module _ (stays : WithoutHomeStays) (s new : State) (sound : IsSoundEngine s) (number : ℕ) (bytes : List ℕ) (taken : ℕ) (stop : Stop) (d d' : Held)
    (at : slice_get (held_in s) number ≡ Some d) (items : held_in new ≡ slice_set (held_in s) number d')
    (f : IsFed s.offer s.calls d number bytes taken stop new.calls d') (keyed : AreKeyed new.connections.items new.slab)
    (as_many : slab_len new.slab ≡ slab_len s.slab) (same : new ≡ fed_state s new) where
  there : slice_get (held_in s) number ≡ Some (Open f.before)
  there = at ∙ ap (λ (k : Held). Some k) f.was

  set_to : held_in new ≡ slice_set (held_in s) number (Open f.after)
  set_to = items ∙ ap (slice_set (held_in s) number) f.is

  happens-fed : Feeds (setup_in s) (feeding number bytes taken (stop_number stop)) (world s) (world (fed_state s new))
  happens-fed =
      subst (Feeds (setup_in s) (feeding number bytes taken (stop_number stop)) (world s)) (world-fed s new number f.before f.after set_to there)
      (f.feeds (setup_in s) (world s) (record { codec = refl; layout = refl }) (is-part s number f.before sound there))

  size : length (held_in new) ≡ length (held_in s)
  size = ap length items ∙ length-set (held_in s) number d'

  -- what came is at home
  come-home : AllByRecursion (IsAtHome (layout_in s.calls)) (map message_of f.adds.more)
  come-home =
      let ms = messages_of s.calls in
      let added = feed-adds stays (setup_in s) (feeding number bytes taken (stop_number stop)) (world s) (world (fed_state s new)) happens-fed in
      let same : map message_of f.adds.more ≡ added.0 =
      append_cancel_left (map message_of ms) (map message_of f.adds.more) added.0
      (sym (map-append message_of ms f.adds.more) ∙ ap (λ (xs : List (Message Call)). map message_of xs) (sym f.adds.waiting) ∙ added.1) in
      subst (AllByRecursion (IsAtHome (layout_in s.calls))) (sym same) added.2

  waits : AllByRecursion (IsPlaced (layout_in s.calls) (length (held_in s))) (messages_of new.calls)
  waits =
      let layout = layout_in s.calls in
      let n = length (held_in s) in
      let ms = messages_of s.calls in
      let more = f.adds.more in
      let admitted = subst (λ (l : Layout). AllByRecursion (IsAdmitted l) (messages_of new.calls)) f.adds.layout f.admitted in
      let own = all-later (IsOwn number) (IsKnown n) more (own-known n number (slice_get_within (held_in s) number d at)) f.adds.own in
      subst (AllByRecursion (IsPlaced layout n)) (sym f.adds.waiting)
      (all-append (IsPlaced layout n) ms more sound.waiting
      (placed-more layout n more (all-after (IsAdmitted layout) ms more (subst (AllByRecursion (IsAdmitted layout)) f.adds.waiting admitted)) own come-home))

  sound-fed : IsSoundEngine (fed_state s new)
  sound-fed =
      let cs = held_in s in
      let ws = s.workers.items in
      let to = sym f.adds.layout in
      let n = length (held_in new) in
      record {
        layout = sound.layout ∙ to;
        kept = sound.kept;
        stands = subst (λ (u : Setup). StandsFor job_of job_reply_of u (world (fed_state s new)) (books s.desk)) (sym (setup-same s new f.adds.layout))
            (fed-stands stays (setup_in s) job_of job_reply_of (books s.desk) (world s) sound.stands (feeding number bytes taken (stop_number stop))
            (world (fed_state s new)) happens-fed);
        running = sound.running ∙ sym f.adds.running;
        waiting = subst (λ (l : Layout). AllByRecursion (IsPlaced l n) (messages_of new.calls)) to
            (subst (λ (k : ℕ). AllByRecursion (IsPlaced (layout_in s.calls) k) (messages_of new.calls)) (sym size) waits);
        workers = subst (λ (l : Layout). AllByRecursion (IsReady l n) ws) to
            (subst (λ (k : ℕ). AllByRecursion (IsReady (layout_in s.calls) k) ws) (sym size) sound.workers);
        few = sound.few;
        stamps = subst (λ (k : ℕ). stamps (books s.desk) + k ≤ 2 ^ 62 + 64) (sym f.adds.running) sound.stamps;
        keyed = keyed;
        opened = as_many ∙ sound.opened ∙ sym (ap (λ (ks : List Held). open_count (map connection_seen ks)) set_to
            ∙ count-fed cs number f.before f.after there);
        owed = subst (λ (ks : List Held). (c : ℕ) (x : ConnectionState) → slice_get ks c ≡ Some (Open x)
            → owed_by x ≡ kept_on c (messages_of new.calls) ws) (sym set_to)
            (fed-owed cs number f.before f.after (messages_of s.calls) f.adds.more (messages_of new.calls) ws there f.adds.waiting f.adds.own
            f.adds.owed sound.owed);
      }

  -- what the model says of it
  happens : Feeds (setup_in s) (feeding number bytes taken (stop_number stop)) (world s) (world new)
  happens = subst (λ (x : State). Feeds (setup_in s) (feeding number bytes taken (stop_number stop)) (world s) (world x)) (sym same) happens-fed

  fed-sound : IsSoundEngine new
  fed-sound = subst IsSoundEngine (sym same) sound-fed

-- a place that took none
module _ (s new : State) (number : ℕ) (d d' : Held) (at : slice_get (held_in s) number ≡ Some d)
    (items : held_in new ≡ slice_set (held_in s) number d') (stays : d' ≡ d) (calls : new.calls ≡ s.calls)
    (keyed : AreKeyed new.connections.items new.slab) (as_many : slab_len new.slab ≡ slab_len s.slab) (same : new ≡ fed_state s new) where
  same_items : held_in new ≡ held_in s
  same_items = items ∙ ap (slice_set (held_in s) number) stays ∙ set-same (held_in s) number d at

  unfed-world : world new ≡ world s
  unfed-world =
      ap world same ∙ ap (λ (x : CallsState). world (record s { connections = new.connections; slab = new.slab; calls = x })) calls
      ∙ ap (λ (cs : List Held). record (world s) { connections = map connection_seen cs }) same_items

  unfed-sound : IsSoundEngine s → IsSoundEngine new
  unfed-sound sound =
      subst IsSoundEngine (sym same)
      (subst (λ (x : CallsState). IsSoundEngine (record s { connections = new.connections; slab = new.slab; calls = x })) (sym calls)
      (reserved-sound s (record s { connections = new.connections; slab = new.slab }) refl same_items keyed as_many sound))

-- ---- what came of the key

-- the connection of a number that has none open takes nothing
pub shut-events : (s : State) (i : ℕ) (bytes : List ℕ) → key_at (slice_get s.connections.items i) ≡ None
    → DoesEvent s (events.Feed i bytes) (Err refusals.Closed) s
shut-events s i bytes none = (inl (may-not-take s i none), refl)

-- the open connection of a number, which is kept under its key
module _ (s : State) (sound : IsSoundEngine s) (i key : ℕ) (at : slice_get s.connections.items i ≡ Some (places.Open key)) (bytes : List ℕ)
    (calls' : CallsState) (slab' : Slab ConnectionState) where
  abbrev given : State
  given = record s { slab = slab'; calls = calls' }

  -- takes none
  module _ (r : ReceivesUnder s.offer s.calls s.slab key i bytes None calls' slab') where
    stood : slice_get (held_in s) i ≡ Some (Open r.before)
    stood = found-open s.connections.items s.slab i key r.before at r.was

    set_none : held_in given ≡ slice_set (held_in s) i (Open r.after)
    set_none = written s.connections.items s.slab slab' sound.keyed i key at r.before r.after r.was r.is

    keyed_none : AreKeyed s.connections.items slab'
    keyed_none = written-keyed s.connections.items s.slab slab' sound.keyed i key at r.before r.after r.was r.is

    many_none : slab_len slab' ≡ slab_len s.slab
    many_none = written-len s.slab slab' key r.before r.after r.was r.is

    pub untaken-events : DoesEvent s (events.Feed i bytes) (Err refusals.Closed) given
    untaken-events = (
      inl (may-take s i (Open r.before) _ stood r.receives.0),
      unfed-world s given i (Open r.before) (Open r.after) stood set_none r.receives.1 r.receives.2 keyed_none many_none refl,
    )

    pub untaken-sound : IsSoundEngine given
    untaken-sound = unfed-sound s given i (Open r.before) (Open r.after) stood set_none r.receives.1 r.receives.2 keyed_none many_none refl sound

  -- or this many
  module _ (stays : WithoutHomeStays) (taken : ℕ) (stop : Stop) (r : ReceivesUnder s.offer s.calls s.slab key i bytes (Some (taken, stop)) calls' slab') where
    stands : slice_get (held_in s) i ≡ Some (Open r.before)
    stands = found-open s.connections.items s.slab i key r.before at r.was

    set_some : held_in given ≡ slice_set (held_in s) i (Open r.after)
    set_some = written s.connections.items s.slab slab' sound.keyed i key at r.before r.after r.was r.is

    keyed_some : AreKeyed s.connections.items slab'
    keyed_some = written-keyed s.connections.items s.slab slab' sound.keyed i key at r.before r.after r.was r.is

    many_some : slab_len slab' ≡ slab_len s.slab
    many_some = written-len s.slab slab' key r.before r.after r.was r.is

    pub taken-events : DoesEvent s (events.Feed i bytes) (Ok (dones.Fed taken stop)) given
    taken-events = (
      may-take s i (Open r.before) true stands (open-takes s.offer (Open r.before) r.receives.before r.receives.was r.receives.takes),
      (
        taken,
        stop_number stop,
        refl,
        happens stays s given sound i bytes taken stop (Open r.before) (Open r.after) stands set_some r.receives keyed_some many_some refl,
      ),
    )

    pub taken-sound : IsSoundEngine given
    taken-sound = fed-sound stays s given sound i bytes taken stop (Open r.before) (Open r.after) stands set_some r.receives keyed_some many_some refl
