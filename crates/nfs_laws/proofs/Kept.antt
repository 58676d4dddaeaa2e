-- Each event keeps the headline, where the calls that run after it agree.
use Rattle.std.proofs.Common.{◌≡◌, ℕ, Bool, true, false, List, [], ◌∷◌, ◌++◌, Option, Some, None, Result, Ok, Err, refl, sym, ap, subst, ◌∙◌}
use Rattle.std.specs.Prelude.{slice_get, is_some, if◌then◌else◌, ◌&&◌}
use Rattle.nfs_model.specs.Tree.{Logical, range_blocks_of}
use Rattle.nfs_model.specs.World.{Setup, World, Message, Worker, IsScan}
use Rattle.nfs_model.specs.Parts.{Hand, Empty, Fresh, Dead}
use Rattle.nfs_model.specs.Events.Refusals.{Event, Open, Feed, Close, Begin, Work, Finish, Fetch, Cull, PutDown, Survey, Done, is_open, is_idle, is_busy}
use Rattle.nfs_model.specs.Events.Refusals.{is_bad_moment, takes_input, begin_refusal, excluded, fetch_refusal, has_empty_hand}
use Rattle.nfs_model.specs.Events.Refusals.{is_empty_hand, refusal}
use Rattle.nfs_model.specs.Events.Step.{Happens, Events, Runs}
use Rattle.nfs_model.specs.Headline.{Kept}
use Rattle.nfs_laws.proofs.Lists.{none_is}
use Rattle.nfs_model.specs.Agreed.{IsAgreed}
use Rattle.nfs_laws.specs.Undisturbed.{WorksNone}
use Rattle.nfs_laws.proofs.Needs.{NeedsAgreed}
use Rattle.nfs_laws.proofs.KeptByConnections.{keeps_open, keeps_close, open_is}
use Rattle.nfs_laws.proofs.KeptByFeed.{keeps_walk}
use Rattle.nfs_laws.proofs.Walked.{walk_of_feed}
use Rattle.nfs_laws.proofs.KeptByBlocks.{keeps_fetched, keeps_culled, keeps_put_down, keeps_survey}
use Rattle.nfs_laws.proofs.KeptByWorkers.{keeps_begin, keeps_work, keeps_finish}

-- ---- what isn't refused

allowed_if : (b : Bool) (n : ℕ) (rest : Option ℕ) → (if b then rest else Some n) ≡ None → (b ≡ true) × (rest ≡ None)
allowed_if true n rest e = (refl, e)
allowed_if false n rest e = absurd cc

allowed_unless : (b : Bool) (n : ℕ) (rest : Option ℕ) → (if b then Some n else rest) ≡ None → (b ≡ false) × (rest ≡ None)
allowed_unless true n rest e = absurd cc
allowed_unless false n rest e = (refl, e)

-- a worker that runs nothing
record IsIdle (w : World) (i : ℕ) : Type 0 where
  worker : Worker
  there : slice_get w.workers i ≡ Some worker
  idle : worker.running ≡ None

idle_at : (w : World) (i : ℕ) (o : Option Worker) → slice_get w.workers i ≡ o → is_idle o ≡ true → IsIdle w i
idle_at w i None e t = absurd cc
idle_at w i (Some k) e t = record { worker = k; there = e; idle = none_is k.running t }

-- a message that begins isn't excluded
begun_free : (setup : Setup) (w : World) (place : ℕ) (m : Message) (moment : _) → slice_get w.waiting place ≡ Some m
    → begin_refusal setup w moment (slice_get w.waiting place) ≡ None → is_busy setup w m.affinity ≡ false
begun_free setup w place m moment at e =
    let f : begin_refusal setup w moment (Some m) ≡ None = ap (λ (o : Option Message). begin_refusal setup w moment o) (sym at) ∙ e in
    (allowed_unless (is_busy setup w m.affinity) 21 _ (allowed_unless (is_bad_moment moment) 37 (excluded setup w m.affinity) f).1).0

-- a worker whose hand is empty
record HasEmptyHand (w : World) (i : ℕ) : Type 0 where
  worker : Worker
  there : slice_get w.workers i ≡ Some worker
  empty : worker.hand ≡ Empty

empty_is : (hand : Hand) → is_empty_hand hand ≡ true → hand ≡ Empty
empty_is Empty e = refl
empty_is (Fresh volume blocks) e = absurd cc
empty_is (Dead volume blocks) e = absurd cc

empty_at : (w : World) (i : ℕ) (o : Option Worker) → slice_get w.workers i ≡ o → has_empty_hand o ≡ true → HasEmptyHand w i
empty_at w i None e t = absurd cc
empty_at w i (Some k) e t = record { worker = k; there = e; empty = empty_is k.hand t }

second_true : (a b : Bool) → (a && b) ≡ true → b ≡ true
second_true true b e = e
second_true false b e = absurd cc

empty_handed : (w : World) (i : ℕ) (rest : Option ℕ)
    → (if is_idle (slice_get w.workers i) && has_empty_hand (slice_get w.workers i) then rest else Some 33) ≡ None → HasEmptyHand w i
empty_handed w i rest e =
    empty_at w i (slice_get w.workers i) refl
    (second_true (is_idle (slice_get w.workers i)) (has_empty_hand (slice_get w.workers i))
    (allowed_if (is_idle (slice_get w.workers i) && has_empty_hand (slice_get w.workers i)) 33 rest e).0)

-- ---- each event

module _ (setup : Setup) (scan : IsScan setup.codec) where
  happens_kept : (w : World) (event : Event) (done : Done) (new : World) → refusal setup w event ≡ None → NeedsAgreed setup event new
      → Happens setup w event done new → Kept setup w → Kept setup new
  happens_kept w Open done new allowed agreed p h = subst (λ (v : World). Kept setup v) (sym p.1) (keeps_open setup w scan h)
  happens_kept w (Feed c bytes) done new allowed agreed p h =
      let takes = (allowed_if (takes_input setup (slice_get w.connections c)) 36 None allowed).0 in
      keeps_walk setup w c bytes p.0 p.1 new scan takes (walk_of_feed setup w c bytes p.0 p.1 new scan takes p.3) h
  happens_kept w (Close c) done new allowed agreed p h =
      subst (λ (v : World). Kept setup v) (sym p.1) (keeps_close setup w c (open_is w c (allowed_if (is_open (slice_get w.connections c)) 36 None allowed).0) h)
  happens_kept w (Begin worker place moment) done new allowed agreed p h =
      let free = allowed_if (is_idle (slice_get w.workers worker)) 33 (begin_refusal setup w moment (slice_get w.waiting place)) allowed in
      let k = idle_at w worker (slice_get w.workers worker) refl free.0 in
      subst (λ (v : World). Kept setup v) (sym p.3)
      (keeps_begin setup w worker k.worker place p.0 moment k.there k.idle p.1 (begun_free setup w place p.0 moment p.1 free.1) h)
  happens_kept w (Work worker) done new allowed agreed p h =
      subst (λ (v : World). Kept setup v) (sym p.8) (keeps_work setup w worker p.0 p.1 p.2 p.3 (subst (λ (v : World). IsAgreed setup v) p.8 agreed) p.4 p.5 h)
  happens_kept w (Finish worker) done new allowed agreed p h =
      subst (λ (v : World). Kept setup v) (sym p.7)
      (keeps_finish setup w worker p.0 p.1 p.2 (subst (λ (v : World). IsAgreed setup v) p.7 agreed) scan p.3 p.4 p.5 h)
  happens_kept w (Fetch worker volume range) done new allowed agreed p h =
      let k = empty_handed w worker (fetch_refusal setup w volume range (slice_get w.server.volumes volume)) allowed in
      keeps_fetched setup w worker volume (range_blocks_of setup.layout volume) range p.2 k.worker p.0 p.1 new k.there k.empty p.3.3 p.4 p.6 h
  happens_kept w (Cull worker volume) done new allowed agreed p h =
      let k = empty_handed w worker (if is_some (slice_get w.server.volumes volume) then excluded setup w (Logical volume) else Some 41) allowed in
      keeps_culled setup w worker volume (range_blocks_of setup.layout volume) p.2 k.worker p.0 p.1 new k.there k.empty p.3.3 p.4 p.6 h
  happens_kept w (PutDown worker) done new allowed agreed p h = keeps_put_down setup w worker p.2 p.0 p.1 new p.3 p.4 p.6 h
  happens_kept w (Survey worker volume) done new allowed agreed p h = subst (λ (v : World). Kept setup v) (sym p.7) (keeps_survey setup w h)

-- an event that isn't Work or Finish needs nothing
needs_agreed : (setup : Setup) (event : Event) (new : World) → IsAgreed setup new → NeedsAgreed setup event new
needs_agreed setup (Work worker) new a = a
needs_agreed setup (Finish worker) new a = a
needs_agreed setup Open new a = tt
needs_agreed setup (Feed c bytes) new a = tt
needs_agreed setup (Close c) new a = tt
needs_agreed setup (Begin worker place moment) new a = tt
needs_agreed setup (Fetch worker volume range) new a = tt
needs_agreed setup (Cull worker volume) new a = tt
needs_agreed setup (PutDown worker) new a = tt
needs_agreed setup (Survey worker volume) new a = tt

module _ (setup : Setup) (scan : IsScan setup.codec) where
  -- whatever an event is answered
  pub keeps : (w : World) (event : Event) (answer : Result Done ℕ) (new : World) → Kept setup w → IsAgreed setup new → Events setup w event answer new
      → Kept setup new
  keeps w event (Ok done) new h agreed e = happens_kept setup scan w event done new e.0 (needs_agreed setup event new agreed) e.1 h
  keeps w event (Err number) new h agreed e = subst (λ (v : World). Kept setup v) (sym e.1) h

-- what is kept agrees
agreed_of : (setup : Setup) (w : World) → Kept setup w → IsAgreed setup w
agreed_of setup w k = record { state = k.headline.state; outcomes = k.outcomes; partition = k.headline.partition }

needs_nothing : (setup : Setup) (event : Event) (new : World) → WorksNone event → NeedsAgreed setup event new
needs_nothing setup (Work worker) new n = absurd n
needs_nothing setup (Finish worker) new n = absurd n
needs_nothing setup Open new n = tt
needs_nothing setup (Feed c bytes) new n = tt
needs_nothing setup (Close c) new n = tt
needs_nothing setup (Begin worker place moment) new n = tt
needs_nothing setup (Fetch worker volume range) new n = tt
needs_nothing setup (Cull worker volume) new n = tt
needs_nothing setup (PutDown worker) new n = tt
needs_nothing setup (Survey worker volume) new n = tt

-- where no call is worked or finished
pub others_agree : (setup : Setup) (scan : IsScan setup.codec) (w : World) (event : Event) (answer : Result Done ℕ) (new : World)
    → WorksNone event → Kept setup w → Events setup w event answer new → IsAgreed setup new
others_agree setup scan w event (Ok done) new none h e =
    agreed_of setup new (happens_kept setup scan w event done new e.0 (needs_nothing setup event new none) e.1 h)
others_agree setup scan w event (Err number) new none h e =
    agreed_of setup new (subst (λ (v : World). Kept setup v) (sym e.1) h)

-- a run goes on by one event
pub Runs-push : (setup : Setup) (old : World) (events : List Event) (middle : World) (event : Event) (answer : Result Done ℕ) (new : World)
    → Runs setup old events middle → Events setup middle event answer new → Runs setup old (events ++ event ∷ []) new
Runs-push setup old [] middle event answer new run e = (answer, new, subst (λ (w : World). Events setup w event answer new) run e, refl)
Runs-push setup old (x ∷ events) middle event answer new run e = (run.0, run.1, run.2, Runs-push setup run.1 events middle event answer new run.3 e)
