use Rattle.std.proofs.Common.{◌≡◌, ℕ, ◌+◌, ◌≤◌, List, ◌∙◌, Some, None, Ok, refl, sym, ap, subst, inl, arith}
use Rattle.std.specs.Prelude.{◌^◌, length, slice_get, slice_set}
use Rattle.std.specs.List.{AllByRecursion}
use Rattle.std.specs.Global.{Vec}
use Rattle.std.proofs.lemmas.List.{length-set}
use Rattle.std.proofs.lemmas.Option.{slice_get_past}
use Rattle.nfs_model.specs.Tree.{Layout}
use Rattle.nfs_model.specs.Parts.{Hand}
use Rattle.nfs_model.specs.Work.{Store}
use Rattle.nfs_model.specs.World.{Setup, World}
use Rattle.nfs_model.specs.World as worlds
use Rattle.nfs_model.specs.Events.Refusals as events
use Rattle.nfs_model.specs.Events.Step.{Events}
use Rattle.nfs_model.specs.Events.Step as steps
use Rattle.nfs_values.specs.declared.call.Call.{Call}
use Rattle.nfs_values.specs.Caller.{caller_of}
use Rattle.nfs_values.specs.Moment.{moment_of}
use Rattle.affinity.specs.Affinity.{call_node}
use Rattle.scheduler.specs.declared.message.Message.{Message}
use Rattle.depot_rule.specs.Sums.{total}
use Rattle.filer_state.specs.state.Parcels.{FilerParcel}
use Rattle.filer_state.specs.state.Contents.{filer_contents}
use Rattle.filer_state.specs.state.Deeds.{stored_all}
use Rattle.filer_state.specs.declared.files.Files.{Files}
use Rattle.desk.specs.laws.Books.{now, stamps}
use Rattle.desk.specs.laws.Calls.{DoesTask, HasWorked}
use Rattle.engine.specs.laws.Store.{FilerBooks, StandsFor}
use Rattle.engine.specs.laws.Serving.{Serving}
use Rattle.engine.specs.laws.lemmas.Working.{works, worked-stands}
use Rattle.engine.specs.laws.lemmas.Happening.{book-apart, work-happens}
use Rattle.engine.specs.laws.lemmas.Sized.{now-sized}
use Rattle.desk.specs.Words.{books}
use Rattle.service.specs.Jobs.{job_of, job_reply_of}
use Rattle.service.specs.Running.{outcome_of, IsRunAt, MovesOn, HasRunCall}
use Rattle.service.specs.lemmas.Serving.{run-tried}
use Rattle.service.specs.declared.job.Job.{Job}
use Rattle.service.specs.declared.job.JobReply.{JobReply}
use Rattle.service.specs.declared.outcome.Outcome.{Outcome}
use Rattle.engine_feed.specs.Seen.{layout_in, messages_of, running_count}
use Rattle.engine.specs.declared.worker.Running.{Running}
use Rattle.engine.specs.declared.worker.Worker.{Worker}
use Rattle.engine.specs.declared.worker.WorkerRun.TheVariants.{Idle, Begun, Worked}
use Rattle.engine.specs.counts.Counts.{world_counts}
use Rattle.engine.specs.Seen.{held_in, running_as, worker_seen, setup_in, world, done_of}
use Rattle.engine.specs.Workers.{worker_with}
use Rattle.engine.specs.Sound.{IsReady, IsPlaced, MayEnd, running_messages, room_on}
use Rattle.engine.proofs.Counted.{stands-counted}
use Rattle.engine.proofs.Lists.{all-at, all-set}
use Rattle.engine.proofs.Workers.{seen-at, runs-then, runs-again, idle-same, taken-there, work-again, work-idle, work-nobody, in-room}
use Rattle.engine.proofs.Changed.{still-setup, still-sound, still-world}
use Rattle.engine.proofs.Worked.{running-set, few-stamps, may-work, has-worked, worked-world, world_with, told-done, roomy-now, may-end}
use Rattle.engine.proofs.working.work.Goals as goal

-- ---- it is refused

pub returns-then-worker-len-clause-events : goal.returns-then-worker-len-clause-events
returns-then-worker-len-clause-events c =
    let s = c.args.state.now in
    let past = c.if-worker-len.true in
    let count = c.len.ensures in
    let size = s.workers.ok.0 in
    let most : length s.workers.items ≤ c.args.worker = omega (arith, past, count, size) in
    (inl (work-nobody s.workers.items c.args.worker (setup_in s) (world s) refl (slice_get_past s.workers.items c.args.worker most)), refl)

pub take_run-requires : goal.take_run-requires
take_run-requires c =
    let within = c.if-worker-len.false in
    let count = c.len.ensures in
    let size = c.args.state.now.workers.ok.0 in
    omega (arith, within, count, size)

pub set_run-requires : goal.set_run-requires
set_run-requires c = in-room c.args.state.now.workers c.take_run.new.workers c.args.worker _ _ c.take_run.ensures.1 c.take_run.ensures.2

module _ (c : goal.After-set_run) where
  put_again : c.set_run.new.workers.items ≡ c.args.state.now.workers.items
  put_again = runs-again c.args.state.now.workers c.take_run.new.workers c.args.worker c.take_run.result c.take_run.ensures
      (Worked c.in-Worked.running c.in-Worked.outcome) c.set_run.new.workers c.in-Worked.is c.set_run.ensures

pub returns-in-Worked-clause-events : goal.returns-in-Worked-clause-events
returns-in-Worked-clause-events c =
    let s = c.args.state.now in
    let i = c.args.worker in (
      inl (work-again s.workers.items i (setup_in s) (world s) refl c.in-Worked.running c.in-Worked.outcome c.take_run.ensures.0
          (taken-there s.workers c.take_run.new.workers i c.take_run.result c.take_run.ensures (Worked c.in-Worked.running c.in-Worked.outcome)
          c.in-Worked.is)),
      still-world s c.set_run.new.workers (put_again c),
    )

pub returns-in-Worked-clause-setup : goal.returns-in-Worked-clause-setup
returns-in-Worked-clause-setup c = still-setup c.args.state.now c.set_run.new.workers (put_again c)

pub returns-in-Worked-clause-sound : goal.returns-in-Worked-clause-sound
returns-in-Worked-clause-sound c = still-sound c.args.state.now c.set_run.new.workers (put_again c) c.requires.whole.0

pub returns-in-Worked-clause-counted : goal.returns-in-Worked-clause-counted
returns-in-Worked-clause-counted c =
    c.requires.counted ∙ ap (λ (w : World). world_counts w) (sym (still-world c.args.state.now c.set_run.new.workers (put_again c)))

pub returns-in-Idle-clause-events : goal.returns-in-Idle-clause-events
returns-in-Idle-clause-events c =
    let s = c.args.state.now in
    let i = c.args.worker in (
      inl (work-idle s.workers.items i (setup_in s) (world s) refl c.take_run.ensures.0
          (taken-there s.workers c.take_run.new.workers i c.take_run.result c.take_run.ensures Idle c.in-Idle.is)),
      still-world s c.take_run.new.workers
          (idle-same s.workers c.take_run.new.workers i c.take_run.result c.take_run.ensures c.in-Idle.is),
    )

pub returns-in-Idle-clause-setup : goal.returns-in-Idle-clause-setup
returns-in-Idle-clause-setup c =
    still-setup c.args.state.now c.take_run.new.workers
    (idle-same c.args.state.now.workers c.take_run.new.workers c.args.worker c.take_run.result c.take_run.ensures c.in-Idle.is)

pub returns-in-Idle-clause-sound : goal.returns-in-Idle-clause-sound
returns-in-Idle-clause-sound c =
    still-sound c.args.state.now c.take_run.new.workers
    (idle-same c.args.state.now.workers c.take_run.new.workers c.args.worker c.take_run.result c.take_run.ensures c.in-Idle.is)
    c.requires.whole.0

pub returns-in-Idle-clause-counted : goal.returns-in-Idle-clause-counted
returns-in-Idle-clause-counted c =
    c.requires.counted
    ∙ ap (λ (w : World). world_counts w) (sym (still-world c.args.state.now c.take_run.new.workers
    (idle-same c.args.state.now.workers c.take_run.new.workers c.args.worker c.take_run.result c.take_run.ensures c.in-Idle.is)))

-- ---- it is run

pub run_on-outcome-requires-clause-may : goal.run_on-outcome-requires-clause-may
run_on-outcome-requires-clause-may c =
    let s = c.args.state.now in
    let i = c.args.worker in
    let r = c.in-Begun.running in
    let sound = c.requires.whole.0 in
    let found = taken-there s.workers c.take_run.new.workers i c.take_run.result c.take_run.ensures (Begun r) c.in-Begun.is in
    let ran : Worker = worker_with (Begun r) c.take_run.ensures.0 in
    let placed = (all-at (IsReady (layout_in s.calls) (length (held_in s))) s.workers.items i ran sound.workers found).0 in
    may-work job_of job_reply_of (setup_in s) (world s) (books s.desk) sound.stands i (worker_seen ran) (seen-at s.workers.items i ran found)
    (running_as r None) refl refl (few-stamps _ (running_count s.calls) sound.stamps) r.message.call
    (subst (λ (l : Layout). IsRunAt l r.message.call (call_node r.message.affinity)) (sym sound.layout) placed.run)

pub run_on-outcome-requires-clause-counted : goal.run_on-outcome-requires-clause-counted
run_on-outcome-requires-clause-counted c =
    let s = c.args.state.now in
    c.requires.counted ∙ stands-counted job_of job_reply_of (setup_in s) (world s) (books s.desk) c.requires.whole.0.stands

pub run_on-outcome-requires-clause-sized : goal.run_on-outcome-requires-clause-sized
run_on-outcome-requires-clause-sized c =
    let s = c.args.state.now in
    now-sized job_of job_reply_of (setup_in s) (world s) (books s.desk) c.requires.whole.0.stands

pub set_run-requires-2 : goal.set_run-requires-2
set_run-requires-2 c = in-room c.args.state.now.workers c.take_run.new.workers c.args.worker _ _ c.take_run.ensures.1 c.take_run.ensures.2

-- ---- what was worked

module _ (c : goal.After-set_run-2) where
  abbrev i : ℕ
  i = c.args.worker

  abbrev setup : Setup
  setup = setup_in c.args.state.now

  abbrev old : World
  old = world c.args.state.now

  abbrev L : Layout
  L = layout_in c.args.state.now.calls

  abbrev ks : List Worker
  ks = c.args.state.now.workers.items

  abbrev r : Running
  r = c.in-Begun.running

  abbrev o : Outcome
  o = c.run_on-outcome.result

  -- the books before and after it
  abbrev b : FilerBooks Files Job JobReply
  b = books c.args.state.now.desk

  abbrev next : FilerBooks Files Job JobReply
  next = books c.run_on-outcome.new.desk

  -- the workers after it
  abbrev ks' : List Worker
  ks' = c.set_run-2.new.workers.items

  abbrev Serves : Call → DoesTask (FilerParcel Files) Outcome
  Serves call layout node before x end =
      HasRunCall call (caller_of r.message.caller) (moment_of r.moment) layout node before x end

  abbrev after : Store
  after = stored_all (filer_contents next.layout (now next))

  abbrev Ready : Worker → Type 0
  Ready = IsReady L (length (held_in c.args.state.now))

  -- what the worker carries
  abbrev hand : Hand
  hand = c.take_run.ensures.0

  abbrev ran : Worker
  ran = worker_with (Begun r) hand

  there : slice_get ks i ≡ Some ran
  there = taken-there c.args.state.now.workers c.take_run.new.workers i c.take_run.result c.take_run.ensures (Begun r) c.in-Begun.is

  seen : slice_get old.workers i ≡ Some (worker_seen ran)
  seen = seen-at ks i ran there

  placed : IsPlaced L (length (held_in c.args.state.now)) r.message
  placed = (all-at Ready ks i ran c.requires.whole.0.workers there).0

  did : HasWorked (Serves r.message.call) b i o next
  did = c.run_on-outcome.ensures.worked

  served : HasWorked (Serving (running_as r None)) b i (outcome_of o) next
  served = has-worked job_of job_reply_of setup old b c.requires.whole.0.stands i (worker_seen ran) seen (running_as r None) refl refl
      r.message.call (caller_of r.message.caller) (moment_of r.moment) refl refl o next did

  are : ks' ≡ slice_set ks i (worker_with (Worked r o) hand)
  are =
      let put = c.set_run-2.ensures in
      runs-then ks c.take_run.new.workers.items ks' i (Begun r) (Worked r o) put.0 hand put.1 there
      (ap (λ (v : Vec Worker). v.items) c.take_run.ensures.2) put.2 (ap (λ (v : Vec Worker). v.items) put.3)

  abbrev new : World
  new = world_with old next ks'

  new_is : new ≡ steps.worked old i (running_as r None) (outcome_of o) after
  new_is = worked-world old next ks ks' i r o hand refl there are (ap (λ (x : FilerBooks Files Job JobReply). stamps x) did.books)

  -- what is fixed stays
  as_many : length ks' ≡ length ks
  as_many = ap (λ (xs : List Worker). length xs) are ∙ length-set ks i (worker_with (Worked r o) hand)

  abbrev setup_new : Setup
  setup_new = record setup { workers = length ks' }

  setup_is : setup_new ≡ setup
  setup_is = ap (λ n. record setup { workers = n }) as_many

  stands : StandsFor job_of job_reply_of setup_new new next
  stands =
      let apart = book-apart _ next _ c.run_on-outcome.ensures.kept in
      let tried = run-tried L r.message.call (caller_of r.message.caller) (call_node r.message.affinity) placed.run in
      let then = worked-stands job_of job_reply_of setup old b c.requires.whole.0.stands i (worker_seen ran) seen (running_as r None)
      refl refl (outcome_of o) next served apart tried in
      subst (λ (x : Setup). StandsFor job_of job_reply_of x new next) (sym setup_is)
      (subst (λ (x : World). StandsFor job_of job_reply_of setup x next) (sym new_is) then)

  -- what it came to may be told
  may : MayEnd L r.message o
  may =
      let roomy = roomy-now c.servers_are_roomy.ensures.begins c.servers_are_roomy.ensures.stays setup old c.has_eight.ensures
      c.requires.whole.1.headline.state in
      let comes = works job_of job_reply_of setup old b c.requires.whole.0.stands i (worker_seen ran) seen (running_as r None) refl refl
      (outcome_of o) next served in
      may-end c.replies_fit.ensures.offered L r.message placed.admitted (moment_of r.moment) (worlds.store_of old) after roomy o comes
      (subst (λ (l : Layout). MovesOn l r.message.call (outcome_of o)) c.requires.whole.0.layout did.did.1)

  ready : AllByRecursion Ready ks'
  ready = subst (λ (xs : List Worker). AllByRecursion Ready xs) (sym are)
      (all-set Ready ks i (worker_with (Worked r o) hand) c.requires.whole.0.workers
      ((placed, may), (all-at Ready ks i ran c.requires.whole.0.workers there).1))

  -- the same messages run
  running : running_messages ks' ≡ running_messages ks
  running = ap (λ (xs : List Worker). running_messages xs) are ∙ running-set ks i ran (worker_with (Worked r o) hand) there refl

pub returns-clause-events : goal.returns-clause-events
returns-clause-events c =
    let happens = work-happens job_of job_reply_of (setup c) (old c) (b c) c.requires.whole.0.stands (i c) (worker_seen (ran c)) (seen c)
    (running_as (r c) None) refl refl (outcome_of (o c)) (next c) (served c) in
    let told : done_of c.done_of-done.result ≡ steps.done_of (outcome_of (o c)) = ap done_of c.done_of-done.ensures ∙ told-done (o c) in
    subst (λ (d : events.Done). Events (setup c) (old c) (events.Work (i c)) (Ok d) (new c)) (sym told)
    (subst (λ (w : World). Events (setup c) (old c) (events.Work (i c)) (Ok (steps.done_of (outcome_of (o c)))) w) (sym (new_is c)) happens)

pub returns-clause-setup : goal.returns-clause-setup
returns-clause-setup c = setup_is c

pub returns-clause-sound : goal.returns-clause-sound
returns-clause-sound c =
    let s = c.args.state.now in
    let sound = c.requires.whole.0 in record {
      layout = ap (λ (x : FilerBooks Files Job JobReply). x.layout) (did c).books ∙ sound.layout;
      kept = c.run_on-outcome.ensures.kept;
      stands = stands c;
      running = ap (λ (ms : List (Message Call)). length ms) (running c) ∙ sound.running;
      waiting = sound.waiting;
      workers = ready c;
      few = subst (λ n. n ≤ 64) (sym (as_many c)) sound.few;
      stamps = subst (λ n. n + running_count s.calls ≤ 2 ^ 62 + 64) (sym (ap (λ (x : FilerBooks Files Job JobReply). stamps x) (did c).books)) sound.stamps;
      keyed = sound.keyed;
      opened = sound.opened;
      owed = λ n x at. sound.owed n x at
          ∙ ap (λ (ms : List (Message Call)). total (room_on n) (messages_of s.calls) + total (room_on n) ms) (sym (running c));
    }

pub returns-clause-counted : goal.returns-clause-counted
returns-clause-counted c =
    c.run_on-outcome.ensures.counted (now-sized job_of job_reply_of (setup_new c) (new c) (next c) (stands c))
    ∙ sym (stands-counted job_of job_reply_of (setup_new c) (new c) (next c) (stands c))
