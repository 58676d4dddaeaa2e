use Rattle.std.proofs.Common.{◌≡◌, ◌∙◌, Some, Ok, refl, sym, ap, subst, inl, arith}
use Rattle.std.specs.Prelude.{slice_get}
use Rattle.std.specs.Global.{Vec}
use Rattle.std.proofs.lemmas.Option.{slice_get_within}
use Rattle.nfs_model.specs.Parts.{Hand}
use Rattle.nfs_model.specs.Tree.{Layout}
use Rattle.nfs_model.specs.Events.Refusals.{Begin}
use Rattle.nfs_values.specs.Moment.{moment_of}
use Rattle.affinity.specs.declared.affinity.CallNode.{CallNode}
use Rattle.affinity.specs.Affinity.{call_node}
use Rattle.affinity.specs.Tree.{IsNode}
use Rattle.desk.specs.laws.Calls as desks
use Rattle.desk.specs.BeginRefusal.{IsRefused}
use Rattle.desk.specs.Words.{books}
use Rattle.service.specs.Jobs.{job_of, job_reply_of}
use Rattle.engine_feed.specs.Words.{HasBegun}
use Rattle.engine.specs.declared.event.Done.TheVariants.{Granted}
use Rattle.engine.specs.declared.worker.Running.{Running}
use Rattle.engine.specs.declared.worker.Worker.{Worker}
use Rattle.engine.specs.declared.worker.WorkerRun.{WorkerRun}
use Rattle.engine.specs.declared.worker.WorkerRun.TheVariants.{Idle, Begun}
use Rattle.engine.specs.declared.state.State.{State}
use Rattle.engine.specs.Seen.{worker_seen, setup_in, world}
use Rattle.engine.specs.Words.{DoesEvent}
use Rattle.engine.specs.Workers.{worker_with}
use Rattle.engine.proofs.Workers.{seen-at, idle-there, idle-asked, idle-worker, in-vector, one-worker}
use Rattle.engine.proofs.Begins.{begin-busy, begin-missing, none-waits, found-message, idle-lent, same-books, tried-affinity}
use Rattle.engine.proofs.Changed.{IsChanged, same_setup, unchanged-sound}
use Rattle.engine.proofs.Begun.{late_refused, taken_refused, worn_refused, begun_events, begun_sound}
use Rattle.engine.proofs.beginning.begin.Goals as goal

pub lend-requires-clause-idle : goal.lend-requires-clause-idle
lend-requires-clause-idle c =
    let s = c.args.state.now in
    let idle = idle-worker s.workers.items c.args.worker
    (idle-there s.workers.items c.deref.result.now c.args.worker c.is_idle.result c.deref.ensures.value c.is_idle.ensures c.if-not-is_idle.false) in
    idle-lent job_of job_reply_of (setup_in s) (world s) (books s.desk) c.requires.stands c.args.worker (worker_seen (worker_with Idle idle.0))
    (seen-at s.workers.items c.args.worker (worker_with Idle idle.0) idle.1) refl

pub unreachable-requires : goal.unreachable-requires
unreachable-requires c =
    let s = c.args.state.now in
    let found = found-message c.in-Some.affinity (slice_get s.calls.waiting c.args.place) c.in-Some.ensures.there in
    let within = slice_get_within s.calls.waiting c.args.place found.0 found.1 in
    let beyond = c.in-Err.ensures.none.0 refl in
    let no : ⊥ = absurd (omega (arith, within, beyond)) in no

pub lend-requires-clause-node : goal.lend-requires-clause-node
lend-requires-clause-node c =
    subst (λ (L : Layout). IsNode L (call_node c.in-Some.affinity)) (sym c.requires.layout) c.in-Some.ensures.node

pub set_run-requires : goal.set_run-requires
set_run-requires c =
    let s = c.args.state.now in
    let idle = idle-worker s.workers.items c.args.worker
    (idle-there s.workers.items c.deref.result.now c.args.worker c.is_idle.result c.deref.ensures.value c.is_idle.ensures c.if-not-is_idle.false) in
    in-vector s.workers c.args.worker (worker_with Idle idle.0) idle.1

-- ---- it is refused

pub returns-then-not-is_idle-clause-events : goal.returns-then-not-is_idle-clause-events
returns-then-not-is_idle-clause-events c =
    let s = c.args.state.now in
    let busy = idle-asked s.workers.items c.deref.result.now c.args.worker c.is_idle.result c.deref.ensures.value c.is_idle.ensures ∙ c.if-not-is_idle.true in
    (inl (begin-busy (setup_in s) (world s) c.args.worker c.args.place (moment_of c.args.moment) busy), refl)

pub returns-in_default-clause-events : goal.returns-in_default-clause-events
returns-in_default-clause-events c =
    let s = c.args.state.now in
    let free = idle-there s.workers.items c.deref.result.now c.args.worker c.is_idle.result c.deref.ensures.value c.is_idle.ensures c.if-not-is_idle.false in
    let none = none-waits s.calls c.args.place c.in_default.ensures.there in
    (inl (begin-missing (setup_in s) (world s) c.args.worker c.args.place (moment_of c.args.moment) free none), refl)

pub returns-then-moment-ge-SECOND-clause-events : goal.returns-then-moment-ge-SECOND-clause-events
returns-then-moment-ge-SECOND-clause-events c =
    let s = c.args.state.now in
    let free = idle-there s.workers.items c.deref.result.now c.args.worker c.is_idle.result c.deref.ensures.value c.is_idle.ensures c.if-not-is_idle.false in
    (inl (late_refused s c.requires c.args.worker c.args.place c.args.moment c.in-Some.affinity free c.in-Some.ensures.there c.if-moment-ge-SECOND.true), refl)

pub returns-in-Err-Taken-clause-events : goal.returns-in-Err-Taken-clause-events
returns-in-Err-Taken-clause-events c =
    let s = c.args.state.now in
    let free = idle-there s.workers.items c.deref.result.now c.args.worker c.is_idle.result c.deref.ensures.value c.is_idle.ensures c.if-not-is_idle.false in
    let taken = subst (λ r. IsRefused (books s.desk) (call_node c.in-Some.affinity) r) c.in-Err-Taken.field-0-is c.in-Err-Taken.ensures.refused in (
      inl (taken_refused s c.requires c.args.worker c.args.place c.args.moment c.in-Some.affinity free c.in-Some.ensures.there
          c.if-moment-ge-SECOND.false taken),
      same-books (world s) (books s.desk) (books c.lend.new.desk) c.in-Err-Taken.ensures.same,
    )

pub returns-in-Err-Taken-clause-sound : goal.returns-in-Err-Taken-clause-sound
returns-in-Err-Taken-clause-sound c =
    let s = c.args.state.now in
    unchanged-sound s (record s { desk = c.lend.new.desk }) c.in-Err-Taken.ensures.same c.in-Err-Taken.ensures.kept c.requires

pub returns-in-Err-Worn-clause-sound : goal.returns-in-Err-Worn-clause-sound
returns-in-Err-Worn-clause-sound c =
    let s = c.args.state.now in
    unchanged-sound s (record s { desk = c.lend.new.desk }) c.in-Err-Worn.ensures.same c.in-Err-Worn.ensures.kept c.requires

pub returns-in-Err-Worn-clause-events : goal.returns-in-Err-Worn-clause-events
returns-in-Err-Worn-clause-events c =
    let s = c.args.state.now in
    let free = idle-there s.workers.items c.deref.result.now c.args.worker c.is_idle.result c.deref.ensures.value c.is_idle.ensures c.if-not-is_idle.false in
    let worn = subst (λ r. IsRefused (books s.desk) (call_node c.in-Some.affinity) r) c.in-Err-Worn.field-0-is c.in-Err-Worn.ensures.refused in (
      inl (worn_refused s c.requires c.args.worker c.args.place c.args.moment c.in-Some.affinity free c.in-Some.ensures.there
          c.if-moment-ge-SECOND.false worn),
      same-books (world s) (books s.desk) (books c.lend.new.desk) c.in-Err-Worn.ensures.same,
    )

-- ---- it begins

module _ (c : goal.After-set_run) where
  abbrev s : State
  s = c.args.state.now

  abbrev new : State
  new = record s { calls = c.begin.new.self; workers = c.set_run.new.workers; desk = c.lend.new.desk }

  abbrev r : Running
  r = record { message = c.in-Ok-begin.message; moment = c.args.moment }

  takes : HasBegun s.calls c.args.place r.message new.calls
  takes = c.in-Ok-begin.ensures.begun

  -- what the worker carries
  abbrev hand : Hand
  hand = c.set_run.ensures.1

  changed : IsChanged s new c.args.worker (worker_with Idle hand) (worker_with (Begun r) hand)
  changed = record {
    there =
        (let free = idle-there s.workers.items c.deref.result.now c.args.worker c.is_idle.result c.deref.ensures.value c.is_idle.ensures
        c.if-not-is_idle.false in
        let idle = idle-worker s.workers.items c.args.worker free in
        let same = one-worker (slice_get s.workers.items c.args.worker) Idle c.set_run.ensures.0 idle.0 hand idle.1 c.set_run.ensures.2 in
        c.set_run.ensures.2 ∙ ap (λ (x : WorkerRun). Some (worker_with x hand)) (sym same.0));
    set = ap (λ (v : Vec Worker). v.items) c.set_run.ensures.3;
    offer = refl;
    verifier = refl;
    layout = takes.layout;
    many = refl;
  }

  -- the affinity that was told of the place is the message's
  tried : c.in-Some.affinity ≡ r.message.affinity
  tried = tried-affinity c.in-Some.affinity (slice_get s.calls.waiting c.args.place) r.message c.in-Some.ensures.there takes.there

  begins : desks.HasBegun (books s.desk) c.args.worker (call_node r.message.affinity) (books new.desk)
  begins = subst (λ (a : CallNode). desks.HasBegun (books s.desk) c.args.worker (call_node a) (books new.desk)) tried c.in-Ok.ensures.begun

pub returns-in-Ok-begin-clause-events : goal.returns-in-Ok-begin-clause-events
returns-in-Ok-begin-clause-events c =
    subst (λ (a : CallNode). DoesEvent (s c) (Begin c.args.worker c.args.place (moment_of c.args.moment)) (Ok (Granted a)) (new c)) (sym (tried c))
    (begun_events (s c) (new c) c.requires c.args.worker c.args.place (r c) (hand c) (changed c) refl c.requires.keyed refl
    c.in-Ok.ensures.kept (begins c) (takes c)
    c.if-moment-ge-SECOND.false)

pub returns-in-Ok-begin-clause-sound : goal.returns-in-Ok-begin-clause-sound
returns-in-Ok-begin-clause-sound c =
    begun_sound (s c) (new c) c.requires c.args.worker c.args.place (r c) (hand c) (changed c) refl c.requires.keyed refl
    c.in-Ok.ensures.kept (begins c) (takes c)

pub returns-in-Ok-begin-clause-setup : goal.returns-in-Ok-begin-clause-setup
returns-in-Ok-begin-clause-setup c = same_setup (changed c)
