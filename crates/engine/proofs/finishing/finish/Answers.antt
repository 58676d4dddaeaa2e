use Rattle.std.proofs.Common.{◌≡◌, ◌≤◌, ◌<◌, ℕ, Bool, List, Some, refl, sym, ap, ◌∙◌, subst, inl, inr, arith}
use Rattle.std.specs.Prelude.{length, slice_get}
use Rattle.std.specs.Global.{Vec}
use Rattle.std.proofs.lemmas.List.{length-map, length-set}
use Rattle.std.proofs.lemmas.Option.{slice_get_past}
use Rattle.nfs_values.specs.Moment.{moment_of}
use Rattle.nfs_model.specs.Types as types
use Rattle.rpc_msg.specs.Offer.{form_of}
use Rattle.nfs_values.specs.Reply.{reply_of}
use Rattle.rpc_msg.specs.Handles.{reply_told}
use Rattle.nfs_values.specs.declared.reply.Reply.{Reply}
use Rattle.service.specs.declared.outcome.Outcome.{Outcome}
use Rattle.service.specs.declared.outcome.Outcome.TheVariants.{Replied}
use Rattle.engine_feed.specs.Codec.{reply_record}
use Rattle.engine_feed.specs.Seen.{layout_in, owed_by, finished_message}
use Rattle.engine_feed.specs.Sound.{IsAdmitted}
use Rattle.engine_feed.specs.Words as calls
use Rattle.engine.specs.declared.connection.Connection.{Connection}
use Rattle.engine.specs.Connections.{Open, held_at, held_by, AreKeyed}
use Rattle.engine.specs.declared.worker.Running.{Running}
use Rattle.engine.specs.declared.worker.Worker.{Worker}
use Rattle.engine.specs.declared.worker.WorkerRun.{WorkerRun}
use Rattle.engine.specs.declared.worker.WorkerRun.TheVariants.{Idle, Begun, Worked}
use Rattle.engine.specs.declared.state.State.{State}
use Rattle.engine.specs.Workers.{worker_with}
use Rattle.engine.specs.Seen.{held_in, setup_in, world}
use Rattle.engine.specs.Ending.{EndsAmong}
use Rattle.engine.specs.Sound.{room_on}
use Rattle.engine.proofs.Workers.{messages-changed, finish-early, finish-idle, finish-nobody, idle-same, in-room, runs-again, taken-there}
use Rattle.engine.proofs.Placed.{room-own}
use Rattle.engine.proofs.Changed.{IsChanged, same_setup, still-setup, still-sound, still-world}
use Rattle.engine.proofs.Ends.{ToldAs}
use Rattle.engine.proofs.Finishes.{ready, some_run, may_go_back, again_admitted, back_events, back_sound, may_be_entered, reply_fits, ended_events}
use Rattle.engine.proofs.Finishes.{ended_sound}
use Rattle.engine.proofs.finishing.finish.Goals as goal
use Rattle.engine.proofs.finishing.finish.Goals.{in-Replied, in-Starved}

-- ---- it is refused

pub returns-then-worker-len-clause-events : goal.returns-then-worker-len-clause-events
returns-then-worker-len-clause-events c =
    let s = c.args.state.now in
    let past = c.if-worker-len.true in
    let count = c.len.ensures in
    let size = s.workers.ok.0 in
    let most : length s.workers.items ≤ c.args.worker = omega (arith, past, count, size) in
    (inl (finish-nobody s.workers.items c.args.worker (setup_in s) (world s) refl (slice_get_past s.workers.items c.args.worker most)), refl)

pub take_run-requires : goal.take_run-requires
take_run-requires c =
    let within = c.if-worker-len.false in
    let count = c.len.ensures in
    let size = c.args.state.now.workers.ok.0 in
    omega (arith, within, count, size)

pub set_run-requires : goal.set_run-requires
set_run-requires c = in-room c.args.state.now.workers c.take_run.new.workers c.args.worker _ _ c.take_run.ensures.1 c.take_run.ensures.2

pub returns-in-Begun-clause-events : goal.returns-in-Begun-clause-events
returns-in-Begun-clause-events c =
    let s = c.args.state.now in
    let i = c.args.worker in
    let r = c.in-Begun.running in
    let same = runs-again s.workers c.take_run.new.workers i c.take_run.result c.take_run.ensures (Begun r) c.set_run.new.workers c.in-Begun.is
    c.set_run.ensures in (
      inl (finish-early s.workers.items i (setup_in s) (world s) refl r c.take_run.ensures.0
          (taken-there s.workers c.take_run.new.workers i c.take_run.result c.take_run.ensures (Begun r) c.in-Begun.is)),
      still-world s c.set_run.new.workers same,
    )

pub returns-in-Begun-clause-setup : goal.returns-in-Begun-clause-setup
returns-in-Begun-clause-setup c =
    still-setup c.args.state.now c.set_run.new.workers
    (runs-again c.args.state.now.workers c.take_run.new.workers c.args.worker c.take_run.result c.take_run.ensures (Begun c.in-Begun.running)
    c.set_run.new.workers c.in-Begun.is c.set_run.ensures)

pub returns-in-Begun-clause-sound : goal.returns-in-Begun-clause-sound
returns-in-Begun-clause-sound c =
    still-sound c.args.state.now c.set_run.new.workers
    (runs-again c.args.state.now.workers c.take_run.new.workers c.args.worker c.take_run.result c.take_run.ensures (Begun c.in-Begun.running)
    c.set_run.new.workers c.in-Begun.is c.set_run.ensures) c.requires

pub returns-in-Idle-clause-events : goal.returns-in-Idle-clause-events
returns-in-Idle-clause-events c =
    let s = c.args.state.now in
    let i = c.args.worker in
    let same = idle-same s.workers c.take_run.new.workers i c.take_run.result c.take_run.ensures c.in-Idle.is in (
      inl (finish-idle s.workers.items i (setup_in s) (world s) refl c.take_run.ensures.0
          (taken-there s.workers c.take_run.new.workers i c.take_run.result c.take_run.ensures Idle c.in-Idle.is)),
      still-world s c.take_run.new.workers same,
    )

pub returns-in-Idle-clause-setup : goal.returns-in-Idle-clause-setup
returns-in-Idle-clause-setup c =
    still-setup c.args.state.now c.take_run.new.workers
    (idle-same c.args.state.now.workers c.take_run.new.workers c.args.worker c.take_run.result c.take_run.ensures c.in-Idle.is)

pub returns-in-Idle-clause-sound : goal.returns-in-Idle-clause-sound
returns-in-Idle-clause-sound c =
    still-sound c.args.state.now c.take_run.new.workers
    (idle-same c.args.state.now.workers c.take_run.new.workers c.args.worker c.take_run.result c.take_run.ensures c.in-Idle.is) c.requires

-- ---- it moves

pub take_back-requires-clause-may : goal.take_back-requires-clause-may
take_back-requires-clause-may c =
    may_go_back c.args.state.now c.requires c.args.worker c.in-Worked.running c.in-Worked.outcome c.take_run.ensures.0
    (c.take_run.ensures.1 ∙ ap (λ (x : WorkerRun). Some (worker_with x c.take_run.ensures.0)) c.in-Worked.is)
    c.in-Moved.affinity c.in-Moved.is

pub put_back-requires-clause-runs : goal.put_back-requires-clause-runs
put_back-requires-clause-runs c =
    some_run c.args.state.now c.requires c.args.worker c.in-Worked.running c.in-Worked.outcome c.take_run.ensures.0
    (c.take_run.ensures.1 ∙ ap (λ (x : WorkerRun). Some (worker_with x c.take_run.ensures.0)) c.in-Worked.is)

pub put_back-requires-clause-admitted : goal.put_back-requires-clause-admitted
put_back-requires-clause-admitted c =
    again_admitted c.args.state.now c.requires c.args.worker c.in-Worked.running c.in-Worked.outcome c.take_run.ensures.0
    (c.take_run.ensures.1 ∙ ap (λ (x : WorkerRun). Some (worker_with x c.take_run.ensures.0)) c.in-Worked.is)
    c.in-Moved.affinity c.in-Moved.is

module _ (c : goal.After-put_back) where
  there : slice_get c.args.state.now.workers.items c.args.worker ≡ Some (worker_with (Worked c.in-Worked.running c.in-Worked.outcome) c.take_run.ensures.0)
  there = c.take_run.ensures.1 ∙ ap (λ (x : WorkerRun). Some (worker_with x c.take_run.ensures.0)) c.in-Worked.is

  abbrev new : State
  new = record c.args.state.now { calls = c.put_back.new.self; workers = c.take_run.new.workers; desk = c.take_back.new.desk }

  changed : IsChanged c.args.state.now new c.args.worker (worker_with (Worked c.in-Worked.running c.in-Worked.outcome) c.take_run.ensures.0)
      (worker_with Idle c.take_run.ensures.0)
  changed = record {
    there = there;
    set = ap (λ (v : Vec Worker). v.items) c.take_run.ensures.2;
    offer = refl;
    verifier = refl;
    layout = c.put_back.ensures.layout;
    many = refl;
  }

pub returns-in-Moved-clause-events : goal.returns-in-Moved-clause-events
returns-in-Moved-clause-events c =
    back_events c.args.state.now c.requires c.args.worker c.in-Worked.running c.in-Worked.outcome c.take_run.ensures.0 (there c) c.in-Moved.affinity
    c.in-Moved.is
    (new c) (changed c) refl c.requires.keyed refl c.take_back.ensures.kept c.take_back.ensures.back c.put_back.ensures

pub returns-in-Moved-clause-sound : goal.returns-in-Moved-clause-sound
returns-in-Moved-clause-sound c =
    back_sound c.args.state.now c.requires c.args.worker c.in-Worked.running c.in-Worked.outcome c.take_run.ensures.0 (there c) c.in-Moved.affinity
    c.in-Moved.is
    (new c) (changed c) refl c.requires.keyed refl c.take_back.ensures.kept c.take_back.ensures.back c.put_back.ensures

pub returns-in-Moved-clause-setup : goal.returns-in-Moved-clause-setup
returns-in-Moved-clause-setup c = same_setup (changed c)

-- ---- it is entered

pub end_on-running-requires-clause-may : goal.end_on-running-requires-clause-may
end_on-running-requires-clause-may c =
    let is : ToldAs c.in-Worked.outcome c.match-outcome.reply.0 c.match-outcome.reply.1 = elim c.match-outcome.branch [
      | in-Replied t ↦ inl (t.in-Replied.is ∙ ap Replied (sym (ap (λ (p : Reply × Bool). p.0) t.reply-is)), ap (λ (p : Reply × Bool). p.1) t.reply-is)
      | in-Starved t ↦ inr (t.in-Starved.is, ap (λ (p : Reply × Bool). p.0) t.reply-is, ap (λ (p : Reply × Bool). p.1) t.reply-is)
    ] in
    may_be_entered c.args.state.now c.requires c.args.worker c.in-Worked.running c.in-Worked.outcome c.take_run.ensures.0
    (c.take_run.ensures.1 ∙ ap (λ (x : WorkerRun). Some (worker_with x c.take_run.ensures.0)) c.in-Worked.is)
    c.match-outcome.reply.0 c.match-outcome.reply.1 is

-- ---- it ends in its connection

module _ (c : goal.After-reply-3-1) where
  abbrev s : State
  s = c.args.state.now

  abbrev r : Running
  r = c.in-Worked.running

  abbrev o : Outcome
  o = c.in-Worked.outcome

  was_there : slice_get s.workers.items c.args.worker ≡ Some (worker_with (Worked r o) c.take_run.ensures.0)
  was_there = c.take_run.ensures.1 ∙ ap (λ (x : WorkerRun). Some (worker_with x c.take_run.ensures.0)) c.in-Worked.is

  same : c.end_on-running.result ≡ r
  same = c.end_on-running.ensures.running

pub end_in-count-requires-clause-runs : goal.end_in-count-requires-clause-runs
end_in-count-requires-clause-runs c = some_run (s c) c.requires c.args.worker (r c) (o c) c.take_run.ensures.0 (was_there c)

pub end_in-count-requires-clause-admitted : goal.end_in-count-requires-clause-admitted
end_in-count-requires-clause-admitted c =
    subst (λ (x : Running). IsAdmitted (layout_in (s c).calls) x.message) (sym (same c))
    (ready (s c) c.requires c.args.worker (r c) (o c) c.take_run.ensures.0 (was_there c)).0.admitted

pub end_in-count-requires-clause-fits : goal.end_in-count-requires-clause-fits
end_in-count-requires-clause-fits c =
    let is : ToldAs (o c) c.match-outcome.reply.0 c.match-outcome.reply.1 = elim c.match-outcome.branch [
      | in-Replied t ↦ inl (t.in-Replied.is ∙ ap Replied (sym (ap (λ (p : Reply × Bool). p.0) t.reply-is)), ap (λ (p : Reply × Bool). p.1) t.reply-is)
      | in-Starved t ↦ inr (t.in-Starved.is, ap (λ (p : Reply × Bool). p.0) t.reply-is, ap (λ (p : Reply × Bool). p.1) t.reply-is)
    ] in
    let form = c.handles.result in
    subst (λ (x : types.Reply). length (reply_record c.end_on-running.result.message.origin.xid x) ≤ c.end_on-running.result.message.room)
    (sym c.tell.ensures)
    (subst (λ (x : Running). length (reply_record x.message.origin.xid (reply_told form (reply_of c.match-outcome.reply.0))) ≤ x.message.room)
    (sym (same c))
    (reply_fits (s c) c.requires c.args.worker (r c) (o c) c.take_run.ensures.0 (was_there c) c.match-outcome.reply.0 c.match-outcome.reply.1 is form))

pub end_in-count-requires-clause-known : goal.end_in-count-requires-clause-known
end_in-count-requires-clause-known c =
    let known = (ready (s c) c.requires c.args.worker (r c) (o c) c.take_run.ensures.0 (was_there c)).0.known in
    let size = length-map (s c).connections.items (held_at (s c).slab) in
    let there : (r c).message.origin.connection.0 < length (s c).connections.items = omega (arith, known, size) in
    subst (λ (x : Running). x.message.origin.connection.0 < length c.deref.result.now) (sym (same c))
    (subst (λ (cs : List Connection). (r c).message.origin.connection.0 < length cs) (sym c.deref.ensures.value) there)

pub end_in-count-requires-clause-keyed : goal.end_in-count-requires-clause-keyed
end_in-count-requires-clause-keyed c = subst (λ (cs : List Connection). AreKeyed cs (s c).slab) (sym c.deref.ensures.value) c.requires.keyed

pub end_in-count-requires-clause-owed : goal.end_in-count-requires-clause-owed
end_in-count-requires-clause-owed c = λ x e.
    let n = (r c).message.origin.connection.0 in
    let at : slice_get (held_in (s c)) n ≡ Some (Open x) =
    subst (λ (cs : List Connection). slice_get (held_by cs (s c).slab) n ≡ Some (Open x)) c.deref.ensures.value
    (subst (λ (y : Running). slice_get (held_by c.deref.result.now (s c).slab) y.message.origin.connection.0 ≡ Some (Open x)) (same c) e) in
    let owed = c.requires.owed n x at in
    let changed = messages-changed (room_on n) (s c).workers.items c.args.worker (worker_with (Worked (r c) (o c)) c.take_run.ensures.0)
    (worker_with Idle c.take_run.ensures.0)
    (was_there c) in
    let room = room-own n (r c).message refl in
    subst (λ (y : Running). y.message.room ≤ owed_by x) (sym (same c)) (omega (arith, owed, changed, room))

-- ---- it is finished

module _ (c : goal.After-drop) where
  abbrev before : State
  before = c.args.state.now

  abbrev ran : Running
  ran = c.in-Worked.running

  abbrev reply : Reply
  reply = c.match-outcome.reply.0

  abbrev starved : Bool
  starved = c.match-outcome.reply.1

  abbrev number : ℕ
  number = ran.message.origin.connection.0

  abbrev after : State
  after = record before {
    slab = c.end_in-count.new.slab;
    calls = c.end_in-count.new.calls;
    workers = c.take_run.new.workers;
    desk = c.end_on-running.new.desk;
  }

  here : slice_get before.workers.items c.args.worker ≡ Some (worker_with (Worked ran c.in-Worked.outcome) c.take_run.ensures.0)
  here = c.take_run.ensures.1 ∙ ap (λ (x : WorkerRun). Some (worker_with x c.take_run.ensures.0)) c.in-Worked.is

  is : ToldAs c.in-Worked.outcome reply starved
  is = elim c.match-outcome.branch [
    | in-Replied t ↦ inl (t.in-Replied.is ∙ ap Replied (sym (ap (λ (p : Reply × Bool). p.0) t.reply-is)), ap (λ (p : Reply × Bool). p.1) t.reply-is)
    | in-Starved t ↦ inr (t.in-Starved.is, ap (λ (p : Reply × Bool). p.0) t.reply-is, ap (λ (p : Reply × Bool). p.1) t.reply-is)
  ]

  -- what is said of the message that comes back is so of the one that was taken
  abbrev told : types.Reply
  told = reply_of c.tell.new.reply

  is_told : told ≡ reply_told (form_of before.offer) (reply_of reply)
  is_told = c.tell.ensures ∙ ap (λ f. reply_told f (reply_of reply)) c.handles.ensures

  among : EndsAmong before.calls before.connections.items before.slab ran told starved c.end_in-count.result c.end_in-count.new.calls
      c.end_in-count.new.slab
  among = subst (λ (cs : List Connection). EndsAmong before.calls cs before.slab ran told starved c.end_in-count.result
      c.end_in-count.new.calls c.end_in-count.new.slab) c.deref.ensures.value
      (subst (λ (x : Running). EndsAmong before.calls c.deref.result.now before.slab x told starved c.end_in-count.result
      c.end_in-count.new.calls c.end_in-count.new.slab) c.end_on-running.ensures.running
      c.end_in-count.ensures.ends)

  leaves : calls.HasLeft before.calls (finished_message ran.message (moment_of ran.moment) starved) c.end_in-count.new.calls
  leaves = subst (λ (x : Running). calls.HasLeft before.calls (finished_message x.message (moment_of x.moment) starved) c.end_in-count.new.calls)
      c.end_on-running.ensures.running c.end_in-count.ensures.left

  differs : IsChanged before after c.args.worker (worker_with (Worked ran c.in-Worked.outcome) c.take_run.ensures.0)
      (worker_with Idle c.take_run.ensures.0)
  differs = record {
    there = here;
    set = ap (λ (v : Vec Worker). v.items) c.take_run.ensures.2;
    offer = refl;
    verifier = refl;
    layout = leaves.layout;
    many = ap length among.put ∙ length-set (held_in before) number among.left;
  }

pub returns-clause-events : goal.returns-clause-events
returns-clause-events c =
    ended_events (before c) c.requires c.args.worker (ran c) c.in-Worked.outcome c.take_run.ensures.0 (here c) (reply c) (starved c) (is c)
    (told c) (is_told c) (after c) (differs c) (among c).place (among c).left c.end_in-count.result (among c).at (among c).put (among c).keyed (among c).opened
    c.end_on-running.ensures.kept c.end_on-running.ensures.finished (among c).ends (leaves c) (among c).owes

pub returns-clause-sound : goal.returns-clause-sound
returns-clause-sound c =
    ended_sound (before c) c.requires c.args.worker (ran c) c.in-Worked.outcome c.take_run.ensures.0 (here c) (reply c) (starved c) (is c)
    (told c) (is_told c) (after c) (differs c) (among c).place (among c).left c.end_in-count.result (among c).at (among c).put (among c).keyed (among c).opened
    c.end_on-running.ensures.kept c.end_on-running.ensures.finished (among c).ends (leaves c) (among c).owes

pub returns-clause-setup : goal.returns-clause-setup
returns-clause-setup c = same_setup (differs c)
