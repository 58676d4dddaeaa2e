use Rattle.std.proofs.Common.{true, false, refl, ap}
use Rattle.nfs_values.specs.Reply.{reply_of}
use Rattle.affinity.specs.Affinity.{call_affinity}
use Rattle.depot.specs.Words.{view}
use Rattle.desk.specs.Any.{node_lent}
use Rattle.granted_calls.specs.Filers.{layout_in, verifier_in}
use Rattle.granted_calls.proofs.Runs.{moved-so, replied-so, starved-so}
use Rattle.granted_calls.proofs.Finished.{may-finish, may-starve, entered, entered-ready, fits, starved-room, may-go-back, moves-on, back-entries, back-ready}
use Rattle.granted_calls.proofs.Finished.{refused-entries, refused-ready}
use Rattle.granted_calls.proofs.serving.run_message_on.Goals as goal

-- ---- it didn't begin

pub returns-in-Err-clause-ready : goal.returns-in-Err-clause-ready
returns-in-Err-clause-ready g c =
    refused-ready (layout_in c.args.filer.now) (view c.args.seat.now) (view c.run-ran.new.seat) (call_affinity c.args.message.affinity)
    (verifier_in c.args.filer.now)
    c.in-Err.refusal c.in-Err.ensures.refused c.requires.ready

pub returns-in-Err-clause-served : goal.returns-in-Err-clause-served
returns-in-Err-clause-served g c = (
  refl,
  refused-entries (layout_in c.args.filer.now) (view c.args.seat.now) (view c.run-ran.new.seat) (call_affinity c.args.message.affinity) c.in-Err.refusal
      c.in-Err.ensures.refused,
  c.in-Err.ensures.refused,
)

-- ---- it ran

pub answer-answer-requires-clause-can : goal.answer-answer-requires-clause-can
answer-answer-requires-clause-can g c =
    let L = layout_in c.args.filer.now in
    let v = view c.args.seat.now in
    let w = view c.run-ran.new.seat in
    let m = c.args.message in
    let r = c.in-Ok.ensures.ran in
    let says = replied-so r.outcome c.in-Ok.ran.outcome c.run-ran.new.told r.says c.in-Replied.is in
    may-finish L c.args.filer.now.depot.layout.lawful m c.requires.placed c.in-Ok.ran.moment v w
    c.requires.seat.1.0 c.run-ran.ensures.seat.1.0 r.outcome
    (node_lent L c.in-Ok.ran.grant) r.ran c.run-ran.new.told says

pub answer-answer-requires-clause-room : goal.answer-answer-requires-clause-room
answer-answer-requires-clause-room g c =
    let L = layout_in c.args.filer.now in
    let v = view c.args.seat.now in
    let w = view c.run-ran.new.seat in
    let m = c.args.message in
    let r = c.in-Ok.ensures.ran in
    let says = replied-so r.outcome c.in-Ok.ran.outcome c.run-ran.new.told r.says c.in-Replied.is in
    fits L c.args.filer.now.depot.layout.lawful m c.requires.placed c.in-Ok.ran.moment v w
    c.requires.seat.1.0 c.run-ran.ensures.seat.1.0 r.outcome
    (node_lent L c.in-Ok.ran.grant) r.ran
    (verifier_in c.args.filer.now) c.has_eight.ensures c.requires.ready.opened c.servers_are_roomy.ensures.begins
    c.servers_are_roomy.ensures.stays c.replies_fit.ensures.offered
    c.run-ran.new.told says

pub answer-answer-requires-in-Starved-clause-can : goal.answer-answer-requires-in-Starved-clause-can
answer-answer-requires-in-Starved-clause-can g c =
    let L = layout_in c.args.filer.now in
    let v = view c.args.seat.now in
    let w = view c.run-ran.new.seat in
    let m = c.args.message in
    let r = c.in-Ok.ensures.ran in
    let says = starved-so r.outcome c.in-Ok.ran.outcome c.run-ran.new.told r.says c.in-Starved.is in
    may-starve L c.args.filer.now.depot.layout.lawful m c.requires.placed c.in-Ok.ran.moment v w
    c.requires.seat.1.0 c.run-ran.ensures.seat.1.0 r.outcome
    (node_lent L c.in-Ok.ran.grant) r.ran c.run-ran.new.told (ap reply_of says.1) says.0

pub answer-answer-requires-in-Starved-clause-room : goal.answer-answer-requires-in-Starved-clause-room
answer-answer-requires-in-Starved-clause-room g c =
    let L = layout_in c.args.filer.now in
    let v = view c.args.seat.now in
    let w = view c.run-ran.new.seat in
    let m = c.args.message in
    let r = c.in-Ok.ensures.ran in
    let says = starved-so r.outcome c.in-Ok.ran.outcome c.run-ran.new.told r.says c.in-Starved.is in
    starved-room L c.args.filer.now.depot.layout.lawful m c.requires.placed c.in-Ok.ran.moment v w
    c.requires.seat.1.0 c.run-ran.ensures.seat.1.0 r.outcome
    (node_lent L c.in-Ok.ran.grant) r.ran
    (verifier_in c.args.filer.now) c.has_eight.ensures c.requires.ready.opened c.servers_are_roomy.ensures.begins
    c.servers_are_roomy.ensures.stays c.replies_fit.ensures.offered
    c.run-ran.new.told (ap reply_of says.1)

pub put_back_node-requires-clause-can : goal.put_back_node-requires-clause-can
put_back_node-requires-clause-can g c =
    let L = layout_in c.args.filer.now in
    let v = view c.args.seat.now in
    let w = view c.run-ran.new.seat in
    let m = c.args.message in
    let r = c.in-Ok.ensures.ran in
    let to = moved-so r.outcome c.in-Ok.ran.outcome c.run-ran.new.told r.says c.in-Moved.affinity c.in-Moved.is in
    may-go-back L c.args.filer.now.depot.layout.lawful m c.requires.placed c.in-Ok.ran.moment v w
    c.requires.seat.1.0 c.run-ran.ensures.seat.1.0 r.outcome
    (node_lent L c.in-Ok.ran.grant) r.ran c.in-Moved.affinity to

pub returns-in-Replied-clause-ready : goal.returns-in-Replied-clause-ready
returns-in-Replied-clause-ready g c =
    let L = layout_in c.args.filer.now in
    let v = view c.args.seat.now in
    let w = view c.run-ran.new.seat in
    let m = c.args.message in
    let r = c.in-Ok.ensures.ran in
    let u = view c.answer-answer.new.seat in
    entered-ready L c.args.filer.now.depot.layout.lawful m c.requires.placed c.in-Ok.ran.moment v w
    c.requires.seat.1.0 c.run-ran.ensures.seat.1.0 r.outcome
    (node_lent L c.in-Ok.ran.grant) r.ran u c.run-ran.new.told false c.answer-answer.ensures.finished (verifier_in c.args.filer.now) c.requires.ready

pub returns-in-Replied-clause-served : goal.returns-in-Replied-clause-served
returns-in-Replied-clause-served g c =
    let L = layout_in c.args.filer.now in
    let v = view c.args.seat.now in
    let w = view c.run-ran.new.seat in
    let m = c.args.message in
    let r = c.in-Ok.ensures.ran in
    let u = view c.answer-answer.new.seat in
    entered L c.args.filer.now.depot.layout.lawful m c.requires.placed c.in-Ok.ran.moment v w
    c.requires.seat.1.0 c.run-ran.ensures.seat.1.0 r.outcome
    (node_lent L c.in-Ok.ran.grant) r.ran u c.run-ran.new.told false c.answer-answer.ensures.finished c.args.moment c.in-Ok.ensures.at
    c.answer-answer.result c.answer-answer.ensures.answer

pub returns-in-Starved-clause-ready : goal.returns-in-Starved-clause-ready
returns-in-Starved-clause-ready g c =
    let L = layout_in c.args.filer.now in
    let v = view c.args.seat.now in
    let w = view c.run-ran.new.seat in
    let m = c.args.message in
    let r = c.in-Ok.ensures.ran in
    let u = view c.answer-answer-in-Starved.new.seat in
    entered-ready L c.args.filer.now.depot.layout.lawful m c.requires.placed c.in-Ok.ran.moment v w
    c.requires.seat.1.0 c.run-ran.ensures.seat.1.0 r.outcome
    (node_lent L c.in-Ok.ran.grant) r.ran u c.run-ran.new.told true c.answer-answer-in-Starved.ensures.finished (verifier_in c.args.filer.now)
    c.requires.ready

pub returns-in-Starved-clause-served : goal.returns-in-Starved-clause-served
returns-in-Starved-clause-served g c =
    let L = layout_in c.args.filer.now in
    let v = view c.args.seat.now in
    let w = view c.run-ran.new.seat in
    let m = c.args.message in
    let r = c.in-Ok.ensures.ran in
    let u = view c.answer-answer-in-Starved.new.seat in
    entered L c.args.filer.now.depot.layout.lawful m c.requires.placed c.in-Ok.ran.moment v w
    c.requires.seat.1.0 c.run-ran.ensures.seat.1.0 r.outcome
    (node_lent L c.in-Ok.ran.grant) r.ran u c.run-ran.new.told true c.answer-answer-in-Starved.ensures.finished c.args.moment c.in-Ok.ensures.at
    c.answer-answer-in-Starved.result c.answer-answer-in-Starved.ensures.answer

pub returns-clause-ready : goal.returns-clause-ready
returns-clause-ready g c =
    let L = layout_in c.args.filer.now in
    let v = view c.args.seat.now in
    let w = view c.run-ran.new.seat in
    let m = c.args.message in
    let r = c.in-Ok.ensures.ran in
    let to = moved-so r.outcome c.in-Ok.ran.outcome c.run-ran.new.told r.says c.in-Moved.affinity c.in-Moved.is in
    let u = view c.put_back_node.new.seat in
    back-ready L c.args.filer.now.depot.layout.lawful m c.requires.placed c.in-Ok.ran.moment v w
    c.requires.seat.1.0 c.run-ran.ensures.seat.1.0 r.outcome
    (node_lent L c.in-Ok.ran.grant) r.ran c.in-Moved.affinity to u c.put_back_node.ensures.ended (verifier_in c.args.filer.now) c.requires.ready

pub returns-clause-served : goal.returns-clause-served
returns-clause-served g c =
    let L = layout_in c.args.filer.now in
    let v = view c.args.seat.now in
    let w = view c.run-ran.new.seat in
    let m = c.args.message in
    let r = c.in-Ok.ensures.ran in
    let to = moved-so r.outcome c.in-Ok.ran.outcome c.run-ran.new.told r.says c.in-Moved.affinity c.in-Moved.is in
    let u = view c.put_back_node.new.seat in (
      moves-on L c.args.filer.now.depot.layout.lawful m c.requires.placed c.in-Ok.ran.moment v w
          c.requires.seat.1.0 c.run-ran.ensures.seat.1.0 r.outcome
          (node_lent L c.in-Ok.ran.grant) r.ran c.in-Moved.affinity to u c.put_back_node.ensures.ended c.args.moment c.in-Ok.ensures.at
          c.readdress.new.self c.readdress.ensures,
      back-entries L c.args.filer.now.depot.layout.lawful m c.requires.placed c.in-Ok.ran.moment v w
          c.requires.seat.1.0 c.run-ran.ensures.seat.1.0 r.outcome
          (node_lent L c.in-Ok.ran.grant) r.ran c.in-Moved.affinity to u c.put_back_node.ensures.ended,
    )
