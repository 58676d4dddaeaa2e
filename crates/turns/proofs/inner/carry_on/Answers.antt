use Rattle.std.proofs.Common.{◌≡◌, Err, sym, ap, ◌∙◌, subst}
use Rattle.nfs_model.specs.Parts.{Empty}
use Rattle.depot.specs.Words.{view}
use Rattle.desk.specs.Any.{node_lent}
use Rattle.service.specs.Jobs.{inner_of}
use Rattle.turns.specs.declared.tend.TendRefusal.{TendRefusal}
use Rattle.turns.specs.Carries.{node_tried, IsRefusedFor}
use Rattle.granted_calls.specs.Filers.{layout_in, verifier_in}
use Rattle.turns.proofs.Ran.{refused-for, may-finish, made-ready, has-carried, unused-goes-back, is-unused, empty-hand, starved-goes-back}
use Rattle.turns.proofs.Ran.{left-entries, left-ready}
use Rattle.granted_calls.proofs.Finished.{refused-entries, refused-ready}
use Rattle.turns.proofs.inner.carry_on.Goals as goal

-- ---- it didn't begin

pub returns-in-Err-clause-ready : goal.returns-in-Err-clause-ready
returns-in-Err-clause-ready g c =
    refused-ready (layout_in c.args.filer.now) (view c.args.seat.now) (view c.run_inner.new.seat) (node_tried (inner_of c.args.call))
    (verifier_in c.args.filer.now) c.in-Err.refusal c.in-Err.ensures.refused c.requires.ready

pub returns-in-Err-clause-carried : goal.returns-in-Err-clause-carried
returns-in-Err-clause-carried g c =
    let L = layout_in c.args.filer.now in
    let v = view c.args.seat.now in
    let w = view c.run_inner.new.seat in
    let call = inner_of c.args.call in (
      c.into_hand.ensures ∙ ap (λ x. g.W.HandWork.carried x) c.in-Err.ensures.back,
      refused-entries L v w (node_tried call) c.in-Err.refusal c.in-Err.ensures.refused,
      subst (λ (r : TendRefusal). IsRefusedFor L v call r w) (sym c.refused.ensures) (refused-for L v w call c.in-Err.refusal c.in-Err.ensures.refused),
    )

-- ---- it is done

pub finish_node-requires-clause-can : goal.finish_node-requires-clause-can
finish_node-requires-clause-can g c =
    let L = layout_in c.args.filer.now in
    let v = view c.args.seat.now in
    let w = view c.run_inner.new.seat in
    let call = inner_of c.args.call in
    may-finish L c.args.filer.now.depot.layout.lawful c.args.call (g.W.HandWork.carried c.args.work) v w c.requires.may
    c.requires.seat.1.0 c.run_inner.ensures.seat.1.0
    c.in-Ok.ran.outcome c.in-Ok.ran.told (node_lent L c.in-Ok.ran.grant) c.in-Ok.ensures.ran c.in-Ok-outcome.reply c.in-Ok-outcome.is

pub returns-in-Ok-outcome-clause-ready : goal.returns-in-Ok-outcome-clause-ready
returns-in-Ok-outcome-clause-ready g c =
    let L = layout_in c.args.filer.now in
    let v = view c.args.seat.now in
    let w = view c.run_inner.new.seat in
    let call = inner_of c.args.call in
    let u = view c.finish_node.new.seat in
    made-ready L c.args.filer.now.depot.layout.lawful c.args.call (g.W.HandWork.carried c.args.work) v w c.requires.may
    c.requires.seat.1.0 c.run_inner.ensures.seat.1.0
    c.in-Ok.ran.outcome c.in-Ok.ran.told (node_lent L c.in-Ok.ran.grant) c.in-Ok.ensures.ran c.in-Ok-outcome.reply c.in-Ok-outcome.is u
    c.finish_node.ensures.finished (verifier_in c.args.filer.now) c.requires.ready

pub returns-in-Ok-outcome-clause-carried : goal.returns-in-Ok-outcome-clause-carried
returns-in-Ok-outcome-clause-carried g c =
    let L = layout_in c.args.filer.now in
    let v = view c.args.seat.now in
    let w = view c.run_inner.new.seat in
    let call = inner_of c.args.call in
    let u = view c.finish_node.new.seat in
    has-carried L c.args.filer.now.depot.layout.lawful c.args.call (g.W.HandWork.carried c.args.work) v w c.requires.may
    c.requires.seat.1.0 c.run_inner.ensures.seat.1.0
    c.in-Ok.ran.outcome c.in-Ok.ran.told (node_lent L c.in-Ok.ran.grant) c.in-Ok.ensures.ran c.in-Ok-outcome.reply c.in-Ok-outcome.is u
    c.finish_node.ensures.finished

-- ---- it is refused

pub put_back_node-requires-clause-can : goal.put_back_node-requires-clause-can
put_back_node-requires-clause-can g c =
    let L = layout_in c.args.filer.now in
    let v = view c.args.seat.now in
    let w = view c.run_inner.new.seat in
    let call = inner_of c.args.call in
    unused-goes-back L c.args.filer.now.depot.layout.lawful c.args.call (g.W.HandWork.carried c.args.work) v w c.requires.may
    c.requires.seat.1.0 c.run_inner.ensures.seat.1.0
    c.in-Ok.ran.outcome c.in-Ok.ran.told (node_lent L c.in-Ok.ran.grant) c.in-Ok.ensures.ran (c.in-Err-NoSuchRange.is ∙ ap Err c.in-Err-NoSuchRange.field-0-is)

pub returns-in-Err-NoSuchRange-clause-ready : goal.returns-in-Err-NoSuchRange-clause-ready
returns-in-Err-NoSuchRange-clause-ready g c =
    let L = layout_in c.args.filer.now in
    let v = view c.args.seat.now in
    let w = view c.run_inner.new.seat in
    let call = inner_of c.args.call in
    let u = view c.put_back_node.new.seat in
    left-ready L c.args.filer.now.depot.layout.lawful c.args.call (g.W.HandWork.carried c.args.work) v w c.requires.may
    c.requires.seat.1.0 c.run_inner.ensures.seat.1.0
    c.in-Ok.ran.outcome c.in-Ok.ran.told (node_lent L c.in-Ok.ran.grant) c.in-Ok.ensures.ran u c.put_back_node.ensures.ended
    (verifier_in c.args.filer.now) c.requires.ready

pub returns-in-Err-NoSuchRange-clause-carried : goal.returns-in-Err-NoSuchRange-clause-carried
returns-in-Err-NoSuchRange-clause-carried g c =
    let L = layout_in c.args.filer.now in
    let v = view c.args.seat.now in
    let w = view c.run_inner.new.seat in
    let call = inner_of c.args.call in
    let u = view c.put_back_node.new.seat in
    let empty : g.W.HandWork.carried c.args.work ≡ Empty = empty-hand L c.args.filer.now.depot.layout.lawful c.args.call (g.W.HandWork.carried c.args.work) v
    w c.requires.may
    c.requires.seat.1.0 c.run_inner.ensures.seat.1.0
    c.in-Ok.ran.outcome c.in-Ok.ran.told (node_lent L c.in-Ok.ran.grant) c.in-Ok.ensures.ran
    (c.in-Err-NoSuchRange.is ∙ ap Err c.in-Err-NoSuchRange.field-0-is) in (
      c.new.ensures ∙ sym empty,
      left-entries L c.args.filer.now.depot.layout.lawful c.args.call (g.W.HandWork.carried c.args.work) v w c.requires.may
          c.requires.seat.1.0 c.run_inner.ensures.seat.1.0
          c.in-Ok.ran.outcome c.in-Ok.ran.told (node_lent L c.in-Ok.ran.grant) c.in-Ok.ensures.ran u
          c.put_back_node.ensures.ended,
      is-unused L c.args.filer.now.depot.layout.lawful c.args.call (g.W.HandWork.carried c.args.work) v w c.requires.may
          c.requires.seat.1.0 c.run_inner.ensures.seat.1.0
          c.in-Ok.ran.outcome c.in-Ok.ran.told (node_lent L c.in-Ok.ran.grant) c.in-Ok.ensures.ran
          (c.in-Err-NoSuchRange.is ∙ ap Err c.in-Err-NoSuchRange.field-0-is),
    )

-- ---- there is no memory

pub put_back_node-requires-in-Err-NoMemory-clause-can : goal.put_back_node-requires-in-Err-NoMemory-clause-can
put_back_node-requires-in-Err-NoMemory-clause-can g c =
    let L = layout_in c.args.filer.now in
    let v = view c.args.seat.now in
    let w = view c.run_inner.new.seat in
    let call = inner_of c.args.call in
    starved-goes-back L c.args.filer.now.depot.layout.lawful c.args.call (g.W.HandWork.carried c.args.work) v w c.requires.may
    c.requires.seat.1.0 c.run_inner.ensures.seat.1.0
    c.in-Ok.ran.outcome c.in-Ok.ran.told (node_lent L c.in-Ok.ran.grant) c.in-Ok.ensures.ran
    c.in-Err-NoMemory.hand (c.in-Err-NoMemory.is ∙ ap Err c.in-Err-NoMemory.field-0-is)

pub returns-in-Err-NoMemory-clause-ready : goal.returns-in-Err-NoMemory-clause-ready
returns-in-Err-NoMemory-clause-ready g c =
    let L = layout_in c.args.filer.now in
    let v = view c.args.seat.now in
    let w = view c.run_inner.new.seat in
    let call = inner_of c.args.call in
    let u = view c.put_back_node-in-Err-NoMemory.new.seat in
    left-ready L c.args.filer.now.depot.layout.lawful c.args.call (g.W.HandWork.carried c.args.work) v w c.requires.may
    c.requires.seat.1.0 c.run_inner.ensures.seat.1.0
    c.in-Ok.ran.outcome c.in-Ok.ran.told (node_lent L c.in-Ok.ran.grant) c.in-Ok.ensures.ran u
    c.put_back_node-in-Err-NoMemory.ensures.ended (verifier_in c.args.filer.now) c.requires.ready
