use Rattle.filer_state.specs.state.Sets.{logical_before, logical_after}
use Rattle.service.proofs.InHand.{delivered-runs, to-deliver-batch}
use Rattle.service.proofs.inner.deliver_from.Goals as goal

pub deliver-delivered-requires-clause-carried : goal.deliver-delivered-requires-clause-carried
deliver-delivered-requires-clause-carried c = (c.args.volume.0, c.requires.1)

pub deliver-delivered-requires-clause-some : goal.deliver-delivered-requires-clause-some
deliver-delivered-requires-clause-some c =
    (to-deliver-batch c.args.held.now.own.dead.range_blocks c.args.volume.0 c.args.batch (logical_before c.args.held.now) c.requires).0

pub deliver-delivered-requires-clause-batch : goal.deliver-delivered-requires-clause-batch
deliver-delivered-requires-clause-batch c =
    (to-deliver-batch c.args.held.now.own.dead.range_blocks c.args.volume.0 c.args.batch (logical_before c.args.held.now) c.requires).1

pub returns-in-Ok-clause-runs : goal.returns-in-Ok-clause-runs
returns-in-Ok-clause-runs c =
    delivered-runs c.args.volume.0 c.args.batch c.new-hand.result (logical_before c.args.held.now)
    (logical_after c.args.held.now c.deliver-delivered.new.held) c.new-hand.ensures c.in-Ok.ensures.right
