use Rattle.filer_state.specs.state.Sets.{logical_before, logical_after}
use Rattle.service.proofs.InHand.{culled-runs}
use Rattle.service.proofs.inner.cull_into.Goals as goal

pub returns-clause-runs : goal.returns-clause-runs
returns-clause-runs c =
    culled-runs c.args.volume.0 c.cull-batch.result c.dead_hand.result (logical_before c.args.held.now)
    (logical_after c.args.held.now c.cull-batch.new.held) c.dead_hand.ensures c.cull-batch.ensures.right
