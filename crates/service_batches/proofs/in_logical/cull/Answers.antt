use Rattle.std.proofs.Common.{sym, subst}
use Rattle.filer_state.specs.Logical.{logical_value}
use Rattle.filer_state.specs.state.Sets.{FilerLogical, logical_before, logical_after}
use Rattle.service_batches.specs.Batches.{CullsHere}
use Rattle.service_batches.proofs.Right.{cull-done}
use Rattle.service_batches.proofs.in_logical.cull.Goals as goal

pub returns-clause-right : goal.returns-clause-right
returns-clause-right c =
    subst (λ (held : FilerLogical _). CullsHere (logical_before c.args.held.now) c.take_batch-batch.result (logical_after c.args.held.now held))
    (sym c.give_back.ensures)
    (cull-done (logical_before c.args.held.now) (logical_value c.get_mut.result.now) c.take_batch-batch.new.self c.take_batch-batch.result
    c.get_mut.ensures.value c.take_batch-batch.ensures.batch c.take_batch-batch.ensures.left)
