use Rattle.std.proofs.Common.{rules, ◌∙◌}
use Rattle.scheduler.proofs.Present.{none-more}
use Rattle.scheduler.proofs.cells.first_used.Goals as goal

pub loop-cell-preserved : goal.loop-cell-preserved
loop-cell-preserved g c = (
  search rules,
  none-more c.args.messages.now c.loop-cell.cell c.index-messages-cell.result (search rules) c.index-messages-cell.is c.if-is_none.ensures
      ∙ c.loop-cell.invariant.1,
)
