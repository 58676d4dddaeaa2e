use Rattle.std.proofs.Common.{subst}
use Rattle.nfs_model.specs.volume.Ranges.{IsRangeSize}
use Rattle.vbn_ranges.specs.Marks.{MarksValue}
use Rattle.vbn_ranges.proofs.marks.Marks.range_blocks.Goals as goal

pub returns-clause-size : goal.returns-clause-size
returns-clause-size c = subst (λ (m : MarksValue). IsRangeSize m.range_blocks) c.self.view_is c.self.invariant.0
