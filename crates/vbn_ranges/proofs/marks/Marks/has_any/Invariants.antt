use Rattle.std.proofs.Common.{◌≡◌, false, take}
use Rattle.std.specs.List.{list_any}
use Rattle.std.specs.FinSet.{contains}
use Rattle.vbn_ranges.specs.Batch.{numbers}
use Rattle.vbn_ranges.proofs.marks.Marks.has_any.Given as goal

abbrev pub invariant-loop-block : goal.invariant-loop-block
invariant-loop-block l = list_any (contains l.self.set) (numbers (take l.block-index l.blocks)) ≡ false
