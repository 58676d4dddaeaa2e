use Rattle.std.proofs.Common.{◌≡◌, take}
use Rattle.vbn_ranges.specs.Batch.{numbers}
use Rattle.vbn_ranges.specs.Marks.{marked}
use Rattle.vbn_ranges.proofs.marks.Marks.insert_all.Given as goal

abbrev pub invariant-loop-block : goal.invariant-loop-block
invariant-loop-block l = l.self ≡ marked (numbers (take l.block-index l.blocks)) l.initial.self
