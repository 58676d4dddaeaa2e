use Rattle.std.proofs.Common.{◌≡◌, map}
use Rattle.std.specs.List.{range_with_len}
use Rattle.vbn_ranges.specs.Marks.{no_marks}
use Rattle.vbn_ranges.proofs.dead.DeadBlocks.new.Given as goal

abbrev pub invariant-loop-range : goal.invariant-loop-range
invariant-loop-range l = l.ranges.items ≡ map (no_marks l.range_blocks) (range_with_len 0 l.range)
