use Rattle.std.proofs.Common.{◌≡◌, length}
use Rattle.vbn_ranges.proofs.Summaries.{IsSummedUpTo}
use Rattle.vbn_ranges.proofs.levels.sum_up.Given as goal

abbrev pub invariant-loop-place : goal.invariant-loop-place
invariant-loop-place l = record {
  summed : IsSummedUpTo l.place l.lower.items l.upper.items;
  size : length l.upper.items ≡ length l.fn.upper.items;
}
