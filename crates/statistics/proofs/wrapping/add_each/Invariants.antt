use Rattle.std.proofs.Common.{◌≡◌, ℕ, ◌<◌, ◌≤◌, get_or}
use Rattle.statistics.specs.Wrapping.{wrapping_sum}
use Rattle.statistics.proofs.wrapping.add_each.Given as goal

abbrev pub invariant-loop-i : goal.invariant-loop-i
invariant-loop-i l = record {
  added : (k : ℕ) → k < l.i → get_or l.counts k 0 ≡ wrapping_sum (get_or l.initial.counts k 0) (get_or l.more k 0);
  others : (k : ℕ) → l.i ≤ k → get_or l.counts k 0 ≡ get_or l.initial.counts k 0;
}
