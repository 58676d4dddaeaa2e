use Rattle.std.proofs.Common.{◌≡◌, ℕ}
use Rattle.filer_state.specs.state.Sets.{range_value, placed}
use Rattle.service_batches.specs.Counts.{counts_shown}
use Rattle.service_batches.proofs.counting.survey.Given as goal

-- the counts of the ranges so far
abbrev pub invariant-loop-range : goal.invariant-loop-range
invariant-loop-range l = l.counts.items ≡ counts_shown (λ (r : ℕ). range_value (placed l.held.ranges.at r)) l.range
