use Rattle.filer_state.specs.state.Sets.{range_value, placed, vbn_set}
use Rattle.filer_state.specs.state.Tree.{ranges_used}
use Rattle.filer_state.proofs.Counted.{UsedSoFar}
use Rattle.filer_state.proofs.counting.ranges_used.Given as goal

-- what is counted so far, and the ranges that are left, are all
abbrev pub invariant-loop-range : goal.invariant-loop-range
invariant-loop-range l = UsedSoFar (λ r. range_value (placed l.held.ranges.at r)) (ranges_used (vbn_set l.held)) l.range l.used
