use Rattle.filer_state.specs.state.Contents.{each}
use Rattle.filer_state.specs.state.Sets.{range_value, placed}
use Rattle.filer_state.specs.bytes.WritingUp.{free_count}
use Rattle.service_data.proofs.Counted.{FreeSoFar}
use Rattle.service_data.proofs.counting.count_free.Given as goal

-- this many so far
abbrev pub invariant-loop-range : goal.invariant-loop-range
invariant-loop-range l =
    FreeSoFar (λ r. range_value (placed l.fn.held.ranges.at r)) (free_count (each (λ r. range_value (placed l.fn.held.ranges.at r)) 0 16)) l.range l.free
