use Rattle.std.proofs.Common.{◌≡◌, ◌<◌, ℕ}
use Rattle.std.specs.FinSet as sets
use Rattle.filer_state.specs.state.Sets.{range_value, placed}
use Rattle.service_data.proofs.parts.take_free.Given as goal

-- the ranges so far have no free number, and nothing has changed
abbrev pub invariant-loop-range : goal.invariant-loop-range
invariant-loop-range l = (l.held ≡ l.initial.held)
    × ((k : ℕ) → k < l.range → (range_value (placed l.initial.held.ranges.at k)).free ≡ sets.empty)
