use Rattle.std.proofs.Common.{◌≡◌}
use Rattle.service.specs.totals.Ranges.{first_places, with_places}
use Rattle.service.proofs.totals.ranges.put_in_use.Given as goal

-- the ranges so far are in use
abbrev pub invariant-loop-range : goal.invariant-loop-range
invariant-loop-range l = l.held ≡ with_places (first_places l.range l.initial.held.ranges.at) l.initial.held
