use Rattle.depot.specs.Words.{IsSeatHere}
use Rattle.depot_rows.proofs.contention.look_at_all.Given as goal

abbrev pub invariant-loop-number : goal.invariant-loop-number
invariant-loop-number g l = IsSeatHere l.depot l.seat
