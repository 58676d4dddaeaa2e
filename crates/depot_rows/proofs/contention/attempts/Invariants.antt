-- the seat has made just the calls that are listed
use Rattle.std.specs.Prelude.{◌≡◌}
use Rattle.depot.specs.Words.{IsSeatHere}
use Rattle.depot_rows.specs.Counting.{made_by}
use Rattle.depot_rows.proofs.contention.attempts.Given as goal

abbrev pub invariant-loop-attempt : goal.invariant-loop-attempt
invariant-loop-attempt l = IsSeatHere l.depot l.seat × (made_by l.seat ≡ l.made.items)
