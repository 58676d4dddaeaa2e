use Rattle.depot.specs.Words.{IsSeatHere}
use Rattle.depot_rows.proofs.trial.splits.Given as goal

abbrev pub invariant-loop-made : goal.invariant-loop-made
invariant-loop-made l = IsSeatHere l.depot l.seat
