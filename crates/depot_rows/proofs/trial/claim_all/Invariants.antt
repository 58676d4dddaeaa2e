use Rattle.depot.specs.Words.{IsSeatHere}
use Rattle.depot_rows.proofs.trial.claim_all.Given as goal

abbrev pub invariant-loop-who : goal.invariant-loop-who
invariant-loop-who g l = IsSeatHere l.depot l.one × IsSeatHere l.depot l.other
