use Rattle.std.proofs.Common.{◌≤◌}
use Rattle.depot.specs.Words.{IsSeatHere}
use Rattle.depot.proofs.trial.adding.touches.Given as goal

abbrev pub invariant-loop-call : goal.invariant-loop-call
invariant-loop-call g l = (l.refused ≤ l._call) × IsSeatHere l.depot l.seat
