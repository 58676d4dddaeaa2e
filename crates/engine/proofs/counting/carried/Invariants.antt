use Rattle.engine.proofs.Counted.{CarriedSoFar}
use Rattle.engine.proofs.counting.carried.Given as goal

-- what is counted so far, and what the others carry, are all
abbrev pub invariant-loop-at : goal.invariant-loop-at
invariant-loop-at l = CarriedSoFar l.volume l.workers l.at l.carried
