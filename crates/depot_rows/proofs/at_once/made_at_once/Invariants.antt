use Rattle.desk.specs.Words.{IsKept}
use Rattle.depot_rows.proofs.at_once.made_at_once.Given as goal

-- the desk's seat backs its books
abbrev pub invariant-loop-row : goal.invariant-loop-row
invariant-loop-row g l = IsKept l.desk
