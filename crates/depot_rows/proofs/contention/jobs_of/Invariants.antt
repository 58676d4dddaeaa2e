-- the seat that is left has made nothing
use Rattle.std.specs.Prelude.{◌≡◌, []}
use Rattle.depot.specs.Words.{IsSeatHere}
use Rattle.depot_rows.specs.Counting.{made_by}
use Rattle.depot_rows.proofs.contention.jobs_of.Given as goal

abbrev pub invariant-loop-number : goal.invariant-loop-number
invariant-loop-number g l = IsSeatHere l.depot l.rest × (made_by l.rest ≡ [])
