use Rattle.std.proofs.Common.{ℕ, ◌<◌}
use Rattle.desk.specs.laws.Books.{IsIdle}
use Rattle.desk.specs.Words.{books}
use Rattle.depot_rows.proofs.turns.are_idle.Given as goal

abbrev pub invariant-loop-worker : goal.invariant-loop-worker
invariant-loop-worker g l = (i : ℕ) → i < l.worker → IsIdle (books l.desk) i
