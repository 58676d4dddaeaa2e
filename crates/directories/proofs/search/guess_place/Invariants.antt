use Rattle.std.proofs.Common.{◌≤◌, length}
use Rattle.directories.proofs.search.guess_place.Given as goal

abbrev pub invariant-loop : goal.invariant-loop
invariant-loop l = l.high ≤ length l.index
