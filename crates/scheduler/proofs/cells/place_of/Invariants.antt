use Rattle.std.proofs.Common.{◌≡◌, ◌≤◌, length, take}
use Rattle.scheduler.specs.Kept.{present}
use Rattle.scheduler.proofs.cells.place_of.Given as goal

abbrev pub invariant-loop-earlier : goal.invariant-loop-earlier
invariant-loop-earlier g l = (l.earlier ≤ l.cell) × (l.place ≡ length (present (take l.earlier l.messages)))
