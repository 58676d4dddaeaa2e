use Rattle.std.proofs.Common.{◌≡◌, ◌+◌, length, take}
use Rattle.scheduler.specs.Kept.{present}
use Rattle.scheduler.proofs.cells.cell_at.Given as goal

abbrev pub invariant-loop-cell : goal.invariant-loop-cell
invariant-loop-cell g l = l.left + length (present (take l.cell l.messages)) ≡ l.place
