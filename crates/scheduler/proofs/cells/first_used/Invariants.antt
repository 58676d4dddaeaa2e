use Rattle.std.proofs.Common.{◌≡◌, ◌≤◌, ◌-◌, [], length, take}
use Rattle.scheduler.specs.Kept.{present}
use Rattle.scheduler.proofs.cells.first_used.Given as goal

abbrev pub invariant-loop-cell : goal.invariant-loop-cell
invariant-loop-cell g l = (l.cell ≤ length l.messages) × (present (take l.cell l.messages) ≡ [])

abbrev pub decreases-loop-cell : goal.decreases-loop-cell
decreases-loop-cell g l = length l.messages - l.cell
