use Rattle.std.proofs.Common.{◌<◌, ◌≤◌, ℕ}
use Rattle.scheduler.specs.Lines.{IsIn}
use Rattle.scheduler.proofs.lines.last_below.Given as goal

abbrev pub invariant-loop-below : goal.invariant-loop-below
invariant-loop-below l =
    (l.below ≤ l.high) × ((j : ℕ) → l.below ≤ j → j < l.high → IsIn l.cells l.queue j → ⊥)

abbrev pub decreases-loop-below : goal.decreases-loop-below
decreases-loop-below l = l.below
