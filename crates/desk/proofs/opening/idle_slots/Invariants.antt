use Rattle.std.proofs.Common.{◌≡◌, None, replicate}
use Rattle.desk.specs.Slots.{all_granted}
use Rattle.desk.proofs.opening.idle_slots.Given as goal

abbrev pub invariant-loop-done : goal.invariant-loop-done
invariant-loop-done g l = all_granted l.slots.items ≡ replicate l._done None
