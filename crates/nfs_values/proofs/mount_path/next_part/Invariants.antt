use Rattle.std.proofs.Common.{◌≡◌, ◌≤◌, length}
use Rattle.nfs_model.specs.Serial.Mount.{parts}
use Rattle.nfs_values.proofs.mount_path.next_part.Given as goal

-- What was passed says nothing.
abbrev pub invariant-loop-path : goal.invariant-loop-path
invariant-loop-path l = (parts l.path ≡ parts l.initial.path) × (length l.path ≤ length l.initial.path)

abbrev pub decreases-loop-path : goal.decreases-loop-path
decreases-loop-path l = length l.path
