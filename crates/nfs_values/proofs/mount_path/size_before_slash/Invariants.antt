use Rattle.std.proofs.Common.{◌≡◌, ◌+◌, length}
use Rattle.nfs_values.specs.MountPath.{before_slash}
use Rattle.nfs_values.proofs.mount_path.size_before_slash.Given as goal

-- So many bytes, none a slash, stand before the rest.
abbrev pub invariant-loop-character : goal.invariant-loop-character
invariant-loop-character l = (length (before_slash l.path) ≡ l.size + length (before_slash l.rest)) × (length l.path ≡ l.size + length l.rest)

abbrev pub decreases-loop-character : goal.decreases-loop-character
decreases-loop-character l = length l.rest
