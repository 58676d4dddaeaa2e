use Rattle.std.proofs.Common.{◌≡◌, map, take}
use Rattle.affinity.specs.Specification.{volume_asked, volume_sized}
use Rattle.affinity.proofs.sizes.with_sizes.Given as goal

abbrev pub invariant-loop-volume : goal.invariant-loop-volume
invariant-loop-volume l = map volume_sized l.specifications.items ≡ map volume_asked (take l.volume-index l.volumes)
