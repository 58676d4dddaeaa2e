use Rattle.std.proofs.Common.{◌≡◌, ◌+◌, ◌*◌, ◌-◌, ◌≤◌, ◌++◌, length, drop, vec_len, vec_capacity}
use Rattle.nfs_types.proofs.Rest.{counts_spelled}
use Rattle.nfs_types.proofs.lists.write_counts.Given as goal

abbrev pub invariant-loop-volume : goal.invariant-loop-volume
invariant-loop-volume l =
    (l.out.items ++ counts_spelled (drop l.volume-index l.volumes) ≡ l.initial.out.items ++ counts_spelled l.volumes)
    × (vec_len l.out + 20 * (length l.volumes - l.volume-index) ≤ vec_capacity l.out)
    × (vec_capacity l.initial.out ≤ vec_capacity l.out)
