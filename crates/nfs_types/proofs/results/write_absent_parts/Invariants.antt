use Rattle.std.proofs.Common.{◌≡◌, ◌+◌, ◌-◌, ◌*◌, ◌≤◌, ◌++◌, vec_len, vec_capacity}
use Rattle.nfs_types.specs.Results.{absent_bytes}
use Rattle.nfs_types.proofs.results.write_absent_parts.Given as goal

abbrev pub invariant-loop-part : goal.invariant-loop-part
invariant-loop-part l =
    (l.out.items ≡ l.initial.out.items ++ absent_bytes l._part)
    × (vec_len l.out + 4 * (l.count - l._part) ≤ vec_capacity l.out)
    × (vec_capacity l.initial.out ≤ vec_capacity l.out)
