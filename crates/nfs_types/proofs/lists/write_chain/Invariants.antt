use Rattle.std.proofs.Common.{◌≡◌, ◌+◌, ◌<◌, ◌≤◌, ◌^◌, ◌++◌, length, drop, vec_len, vec_capacity}
use Rattle.nfs_types.proofs.Rest.{chain_spelled}
use Rattle.nfs_types.proofs.lists.write_chain.Given as goal

abbrev pub invariant-loop-item : goal.invariant-loop-item
invariant-loop-item g l =
    let spelled = chain_spelled g.T.Encode.shape g.T.Encode.value in
    (l.out.items ++ spelled (drop l.item-index l.items) ≡ l.initial.out.items ++ spelled l.items)
    × (vec_len l.out + length (spelled (drop l.item-index l.items)) ≤ vec_capacity l.out)
    × (length (spelled (drop l.item-index l.items)) < 2 ^ 32)
    × (vec_capacity l.initial.out ≤ vec_capacity l.out)
