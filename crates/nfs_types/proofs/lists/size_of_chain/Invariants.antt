use Rattle.std.proofs.Common.{◌≡◌, ◌+◌, ◌<◌, ◌^◌, length, drop}
use Rattle.nfs_types.proofs.Rest.{chain_spelled}
use Rattle.nfs_types.proofs.lists.size_of_chain.Given as goal

abbrev pub invariant-loop-item : goal.invariant-loop-item
invariant-loop-item g l =
    let spelled = chain_spelled g.T.Encode.shape g.T.Encode.value in
    (l.size + length (spelled (drop l.item-index l.items)) ≡ 4 + length (spelled l.items)) × (length (spelled l.items) < 2 ^ 32)
