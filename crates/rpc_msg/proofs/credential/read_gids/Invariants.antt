use Rattle.std.proofs.Common.{◌≡◌, ◌-◌, length}
use Rattle.xdr.specs.Shape.{Word}
use Rattle.xdr.specs.Reading.{items_at, read}
use Rattle.nfs_values.specs.Credential.{gids_in}
use Rattle.rpc_msg.proofs.Words.{behind}
use Rattle.rpc_msg.proofs.credential.read_gids.Given as goal

abbrev pub invariant-loop-gid : goal.invariant-loop-gid
invariant-loop-gid l =
    (behind (gids_in l.gids) (items_at (λ rest. read Word rest) (l.count - l._gid) l.from) ≡ items_at (λ rest. read Word rest) l.count l.initial.from)
    × (length (gids_in l.gids) ≡ l._gid)
