use Rattle.std.proofs.Common.{◌≡◌, ◌<◌, Some, sym, ap, ◌∙◌, arith}
use Rattle.std.specs.Option.{option_map}
use Rattle.std.specs.FinMap.{get}
use Rattle.inodes.specs.Inode.{inode_value, kind_value}
use Rattle.nfs_model.specs.volume.Inodes.{inode_of, filled_blocks}
use Rattle.nfs_model.specs.volume.Logical.{LogicalValue}
use Rattle.service_data.proofs.extending.extend_inode.Goals as goal

pub extended_kind-requires : goal.extended_kind-requires
extended_kind-requires c =
    let here : get c.args.held.now.own.inodes.inodes c.args.fileid.0 ≡ Some (inode_value c.in-Some.inode) =
    sym (ap (λ (l : LogicalValue). inode_of l.inodes c.args.fileid.0) c.get.ensures) ∙ sym c.get-2.ensures ∙ ap (option_map inode_value) c.in-Some.is in
    let room : filled_blocks (kind_value c.in-Some.inode.kind) < 2147483648 = c.requires.room.filled (inode_value c.in-Some.inode) here in
    let few = c.requires.few in
    omega (arith, room, few)
