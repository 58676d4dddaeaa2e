use Rattle.std.proofs.Common.{◌∙◌, arith}
use Rattle.nfs_types.proofs.Item.{item-put}
use Rattle.nfs_types.proofs.lists.put_item.Goals as goal

pub returns : goal.returns
returns c =
    item-put c.args.fileid.0 c.args.cookie.0 c.args.name.now c.args.bytes.now c.copy_from_slice.new.self c.copy_from_slice-2.new.self c.copy_from_slice-3.new.self
    c.size_of_fixed-end.result _ _ c.requires.zeros (c.copy_from_slice.ensures.after ∙ c.before_name.ensures) c.copy_from_slice-2.ensures.after
    (c.copy_from_slice-3.ensures.after ∙ c.to_be_bytes.ensures) c.requires.short c.size_of_fixed-end.ensures (omega arith) (omega arith)
