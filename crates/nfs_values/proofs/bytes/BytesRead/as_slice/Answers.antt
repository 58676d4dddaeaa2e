use Rattle.std.proofs.Common.{sym}
use Rattle.nfs_values.proofs.Behind.{all-behind}
use Rattle.nfs_values.proofs.bytes.BytesRead.as_slice.Goals as goal

pub returns-else-is_empty : goal.returns-else-is_empty
returns-else-is_empty c =
    all-behind c.deref-else-is_empty.result.now c.self.inside.place.items c.args.self.now c.deref-else-is_empty.ensures.value (sym c.self.view_is)
