use Rattle.std.proofs.Common.{arith}
use Rattle.nfs_values.proofs.Handles.{handle_of_read}
use Rattle.nfs_values.proofs.handle.read_named.Goals as goal

pub returns : goal.returns
returns c =
    handle_of_read c.args.bytes.now c.read_u32.result c.read_u64.result c.requires (λ i. (c.type_inv.bytes i).fits)
    (omega (arith, c.read_u32.ensures)) (omega (arith, c.read_u64.ensures))
