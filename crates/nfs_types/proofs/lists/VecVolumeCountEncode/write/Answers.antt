use Rattle.std.proofs.Common.{arith}
use Rattle.nfs_types.proofs.Rest.{length-counts}
use Rattle.nfs_types.proofs.lists.VecVolumeCountEncode.write.Goals as goal

pub overflow_cast-len : goal.overflow_cast-len
overflow_cast-len c = omega (arith, length-counts c.args.self.now.items)
