use Rattle.std.proofs.Common.{arith}
use Rattle.nfs_types.proofs.Rest.{length-counts}
use Rattle.nfs_types.proofs.lists.VecVolumeCountEncode.size.Goals as goal

pub overflow_mul-result : goal.overflow_mul-result
overflow_mul-result c = omega (arith, length-counts c.args.self.now.items)

pub overflow_add-result : goal.overflow_add-result
overflow_add-result c = omega (arith, length-counts c.args.self.now.items)

pub returns : goal.returns
returns c = omega (arith, length-counts c.args.self.now.items)
