use Rattle.std.proofs.Common.{arith}
use Rattle.nfs_types.specs.lemmas.Lists.{length-exports}
use Rattle.nfs_types.proofs.mounting.ExportsEncode.write.Goals as goal

pub write_exports-requires-clause-room : goal.write_exports-requires-clause-room
write_exports-requires-clause-room c = omega (arith, length-exports 0 c.args.self.now.volumes)
