use Rattle.std.proofs.Common.{sym}
use Rattle.nfs_types.specs.lemmas.Lists.{length-exports}
use Rattle.nfs_types.proofs.mounting.ExportsEncode.size.Goals as goal

pub returns : goal.returns
returns c = sym (length-exports 0 c.args.self.now.volumes)
