use Rattle.std.proofs.Common.{ap, ◌∙◌}
use Rattle.nfs_model.specs.volume.Inodes.{InodesValue}
use Rattle.std.specs.FinMap.{get}
use Rattle.inodes.proofs.inodes.Inodes.get.Goals as goal

pub returns : goal.returns
returns c = c.get.ensures ∙ ap (λ (v : InodesValue). get v.inodes c.args.fileid.0) c.self.view_is
