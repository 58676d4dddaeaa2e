use Rattle.std.proofs.Common.{ap, ◌∙◌}
use Rattle.nfs_model.specs.volume.Inodes.{InodesValue}
use Rattle.std.specs.FinMap.{len}
use Rattle.inodes.proofs.inodes.Inodes.len.Goals as goal

pub returns : goal.returns
returns c = c.len.ensures ∙ ap (λ (v : InodesValue). len v.inodes) c.self.view_is
