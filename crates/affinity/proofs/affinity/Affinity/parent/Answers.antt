use Rattle.std.proofs.Common.{ap}
use Rattle.nfs_model.specs.Tree.{path}
use Rattle.affinity.specs.declared.affinity.Affinity.{Affinity}
use Rattle.affinity.specs.Affinity.{affinity_of}
use Rattle.affinity.specs.Layout.{layout_of}
use Rattle.affinity.proofs.affinity.Affinity.parent.Goals as goal

-- Vbn is the second child of its volume
pub returns-in-VolumeVbn-clause-way : goal.returns-in-VolumeVbn-clause-way
returns-in-VolumeVbn-clause-way c =
    (1, ap (λ (a : Affinity). path (layout_of c.args.layout.now) (affinity_of a)) c.in-VolumeVbn.is)
