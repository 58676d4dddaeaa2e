use Rattle.std.proofs.Common.{ap, ◌∙◌}
use Rattle.nfs_model.specs.Tree as trees
use Rattle.affinity.specs.Specification.{volume_sized}
use Rattle.server.proofs.Planned.{some-of}
use Rattle.server.proofs.opening.layout_of.Goals as goal

pub returns-in-Ok : goal.returns-in-Ok
returns-in-Ok c = record {
  spare = ap (λ (l : trees.Layout). l.spare) c.in-Ok.ensures.ok;
  volumes_are = ap (λ (l : trees.Layout). l.volumes) c.in-Ok.ensures.ok ∙ some-of volume_sized _ c.args.volumes 8 c.requires;
}
