use Rattle.std.proofs.Common.{sym, ap, ◌∙◌}
use Rattle.nfs_model.specs.volume.Inodes.{inode_of}
use Rattle.nfs_model.specs.volume.Logical.{LogicalValue}
use Rattle.inodes.specs.Inode.{inode_value}
use Rattle.filer_state.specs.state.Sets.{logical_before}
use Rattle.service_names.specs.lemmas.Whole.{whole-links}
use Rattle.service_names.proofs.telling.object_at.Goals as goal

pub shown_now-requires-clause-links : goal.shown_now-requires-clause-links
shown_now-requires-clause-links c =
    whole-links c.args.volume.0 (logical_before c.args.held.now) c.requires.whole c.args.fileid.0 (inode_value c.in-Some.inode)
    (ap (λ (l : LogicalValue). inode_of l.inodes c.args.fileid.0) (sym c.get.ensures) ∙ sym c.in-Some.ensures)
