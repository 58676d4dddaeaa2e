use Rattle.std.proofs.Common.{sym, ap, ◌∙◌, subst}
use Rattle.nfs_values.specs.Moment.{moment_of}
use Rattle.nfs_values.specs.Set.{set_of}
use Rattle.nfs_model.specs.volume.Inodes.{Inode, inode_of}
use Rattle.nfs_model.specs.volume.Logical.{LogicalValue}
use Rattle.inodes.specs.Inode.{inode_value}
use Rattle.filer_state.specs.state.Sets.{logical_before}
use Rattle.service_names.specs.Shown.{HasFewLinks}
use Rattle.service_names.specs.lemmas.Whole.{whole-links}
use Rattle.service_names.specs.lemmas.Nodes.{whole-may-be-set}
use Rattle.service_names.proofs.Changed.{few-changed}
use Rattle.service_names.proofs.setting.attributes_set.Goals as goal

pub shown_now-requires-clause-links : goal.shown_now-requires-clause-links
shown_now-requires-clause-links c =
    whole-links c.args.volume.0 (logical_before c.args.held.now) c.requires.whole c.args.fileid.0 (inode_value c.in-Some.inode)
    (ap (λ (l : LogicalValue). inode_of l.inodes c.args.fileid.0) (sym c.get.ensures) ∙ sym c.in-Some.ensures)

pub set_node-changed-requires : goal.set_node-changed-requires
set_node-changed-requires c =
    whole-may-be-set c.args.volume.0 (logical_before c.args.held.now) c.requires.whole c.args.fileid.0 (inode_value c.in-Some.inode)
    (ap (λ (l : LogicalValue). inode_of l.inodes c.args.fileid.0) (sym c.get.ensures) ∙ sym c.in-Some.ensures)

pub shown-after-requires : goal.shown-after-requires
shown-after-requires c = record {
  few = subst HasFewLinks (sym (ap (λ (i : Inode). i.kind) c.set_node-changed.ensures.inode))
      (few-changed c.args.fileid.0 (set_of c.set_taken-taken.result) (moment_of c.args.moment) (inode_value c.in-Some.inode) (logical_before c.args.held.now)
      (whole-links c.args.volume.0 (logical_before c.args.held.now) c.requires.whole c.args.fileid.0 (inode_value c.in-Some.inode)
      (ap (λ (l : LogicalValue). inode_of l.inodes c.args.fileid.0) (sym c.get.ensures) ∙ sym c.in-Some.ensures)));
}
