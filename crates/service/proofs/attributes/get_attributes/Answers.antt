use Rattle.std.proofs.Common.{sym, ap, ◌∙◌, Option, Ok, Err}
use Rattle.nfs_values.specs.declared.status.Status.TheVariants.{Stale}
use Rattle.nfs_model.specs.Types.{GetattrDone}
use Rattle.nfs_model.specs.volume.Inodes.{Inode, inode_of}
use Rattle.nfs_model.specs.volume.Logical.{LogicalValue}
use Rattle.inodes.specs.Inode.{inode_value}
use Rattle.filer_state.specs.state.Sets.{logical_before}
use Rattle.filer_state.specs.state.Tree.{file_touch}
use Rattle.filer_state.specs.state.Changes.{getattr_answer}
use Rattle.service.proofs.Getting.{tells}
use Rattle.service.specs.renames.WholeLemmas.{whole-links}
use Rattle.service.proofs.attributes.get_attributes.Goals as goal

pub shown_now-requires-clause-links : goal.shown_now-requires-clause-links
shown_now-requires-clause-links c =
    whole-links c.args.volume.0 (logical_before c.args.held.now) c.requires.whole c.args.fileid.0 (inode_value c.in-Some.inode)
    (ap (λ (l : LogicalValue). inode_of l.inodes c.args.fileid.0) (sym c.get.ensures) ∙ sym c.in-Some.ensures)

pub returns-in-Some : goal.returns-in-Some
returns-in-Some c = record {
  right = tells c.args.volume.0 c.args.fileid.0 (logical_before c.args.held.now) (Ok c.shown_now.result)
      (ap GetattrDone c.shown_now.ensures
      ∙ ap (λ (o : Option Inode). getattr_answer c.args.volume.0 c.args.fileid.0 o (file_touch (logical_before c.args.held.now).stripes c.args.fileid.0))
      (c.in-Some.ensures ∙ ap (λ (l : LogicalValue). inode_of l.inodes c.args.fileid.0) c.get.ensures));
}

pub returns-in-None : goal.returns-in-None
returns-in-None c = record {
  right = tells c.args.volume.0 c.args.fileid.0 (logical_before c.args.held.now) (Err Stale)
      (ap (λ (o : Option Inode). getattr_answer c.args.volume.0 c.args.fileid.0 o (file_touch (logical_before c.args.held.now).stripes c.args.fileid.0))
      (c.in-None.ensures ∙ ap (λ (l : LogicalValue). inode_of l.inodes c.args.fileid.0) c.get.ensures));
}
