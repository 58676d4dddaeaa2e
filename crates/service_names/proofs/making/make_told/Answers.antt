use Rattle.std.proofs.Common.{◌∙◌, ℕ, ap, None}
use Rattle.nfs_model.specs.Server.{handle_bytes}
use Rattle.nfs_model.specs.Types.{MadeDone}
use Rattle.nfs_values.specs.Moment.{moment_of}
use Rattle.nfs_model.specs.volume.Inodes.{Inode}
use Rattle.inodes.specs.Inode.{inode_value}
use Rattle.filer_state.specs.state.Changes.{shown_inode}
use Rattle.filer_state.specs.state.Sets.{logical_before}
use Rattle.filer_state.specs.changes.Named.{directory_change}
use Rattle.service_names.specs.Making.{naming_in_parent}
use Rattle.service_names.proofs.making.make_told.Goals as goal

pub returns-clause-told : goal.returns-clause-told
returns-clause-told c =
    let v = c.args.parent.volume.0 in
    let set = logical_before c.args.held.now in
    let made = inode_value c.args.made in
    let next = c.in_ok-fileid.ensures.fileid in
    let handle = c.naming.ensures ∙ ap (handle_bytes v) next in
    let object = c.shown.ensures ∙ ap (λ (q : ℕ). shown_inode v q made None) next in
    let directory = c.directory_change.ensures c.args.name.now (moment_of c.args.parent.moment) set
    ∙ ap (λ (i : Inode). directory_change (naming_in_parent c.args.parent c.args.name.now set) i) c.dated.ensures in
    λ j. MadeDone (handle j) (object j) (directory j)
