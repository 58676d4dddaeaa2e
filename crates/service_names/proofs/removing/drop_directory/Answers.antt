use Rattle.std.proofs.Common.{sym, ap, ◌∙◌, subst}
use Rattle.nfs_model.specs.Types.{GoneDone}
use Rattle.nfs_values.specs.Moment.{moment_of}
use Rattle.nfs_model.specs.volume.Inodes.{Inode}
use Rattle.inodes.specs.Inode.{inode_value, kind_value}
use Rattle.filer_state.specs.state.Changes.{LogicalAnswer}
use Rattle.filer_state.specs.state.Sets.{logical_before}
use Rattle.filer_state.specs.changes.NodesMade.{directories_in}
use Rattle.filer_state.specs.changes.Named.{directory_change}
use Rattle.service_names.specs.Naming.{node_value, naming_of}
use Rattle.service_names.specs.Shown.{HasFewLinks}
use Rattle.service_names.proofs.Removed.{few-left, removed-directory-kind, still-entered, no-entries}
use Rattle.service_names.proofs.removing.drop_directory.Goals as goal

pub drop_node-left-requires-clause-entered : goal.drop_node-left-requires-clause-entered
drop_node-left-requires-clause-entered c =
    still-entered c.args.volume.0 c.args.directory.fileid.0 (inode_value c.args.directory.inode) c.args.name.now (moment_of c.args.moment)
    (logical_before c.args.held.now) (node_value c.args.child) c.requires.under _ _ (ap kind_value c.in-Directory.is)
    (no-entries _ c.is_empty.result c.is_empty.ensures c.if-not-is_empty.false) c.requires.entered

pub directory_change-requires-clause-after : goal.directory_change-requires-clause-after
directory_change-requires-clause-after c =
    subst HasFewLinks (sym (ap (λ (i : Inode). i.kind) (c.drop_node-left.ensures.inode c.args.volume.0)))
    (few-left (directories_in (kind_value c.args.child.inode.kind)) (kind_value c.args.directory.inode.kind) c.requires.links)

pub returns-else-not-is_empty-clause-answer : goal.returns-else-not-is_empty-clause-answer
returns-else-not-is_empty-clause-answer c =
    let done = removed-directory-kind c.args.volume.0 c.args.directory.fileid.0 (inode_value c.args.directory.inode) c.args.name.now (moment_of c.args.moment)
    (logical_before c.args.held.now) (node_value c.args.child) c.requires.under _ _ (ap kind_value c.in-Directory.is)
    (no-entries _ c.is_empty.result c.is_empty.ensures c.if-not-is_empty.false) in
    ap GoneDone (c.directory_change.ensures c.args.name.now (moment_of c.args.moment) (logical_before c.args.held.now)
    ∙ ap (directory_change (naming_of c.args.volume.0 c.args.directory c.args.name.now (moment_of c.args.moment) (logical_before c.args.held.now)))
    (c.drop_node-left.ensures.inode c.args.volume.0))
    ∙ sym (ap (λ (r : LogicalAnswer). r.answer) done)

pub returns-else-not-is_empty-clause-set : goal.returns-else-not-is_empty-clause-set
returns-else-not-is_empty-clause-set c =
    let done = removed-directory-kind c.args.volume.0 c.args.directory.fileid.0 (inode_value c.args.directory.inode) c.args.name.now (moment_of c.args.moment)
    (logical_before c.args.held.now) (node_value c.args.child) c.requires.under _ _ (ap kind_value c.in-Directory.is)
    (no-entries _ c.is_empty.result c.is_empty.ensures c.if-not-is_empty.false) in
    c.drop_node-left.ensures.set c.args.volume.0 ∙ sym (ap (λ (r : LogicalAnswer). r.set) done)
