use Rattle.std.proofs.Common.{sym, ap, ◌∙◌, subst}
use Rattle.nfs_model.specs.Types.{GoneDone}
use Rattle.nfs_values.specs.Moment.{moment_of}
use Rattle.nfs_model.specs.volume.Inodes.{Inode}
use Rattle.inodes.specs.Inode.{kind_value}
use Rattle.filer_state.specs.state.Sets.{logical_before}
use Rattle.filer_state.specs.changes.NodesMade.{directories_in}
use Rattle.filer_state.specs.changes.Named.{directory_change}
use Rattle.service_names.specs.Naming.{node_value, naming_of}
use Rattle.service_names.specs.Shown.{HasFewLinks}
use Rattle.service_names.proofs.Removed.{few-left}
use Rattle.service_names.proofs.NamesGone.{gone-told}
use Rattle.service_names.proofs.removing.name_removed.Goals as goal

pub directory_change-requires-clause-after : goal.directory_change-requires-clause-after
directory_change-requires-clause-after c =
    subst HasFewLinks (sym (ap (λ (i : Inode). i.kind) (c.drop_name-left.ensures.inode c.args.volume.0)))
    (few-left (directories_in (kind_value c.args.child.inode.kind)) (kind_value c.args.directory.inode.kind) c.requires.links)

pub returns-clause-told : goal.returns-clause-told
returns-clause-told c =
    let n = naming_of c.args.volume.0 c.args.directory c.args.name.now (moment_of c.args.moment) (logical_before c.args.held.now) in
    ap GoneDone (c.directory_change.ensures c.args.name.now (moment_of c.args.moment) (logical_before c.args.held.now)
    ∙ ap (directory_change n) (c.drop_name-left.ensures.inode c.args.volume.0))
    ∙ sym (gone-told n (node_value c.args.child))
