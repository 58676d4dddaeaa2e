use Rattle.std.proofs.Common.{◌∙◌, ap, sym, None}
use Rattle.nfs_model.specs.Server.{handle_bytes}
use Rattle.nfs_model.specs.Types.{MadeDone}
use Rattle.nfs_values.specs.Set.{set_of}
use Rattle.nfs_model.specs.volume.Inodes.{Inode}
use Rattle.inodes.specs.Inode.{inode_value}
use Rattle.filer_state.specs.state.Changes.{LogicalAnswer, shown_inode}
use Rattle.filer_state.specs.state.Sets.{logical_before}
use Rattle.filer_state.specs.changes.Named.{directory_change}
use Rattle.service_names.specs.Making.{naming_in_parent}
use Rattle.service_names.specs.Naming.{node_value}
use Rattle.service_names.proofs.Overs.{over-upon}
use Rattle.service_names.proofs.existing.set_over.Goals as goal

pub returns-clause-told : goal.returns-clause-told
returns-clause-told c = λ name.
    let v = c.args.parent.volume.0 in
    let q = c.args.child.fileid.0 in
    let set = logical_before c.args.held.now in
    let n = naming_in_parent c.args.parent name set in
    c.there.ensures name set
    ∙ ap (λ (i : Inode). MadeDone (handle_bytes v q) (shown_inode v q i None) (directory_change n (inode_value c.args.parent.inode)))
    c.set_node-inode.ensures.inode
    ∙ sym (ap (λ (a : LogicalAnswer). a.answer) (over-upon n (node_value c.args.child) (set_of c.args.set.now) None (sym c.in_default.ensures)))
