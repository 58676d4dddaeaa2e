use Rattle.std.proofs.Common.{◌∙◌, ap, sym, true, Option}
use Rattle.std.specs.Option.{option_map}
use Rattle.nfs_model.specs.Server.{handle_bytes}
use Rattle.nfs_model.specs.Types.{MadeDone, Moment}
use Rattle.nfs_values.specs.declared.verifier.Verifier.{Verifier}
use Rattle.inodes.specs.Inode.{kind_value, inode_value}
use Rattle.filer_state.specs.state.Changes.{LogicalAnswer, shown_inode}
use Rattle.filer_state.specs.state.Sets.{logical_before}
use Rattle.filer_state.specs.changes.Named.{directory_change}
use Rattle.service_names.specs.Making.{naming_in_parent}
use Rattle.service_names.specs.Naming.{node_value}
use Rattle.service_names.proofs.Overs.{exclusive-upon}
use Rattle.service_names.proofs.existing.tell_existing.Goals as goal

pub returns-then-is_verifier-clause-told : goal.returns-then-is_verifier-clause-told
returns-then-is_verifier-clause-told c = λ caller name.
    let v = c.args.parent.volume.0 in
    let q = c.args.child.fileid.0 in
    let set = logical_before c.args.held.now in
    let n = naming_in_parent c.args.parent name set in
    let kept = option_map (λ (x : Verifier). x.0) c.in-RegularFile.kept in
    c.there.ensures name set
    ∙ ap (λ (t : Option Moment). MadeDone (handle_bytes v q) (shown_inode v q (inode_value c.args.child.inode) t)
    (directory_change n (inode_value c.args.parent.inode))) c.latest_touch.ensures
    ∙ sym (ap (λ (a : LogicalAnswer). a.answer) (exclusive-upon n (node_value c.args.child) (kind_value c.args.child.inode.kind)
    c.in-RegularFile.size c.in-RegularFile.filled kept (ap kind_value c.in-RegularFile.is) caller c.args.verifier.0 true
    (sym c.is_verifier.ensures ∙ c.if-is_verifier.true)))
