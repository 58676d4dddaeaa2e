use Rattle.std.proofs.Common.{◌∙◌, ap, sym, true, false, Option}
use Rattle.std.specs.Option.{option_map}
use Rattle.nfs_model.specs.Server.{handle_bytes}
use Rattle.nfs_model.specs.Types.{MadeDone, Moment, SetAttributes}
use Rattle.nfs_values.specs.Caller.{caller_of}
use Rattle.nfs_values.specs.Set.{set_of}
use Rattle.nfs_values.specs.declared.verifier.Verifier.{Verifier}
use Rattle.inodes.specs.Inode.{kind_value, inode_value}
use Rattle.filer_state.specs.state.Changes.{LogicalAnswer, shown_inode}
use Rattle.filer_state.specs.state.Sets.{logical_before}
use Rattle.filer_state.specs.changes.Attributes.{taken_of}
use Rattle.filer_state.specs.changes.Making.{over_set}
use Rattle.filer_state.specs.changes.Named.{directory_change}
use Rattle.service_names.specs.Making.{naming_in_parent}
use Rattle.service_names.specs.Naming.{node_value}
use Rattle.service_names.proofs.Overs.{unchecked-upon}
use Rattle.service_names.proofs.existing.set_existing.Goals as goal

pub returns-then-sets_nothing-clause-told : goal.returns-then-sets_nothing-clause-told
returns-then-sets_nothing-clause-told c = λ name.
    let v = c.args.parent.volume.0 in
    let q = c.args.child.fileid.0 in
    let set = logical_before c.args.held.now in
    let n = naming_in_parent c.args.parent name set in
    let kept = option_map (λ (x : Verifier). x.0) c.in-RegularFile.verifier in
    c.there.ensures name set
    ∙ ap (λ (t : Option Moment). MadeDone (handle_bytes v q) (shown_inode v q (inode_value c.args.child.inode) t)
    (directory_change n (inode_value c.args.parent.inode))) c.latest_touch.ensures
    ∙ sym (ap (λ (a : LogicalAnswer). a.answer) (unchecked-upon n (node_value c.args.child) (kind_value c.args.child.inode.kind)
    c.in-RegularFile.size c.in-RegularFile.filled kept (ap kind_value c.in-RegularFile.is) (caller_of c.args.caller.now) (set_of c.args.set.now) true
    (sym c.sets_nothing.ensures ∙ c.if-sets_nothing.true)))

pub returns-then-sets_nothing-clause-set : goal.returns-then-sets_nothing-clause-set
returns-then-sets_nothing-clause-set c = λ name.
    let n = naming_in_parent c.args.parent name (logical_before c.args.held.now) in
    let kept = option_map (λ (x : Verifier). x.0) c.in-RegularFile.verifier in
    sym (ap (λ (a : LogicalAnswer). a.set) (unchecked-upon n (node_value c.args.child) (kind_value c.args.child.inode.kind)
    c.in-RegularFile.size c.in-RegularFile.filled kept (ap kind_value c.in-RegularFile.is) (caller_of c.args.caller.now) (set_of c.args.set.now) true
    (sym c.sets_nothing.ensures ∙ c.if-sets_nothing.true)))

pub returns-else-sets_nothing-clause-told : goal.returns-else-sets_nothing-clause-told
returns-else-sets_nothing-clause-told c = λ name.
    let n = naming_in_parent c.args.parent name (logical_before c.args.held.now) in
    let kept = option_map (λ (x : Verifier). x.0) c.in-RegularFile.verifier in
    let caller = caller_of c.args.caller.now in
    let taken = c.set_taken-taken.ensures ∙ ap (λ (s : SetAttributes). taken_of caller s (inode_value c.args.child.inode)) c.over_taken.ensures in
    c.set_over.ensures.told name
    ∙ ap (λ (s : SetAttributes). (over_set n s (node_value c.args.child)).answer) taken
    ∙ sym (ap (λ (a : LogicalAnswer). a.answer) (unchecked-upon n (node_value c.args.child) (kind_value c.args.child.inode.kind)
    c.in-RegularFile.size c.in-RegularFile.filled kept (ap kind_value c.in-RegularFile.is) caller (set_of c.args.set.now) false
    (sym c.sets_nothing.ensures ∙ c.if-sets_nothing.false)))

pub returns-else-sets_nothing-clause-set : goal.returns-else-sets_nothing-clause-set
returns-else-sets_nothing-clause-set c = λ name.
    let n = naming_in_parent c.args.parent name (logical_before c.args.held.now) in
    let kept = option_map (λ (x : Verifier). x.0) c.in-RegularFile.verifier in
    let caller = caller_of c.args.caller.now in
    let taken = c.set_taken-taken.ensures ∙ ap (λ (s : SetAttributes). taken_of caller s (inode_value c.args.child.inode)) c.over_taken.ensures in
    c.set_over.ensures.set name
    ∙ ap (λ (s : SetAttributes). (over_set n s (node_value c.args.child)).set) taken
    ∙ sym (ap (λ (a : LogicalAnswer). a.set) (unchecked-upon n (node_value c.args.child) (kind_value c.args.child.inode.kind)
    c.in-RegularFile.size c.in-RegularFile.filled kept (ap kind_value c.in-RegularFile.is) caller (set_of c.args.set.now) false
    (sym c.sets_nothing.ensures ∙ c.if-sets_nothing.false)))
