use Rattle.std.proofs.Common.{◌∙◌, ap, sym}
use Rattle.nfs_values.specs.Caller.{caller_of}
use Rattle.nfs_values.specs.Set.{mode_of}
use Rattle.nfs_values.specs.declared.set.CreateMode.{CreateMode}
use Rattle.inodes.specs.Inode.{kind_value}
use Rattle.filer_state.specs.state.Sets.{logical_before}
use Rattle.filer_state.specs.changes.Making.{create_existing}
use Rattle.service_names.specs.Making.{naming_in_parent}
use Rattle.service_names.specs.Naming.{node_value}
use Rattle.service_names.proofs.existing.create_existing.Goals as goal

pub returns-in-Exclusive-clause-told : goal.returns-in-Exclusive-clause-told
returns-in-Exclusive-clause-told c = λ name.
    let n = naming_in_parent c.args.parent name (logical_before c.args.held.now) in
    let caller = caller_of c.args.caller.now in
    c.tell_existing.ensures.told caller name
    ∙ ap (λ (m : CreateMode). (create_existing n (mode_of m) caller (node_value c.args.child) (kind_value c.args.child.inode.kind)).answer)
    (sym c.in-Exclusive.is)

pub returns-in-Exclusive-clause-set : goal.returns-in-Exclusive-clause-set
returns-in-Exclusive-clause-set c = λ name.
    let n = naming_in_parent c.args.parent name (logical_before c.args.held.now) in
    let caller = caller_of c.args.caller.now in
    c.tell_existing.ensures.set caller name
    ∙ ap (λ (m : CreateMode). (create_existing n (mode_of m) caller (node_value c.args.child) (kind_value c.args.child.inode.kind)).set)
    (sym c.in-Exclusive.is)
