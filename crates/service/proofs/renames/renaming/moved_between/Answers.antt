use Rattle.std.proofs.Common.{Some, sym, ap, ◌∙◌}
use Rattle.std.specs.Option.{option_map}
use Rattle.nfs_values.specs.Status.{status_of}
use Rattle.inodes.specs.Inode.{inode_value}
use Rattle.filer_state.specs.state.Sets.{logical_before}
use Rattle.filer_state.specs.state.Changes.{LogicalAnswer}
use Rattle.service_names.specs.RenamingChanges.{rename_by}
use Rattle.service_names.specs.Naming.{node_value}
use Rattle.service.specs.renames.Renaming.{done_between, renaming_in}
use Rattle.service.proofs.renames.Done.{bad-names, good-names, on-err, one-node}
use Rattle.service.proofs.renames.Known.{two-nodes, whole-within, within-at}
use Rattle.service.proofs.renames.renaming.moved_between.Goals as goal

pub told-requires-clause-from : goal.told-requires-clause-from
told-requires-clause-from c =
    within-at c.args.between.volume.0 (logical_before c.args.held.now) c.requires.whole c.args.between.from.fileid.0 (inode_value c.args.between.from.inode)
    c.requires.there.from

pub told-requires-clause-to : goal.told-requires-clause-to
told-requires-clause-to c =
    within-at c.args.between.volume.0 (logical_before c.args.held.now) c.requires.whole c.args.between.to.fileid.0 (inode_value c.args.between.to.inode)
    c.requires.there.to

pub told-requires-clause-now : goal.told-requires-clause-now
told-requires-clause-now c = whole-within c.args.between.volume.0 (logical_before c.args.held.now) c.requires.whole

pub returns-in-Some-clause-told : goal.returns-in-Some-clause-told
returns-in-Some-clause-told c =
    let s = logical_before c.args.held.now in
    sym (ap (λ (a : LogicalAnswer). a.answer) (bad-names (renaming_in c.args.between c.args.from_name.now c.args.to_name.now s)
    (done_between c.args.between c.args.from_name.now c.args.to_name.now s) c.requires.done (status_of c.in-Some.fault) c.in-Some.ensures))

pub returns-in-Some-clause-set : goal.returns-in-Some-clause-set
returns-in-Some-clause-set c =
    let s = logical_before c.args.held.now in
    sym (ap (λ (a : LogicalAnswer). a.set) (bad-names (renaming_in c.args.between c.args.from_name.now c.args.to_name.now s)
    (done_between c.args.between c.args.from_name.now c.args.to_name.now s) c.requires.done (status_of c.in-Some.fault) c.in-Some.ensures))

pub returns-then-is_one_node-clause-told : goal.returns-then-is_one_node-clause-told
returns-then-is_one_node-clause-told c =
    let s = logical_before c.args.held.now in
    let r = renaming_in c.args.between c.args.from_name.now c.args.to_name.now s in
    let done = done_between c.args.between c.args.from_name.now c.args.to_name.now s in
    let child = node_value c.in-Some-child_at.child in
    let target = option_map node_value c.child_at-target.result in
    c.told.ensures c.args.from_name.now c.args.to_name.now s
    ∙ sym (ap (λ (a : LogicalAnswer). a.answer) (one-node r child target done
    (good-names r done c.requires.done c.in_default.ensures (Some child) c.in-Some-child_at.ensures.node
    ∙ ap (rename_by r (Some child)) (sym c.child_at-target.ensures.node))
    (sym c.is_one_node.ensures ∙ c.if-is_one_node.true)))

pub returns-then-is_one_node-clause-set : goal.returns-then-is_one_node-clause-set
returns-then-is_one_node-clause-set c =
    let s = logical_before c.args.held.now in
    let r = renaming_in c.args.between c.args.from_name.now c.args.to_name.now s in
    let done = done_between c.args.between c.args.from_name.now c.args.to_name.now s in
    let child = node_value c.in-Some-child_at.child in
    let target = option_map node_value c.child_at-target.result in
    sym (ap (λ (a : LogicalAnswer). a.set) (one-node r child target done
    (good-names r done c.requires.done c.in_default.ensures (Some child) c.in-Some-child_at.ensures.node
    ∙ ap (rename_by r (Some child)) (sym c.child_at-target.ensures.node))
    (sym c.is_one_node.ensures ∙ c.if-is_one_node.true)))

pub returns-clause-apart : goal.returns-clause-apart
returns-clause-apart c =
    on-err c.child_moved.result
    (two-nodes c.args.between c.args.from_name.now c.args.to_name.now (logical_before c.args.held.now) c.requires.whole c.requires.there
    (node_value c.in-Some-child_at.child) c.in-Some-child_at.ensures.node (option_map node_value c.child_at-target.result)
    c.child_at-target.ensures.node (sym c.is_one_node.ensures ∙ c.if-is_one_node.false))
