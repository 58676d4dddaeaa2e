use Rattle.std.proofs.Common.{[], Some, sym, ap, subst, ◌∙◌}
use Rattle.std.specs.Option.{option_map}
use Rattle.nfs_model.specs.Tree.{Logical}
use Rattle.nfs_values.specs.Moment.{moment_of}
use Rattle.nfs_values.specs.Status.{status_of}
use Rattle.inodes.specs.Inode.{inode_value}
use Rattle.filer_state.specs.state.Changes.{LogicalAnswer}
use Rattle.filer_state.specs.state.Lenses.{LogicalSet}
use Rattle.filer_state.specs.state.Sets.{logical_before}
use Rattle.service_names.specs.ChangeLaws.{rename_call}
use Rattle.service_names.specs.RenamingChanges.{held_renamed, rename_by, set_renamed}
use Rattle.service_names.specs.Naming.{node_value}
use Rattle.service.specs.renames.Renaming.{AllWithin, done_between, renaming_in}
use Rattle.service.proofs.renames.Done.{bad-place, on-err, node-moved, renamed}
use Rattle.service.proofs.renames.Known.{may-move, within-at, left-within}
use Rattle.service.proofs.renames.renaming.child_moved.Goals as goal

pub returns-in-Some-clause-told : goal.returns-in-Some-clause-told
returns-in-Some-clause-told c =
    let s = logical_before c.args.held.now in
    let r = renaming_in c.args.between c.args.from_name.now c.args.to_name.now s in
    sym (ap (λ (a : LogicalAnswer). a.answer) (bad-place r (node_value c.args.child) (option_map node_value c.args.target)
    (done_between c.args.between c.args.from_name.now c.args.to_name.now s)
    (c.requires.done ∙ ap (rename_by r (Some (node_value c.args.child))) (sym c.requires.upon)) c.requires.apart (status_of c.in-Some.fault)
    (c.in-Some.ensures c.args.from_name.now c.args.to_name.now)))

pub returns-in-Some-clause-set : goal.returns-in-Some-clause-set
returns-in-Some-clause-set c =
    let s = logical_before c.args.held.now in
    let r = renaming_in c.args.between c.args.from_name.now c.args.to_name.now s in
    sym (ap (λ (a : LogicalAnswer). a.set) (bad-place r (node_value c.args.child) (option_map node_value c.args.target)
    (done_between c.args.between c.args.from_name.now c.args.to_name.now s)
    (c.requires.done ∙ ap (rename_by r (Some (node_value c.args.child))) (sym c.requires.upon)) c.requires.apart (status_of c.in-Some.fault)
    (c.in-Some.ensures c.args.from_name.now c.args.to_name.now)))

pub move_node-requires : goal.move_node-requires
move_node-requires c =
    may-move c.args.between c.args.from_name.now c.args.to_name.now (logical_before c.args.held.now) c.requires.whole c.requires.there
    (node_value c.args.child) c.requires.under (option_map node_value c.args.target) c.requires.upon
    (sym c.may_go.ensures ∙ c.if-not-may_go.false) c.requires.apart

pub returns-in_err-move_node-clause-would : goal.returns-in_err-move_node-clause-would
returns-in_err-move_node-clause-would c =
    let s = logical_before c.args.held.now in
    let r = renaming_in c.args.between c.args.from_name.now c.args.to_name.now s in
    let child = node_value c.args.child in
    let target = option_map node_value c.args.target in
    on-err c.from_residual.result
    (renamed r (set_renamed r child target) (done_between c.args.between c.args.from_name.now c.args.to_name.now s)
    (node-moved r child target (done_between c.args.between c.args.from_name.now c.args.to_name.now s)
    (c.requires.done ∙ ap (rename_by r (Some child)) (sym c.requires.upon)) c.requires.apart
    (c.in_default.ensures c.args.from_name.now c.args.to_name.now) (sym c.may_go.ensures ∙ c.if-not-may_go.false)))

pub told-requires-clause-from : goal.told-requires-clause-from
told-requires-clause-from c =
    within-at c.args.between.volume.0 (logical_before c.args.held.now) c.requires.whole c.args.between.from.fileid.0 (inode_value c.args.between.from.inode)
    c.requires.there.from

pub told-requires-clause-to : goal.told-requires-clause-to
told-requires-clause-to c =
    within-at c.args.between.volume.0 (logical_before c.args.held.now) c.requires.whole c.args.between.to.fileid.0 (inode_value c.args.between.to.inode)
    c.requires.there.to

pub told-requires-clause-now : goal.told-requires-clause-now
told-requires-clause-now c =
    let s = logical_before c.args.held.now in
    let b = c.args.between in
    let r = renaming_in b c.args.from_name.now c.args.to_name.now s in
    let child = node_value c.args.child in
    let target = option_map node_value c.args.target in
    let done = done_between b c.args.from_name.now c.args.to_name.now s in
    let moved =
    node-moved r child target done (c.requires.done ∙ ap (rename_by r (Some child)) (sym c.requires.upon)) c.requires.apart
    (c.in_default.ensures c.args.from_name.now c.args.to_name.now) (sym c.may_go.ensures ∙ c.if-not-may_go.false) in
    subst (λ (x : LogicalSet). AllWithin x.own.inodes.inodes) (ap (λ (a : LogicalAnswer). a.set) moved ∙ sym c.in_ok-move_node.ensures.ok)
    (left-within b.volume.0 s c.requires.whole
    (rename_call [] [] (Logical b.volume.0) b.from.fileid.0 c.args.from_name.now b.to.fileid.0 c.args.to_name.now (moment_of b.moment)) done
    (c.renaming_calls_are_right.ensures.rename b.volume.0 b.from.fileid.0 b.to.fileid.0 [] c.args.from_name.now [] c.args.to_name.now
    (Logical b.volume.0) (moment_of b.moment) s))

pub returns-clause-told : goal.returns-clause-told
returns-clause-told c =
    let s = logical_before c.args.held.now in
    let r = renaming_in c.args.between c.args.from_name.now c.args.to_name.now s in
    let child = node_value c.args.child in
    let target = option_map node_value c.args.target in
    let moved =
    node-moved r child target (done_between c.args.between c.args.from_name.now c.args.to_name.now s)
    (c.requires.done ∙ ap (rename_by r (Some child)) (sym c.requires.upon)) c.requires.apart
    (c.in_default.ensures c.args.from_name.now c.args.to_name.now) (sym c.may_go.ensures ∙ c.if-not-may_go.false) in
    c.told.ensures c.args.from_name.now c.args.to_name.now s
    ∙ ap (λ (x : LogicalSet). (held_renamed r x).answer) c.in_ok-move_node.ensures.ok
    ∙ sym (ap (λ (a : LogicalAnswer). a.answer) moved)
