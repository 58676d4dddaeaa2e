use Rattle.std.proofs.Common.{sym, ap, ◌∙◌}
use Rattle.nfs_values.specs.Moment.{moment_of}
use Rattle.inodes.specs.Inode.{inode_value, kind_value}
use Rattle.filer_state.specs.state.Changes.{LogicalAnswer}
use Rattle.filer_state.specs.state.Names.{parent_in}
use Rattle.filer_state.specs.state.Sets.{logical_before}
use Rattle.filer_state.specs.changes.Dropping.{held_remove}
use Rattle.service_names.specs.Naming.{node_value}
use Rattle.service_names.specs.lemmas.Whole.{whole-links}
use Rattle.service_names.specs.lemmas.Nodes.{whole-may-be-set}
use Rattle.service_names.proofs.Removed.{removed-name}
use Rattle.service_names.proofs.removing.file_removed.Goals as goal

pub name_removed-requires-clause-child : goal.name_removed-requires-clause-child
name_removed-requires-clause-child c =
    whole-may-be-set c.args.volume.0 (logical_before c.args.held.now) c.requires.whole c.in-Some.child.fileid.0 (inode_value c.in-Some.child.inode)
    c.in-Some.ensures.there

pub name_removed-requires-clause-links : goal.name_removed-requires-clause-links
name_removed-requires-clause-links c =
    whole-links c.args.volume.0 (logical_before c.args.held.now) c.requires.whole c.args.directory.0 (inode_value c.in-Ok.inode) c.in-Ok.ensures.there

pub returns-in-RegularFile-clause-answer : goal.returns-in-RegularFile-clause-answer
returns-in-RegularFile-clause-answer c =
    let done = removed-name c.args.volume.0 c.args.directory.0 (inode_value c.in-Ok.inode) c.args.name.now (moment_of c.args.moment)
    (logical_before c.args.held.now) (node_value c.in-Some.child) (sym c.in-Some.ensures.node) _
    (c.in-Ok.ensures.told c.args.volume.0 (moment_of c.args.moment) held_remove) (sym c.is_dots.ensures ∙ c.if-is_dots.false)
    (ap (λ k. parent_in (kind_value k)) c.in-RegularFile.is) in
    c.name_removed.ensures.told ∙ sym (ap (λ (r : LogicalAnswer). r.answer) done)

pub returns-in-RegularFile-clause-set : goal.returns-in-RegularFile-clause-set
returns-in-RegularFile-clause-set c =
    let done = removed-name c.args.volume.0 c.args.directory.0 (inode_value c.in-Ok.inode) c.args.name.now (moment_of c.args.moment)
    (logical_before c.args.held.now) (node_value c.in-Some.child) (sym c.in-Some.ensures.node) _
    (c.in-Ok.ensures.told c.args.volume.0 (moment_of c.args.moment) held_remove) (sym c.is_dots.ensures ∙ c.if-is_dots.false)
    (ap (λ k. parent_in (kind_value k)) c.in-RegularFile.is) in
    c.name_removed.ensures.set ∙ sym (ap (λ (r : LogicalAnswer). r.set) done)

pub name_removed-requires-in-Special-clause-child : goal.name_removed-requires-in-Special-clause-child
name_removed-requires-in-Special-clause-child c =
    whole-may-be-set c.args.volume.0 (logical_before c.args.held.now) c.requires.whole c.in-Some.child.fileid.0 (inode_value c.in-Some.child.inode)
    c.in-Some.ensures.there

pub name_removed-requires-in-Special-clause-links : goal.name_removed-requires-in-Special-clause-links
name_removed-requires-in-Special-clause-links c =
    whole-links c.args.volume.0 (logical_before c.args.held.now) c.requires.whole c.args.directory.0 (inode_value c.in-Ok.inode) c.in-Ok.ensures.there

pub returns-in-Special-clause-answer : goal.returns-in-Special-clause-answer
returns-in-Special-clause-answer c =
    let done = removed-name c.args.volume.0 c.args.directory.0 (inode_value c.in-Ok.inode) c.args.name.now (moment_of c.args.moment)
    (logical_before c.args.held.now) (node_value c.in-Some.child) (sym c.in-Some.ensures.node) _
    (c.in-Ok.ensures.told c.args.volume.0 (moment_of c.args.moment) held_remove) (sym c.is_dots.ensures ∙ c.if-is_dots.false)
    (ap (λ k. parent_in (kind_value k)) c.in-Special.is) in
    c.name_removed-in-Special.ensures.told ∙ sym (ap (λ (r : LogicalAnswer). r.answer) done)

pub returns-in-Special-clause-set : goal.returns-in-Special-clause-set
returns-in-Special-clause-set c =
    let done = removed-name c.args.volume.0 c.args.directory.0 (inode_value c.in-Ok.inode) c.args.name.now (moment_of c.args.moment)
    (logical_before c.args.held.now) (node_value c.in-Some.child) (sym c.in-Some.ensures.node) _
    (c.in-Ok.ensures.told c.args.volume.0 (moment_of c.args.moment) held_remove) (sym c.is_dots.ensures ∙ c.if-is_dots.false)
    (ap (λ k. parent_in (kind_value k)) c.in-Special.is) in
    c.name_removed-in-Special.ensures.set ∙ sym (ap (λ (r : LogicalAnswer). r.set) done)
