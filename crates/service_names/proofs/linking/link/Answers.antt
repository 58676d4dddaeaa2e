use Rattle.std.proofs.Common.{◌∙◌, ap, List, ℕ, None}
use Rattle.std.specs.Option.{option_map}
use Rattle.nfs_model.specs.Types.{LinkDone}
use Rattle.nfs_model.specs.volume.Directories.{added}
use Rattle.nfs_model.specs.volume.Inodes as values
use Rattle.nfs_model.specs.volume.Maps.{changed_at}
use Rattle.nfs_values.specs.Moment.{moment_of}
use Rattle.inodes.specs.Inode.{inode_value, kind_value}
use Rattle.filer_state.specs.changes.Named.{directory_change}
use Rattle.filer_state.specs.state.Changes.{shown_inode}
use Rattle.filer_state.specs.state.Sets.{logical_before}
use Rattle.service_names.specs.Changing.{with_directories}
use Rattle.service_names.specs.Making.{naming_in_parent}
use Rattle.service_names.specs.Naming.{node_value}
use Rattle.service_names.proofs.Linked.{linked-dated, linked-hung, all-linked}
use Rattle.service_names.proofs.linking.link.Goals as goal

pub returns-clause-told : goal.returns-clause-told
returns-clause-told c =
    let old = c.args.held.now in
    let one = c.add_entry.new.held in
    let two = c.take_touches-touch.new.held in
    let new = c.set_both.new.held in
    let w = c.args.parent in
    let name = c.args.name.now in
    let object = node_value c.args.object in
    let n = naming_in_parent w name (logical_before old) in
    let one_own = c.in_ok-add_entry.ensures.ok
    ∙ ap (λ (text : List ℕ). with_directories (changed_at (added text object.fileid) w.fileid.0 old.own.directories) old.own) c.in_ok-name.ensures.name in
    let hung = linked-hung old one two new w name object c.requires.may one_own c.add_entry.ensures.stripes (inode_value c.counted_inode-linked.result)
    (option_map moment_of c.take_touches-touch.result) c.take_touches-touch.ensures.latest
    c.counted_inode-linked.ensures.attributes c.counted_inode-linked.ensures.names (ap kind_value c.counted_inode-linked.ensures.kind) in
    let dated = linked-dated old one two new w name object c.requires.may one_own c.add_entry.ensures.stripes (inode_value c.dated-changed.result)
    c.dated-changed.ensures in
    let told = c.shown.ensures ∙ ap (λ (i : values.Inode). shown_inode w.volume.0 object.fileid i None) hung in
    let change = c.directory_change.ensures name (moment_of w.moment) (logical_before old) ∙ ap (directory_change n) dated in
    λ j. LinkDone (told j) (change j)

pub returns-clause-set : goal.returns-clause-set
returns-clause-set c =
    let old = c.args.held.now in
    let one = c.add_entry.new.held in
    let two = c.take_touches-touch.new.held in
    let new = c.set_both.new.held in
    let w = c.args.parent in
    let name = c.args.name.now in
    let object = node_value c.args.object in
    let one_own = c.in_ok-add_entry.ensures.ok
    ∙ ap (λ (text : List ℕ). with_directories (changed_at (added text object.fileid) w.fileid.0 old.own.directories) old.own) c.in_ok-name.ensures.name in
    let hung = linked-hung old one two new w name object c.requires.may one_own c.add_entry.ensures.stripes (inode_value c.counted_inode-linked.result)
    (option_map moment_of c.take_touches-touch.result) c.take_touches-touch.ensures.latest
    c.counted_inode-linked.ensures.attributes c.counted_inode-linked.ensures.names (ap kind_value c.counted_inode-linked.ensures.kind) in
    let dated = linked-dated old one two new w name object c.requires.may one_own c.add_entry.ensures.stripes (inode_value c.dated-changed.result)
    c.dated-changed.ensures in
    all-linked old one two new w name object c.requires.may one_own c.add_entry.ensures.stripes (inode_value c.counted_inode-linked.result)
    (inode_value c.dated-changed.result) c.take_touches-touch.ensures.own c.take_touches-touch.ensures.taken c.set_both.ensures.own
    c.set_both.ensures.stripes dated hung
