use Rattle.std.proofs.Common.{ap, sym, ◌∙◌, Bool, Option}
use Rattle.std.specs.Prelude.{if◌then◌else◌}
use Rattle.nfs_model.specs.Types.{Exists}
use Rattle.nfs_model.specs.volume.Inodes as values
use Rattle.nfs_values.specs.Moment.{moment_of}
use Rattle.inodes.specs.Inode.{inode_value}
use Rattle.filer_state.specs.changes.Linking.{held_link, link_by, with_three}
use Rattle.filer_state.specs.changes.Named.{on_held_name, fails, node_under, HeldNode}
use Rattle.filer_state.specs.state.Changes.{LogicalAnswer}
use Rattle.filer_state.specs.state.Sets.{logical_before}
use Rattle.service_names.specs.Naming.{naming_in}
use Rattle.service_names.specs.lemmas.Linkable.{whole-linkable}
use Rattle.service_names.specs.lemmas.May.{whole-absent}
use Rattle.service_names.proofs.Tying.{on-err-then}
use Rattle.service_names.proofs.linking.link_made.Goals as goal

pub returns-in-Err-clause-told : goal.returns-in-Err-clause-told
returns-in-Err-clause-told c =
    let s = logical_before c.args.held.now in
    sym (ap (λ (r : LogicalAnswer). with_three r.answer) (c.in-Err.ensures.told (λ (inode : values.Inode).
    on_held_name c.args.volume.0 c.args.directory.0 c.args.name.now (moment_of c.args.moment)
    (held_link (record { fileid = c.args.fileid.0; inode = inode })) s)))

pub returns-in-Err-clause-set : goal.returns-in-Err-clause-set
returns-in-Err-clause-set c =
    let s = logical_before c.args.held.now in
    sym (ap (λ (r : LogicalAnswer). r.set) (c.in-Err.ensures.told (λ (inode : values.Inode).
    on_held_name c.args.volume.0 c.args.directory.0 c.args.name.now (moment_of c.args.moment)
    (held_link (record { fileid = c.args.fileid.0; inode = inode })) s)))

pub link_new-requires : goal.link_new-requires
link_new-requires c = record {
  may = λ few.
      let v = c.args.volume.0 in
      let set = logical_before c.args.held.now in
      let inode = inode_value c.in-Ok-directory_named.inode in
      whole-linkable v set c.requires.whole
      (record { volume = c.args.volume; fileid = c.args.directory; inode = c.in-Ok-directory_named.inode; moment = c.args.moment }) c.args.name.now
      (record { fileid = c.args.fileid.0; inode = inode_value c.in-Ok.inode })
      c.in-Ok-directory_named.ensures.there c.in-Ok-directory_named.ensures.as_directory
      (whole-absent v set c.requires.whole c.args.directory.0 inode c.args.name.now c.in-Ok-directory_named.ensures.there
      c.in-Ok-directory_named.ensures.as_directory (sym c.in-None.ensures.node))
      c.in-Ok.ensures.there c.in-Ok.ensures.file few;
}

pub returns-in-None-clause-would : goal.returns-in-None-clause-would
returns-in-None-clause-would c =
    let v = c.args.volume.0 in
    let s = logical_before c.args.held.now in
    let moment = moment_of c.args.moment in
    let object : HeldNode = record { fileid = c.args.fileid.0; inode = inode_value c.in-Ok.inode } in
    let n = naming_in v c.args.directory.0 (inode_value c.in-Ok-directory_named.inode) c.args.name.now moment s in
    let same =
    c.in-Ok.ensures.told (λ (inode : values.Inode).
    on_held_name v c.args.directory.0 c.args.name.now moment (held_link (record { fileid = c.args.fileid.0; inode = inode })) s)
    ∙ c.in-Ok-directory_named.ensures.told v moment (held_link object)
    ∙ ap (λ (b : Bool). if b then fails Exists s else link_by object n (node_under n)) (sym c.is_dots.ensures ∙ c.if-is_dots.false)
    ∙ ap (link_by object n) (sym c.in-None.ensures.node) in
    on-err-then c.link_new.result (λ o. (o.0, o.1, ap (λ (r : LogicalAnswer). with_three r.answer) same ∙ ap with_three o.2)) c.link_new.ensures.would
