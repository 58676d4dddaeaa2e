use Rattle.std.proofs.Common.{sym}
use Rattle.inodes.specs.Inode.{inode_value}
use Rattle.filer_state.specs.state.Sets.{logical_before}
use Rattle.service_names.specs.lemmas.May.{whole-may, whole-absent}
use Rattle.service_names.specs.lemmas.Nodes.{whole-may-be-set}
use Rattle.service_names.specs.lemmas.Whole.{whole-links}
use Rattle.service_names.proofs.Tying.{on-err}
use Rattle.service_names.proofs.creating.file_created.Goals as goal

pub create_new-requires : goal.create_new-requires
create_new-requires c = record {
  may =
      let v = c.args.volume.0 in
      let set = logical_before c.args.held.now in
      let inode = inode_value c.in-Ok.inode in
      whole-may v set c.requires.whole
      (record { volume = c.args.volume; fileid = c.args.directory; inode = c.in-Ok.inode; moment = c.args.moment }) c.args.name.now
      c.in-Ok.ensures.there c.in-Ok.ensures.as_directory
      (whole-absent v set c.requires.whole c.args.directory.0 inode c.args.name.now c.in-Ok.ensures.there c.in-Ok.ensures.as_directory
      (sym c.in-None.ensures.node));
}

pub create_existing-requires-clause-may : goal.create_existing-requires-clause-may
create_existing-requires-clause-may c =
    whole-may-be-set c.args.volume.0 (logical_before c.args.held.now) c.requires.whole c.in-Some.child.fileid.0 (inode_value c.in-Some.child.inode)
    c.in-Some.ensures.there

pub create_existing-requires-clause-links : goal.create_existing-requires-clause-links
create_existing-requires-clause-links c =
    whole-links c.args.volume.0 (logical_before c.args.held.now) c.requires.whole c.args.directory.0 (inode_value c.in-Ok.inode) c.in-Ok.ensures.there

pub returns-in-None-clause-absent : goal.returns-in-None-clause-absent
returns-in-None-clause-absent c =
    on-err c.create_new.result
    (whole-absent c.args.volume.0 (logical_before c.args.held.now) c.requires.whole c.args.directory.0 (inode_value c.in-Ok.inode) c.args.name.now
    c.in-Ok.ensures.there c.in-Ok.ensures.as_directory (sym c.in-None.ensures.node))
