use Rattle.std.proofs.Common.{sym}
use Rattle.inodes.specs.Inode.{inode_value}
use Rattle.filer_state.specs.state.Sets.{logical_before}
use Rattle.service_names.specs.lemmas.May.{whole-may, whole-absent}
use Rattle.service_names.proofs.creating.special_made.Goals as goal

pub make_special_new-requires : goal.make_special_new-requires
make_special_new-requires c = record {
  may =
      let v = c.args.volume.0 in
      let set = logical_before c.args.held.now in
      let inode = inode_value c.in-Ok.inode in
      whole-may v set c.requires.whole
      (record { volume = c.args.volume; fileid = c.args.directory; inode = c.in-Ok.inode; moment = c.args.moment }) c.args.name.now
      c.in-Ok.ensures.there c.in-Ok.ensures.as_directory
      (whole-absent v set c.requires.whole c.args.directory.0 inode c.args.name.now c.in-Ok.ensures.there c.in-Ok.ensures.as_directory
      (sym c.in-None.ensures.node));
}
