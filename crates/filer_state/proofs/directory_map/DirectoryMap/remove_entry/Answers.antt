use Rattle.std.proofs.Common.{ap, ◌∙◌}
use Rattle.nfs_model.specs.volume.Directories.{removed}
use Rattle.nfs_model.specs.volume.Maps.{changed_at}
use Rattle.filer_state.proofs.FileidMaps.{changed-one}
use Rattle.filer_state.proofs.directory_map.DirectoryMap.remove_entry.Goals as goal

pub returns : goal.returns
returns c =
    changed-one (removed c.args.name.now) c.args.directory.0 c.self.inside.by_fileid c.remove_at.new.by_fileid c.remove_at.ensures
    ∙ ap (changed_at (removed c.args.name.now) c.args.directory.0) c.self.view_is
