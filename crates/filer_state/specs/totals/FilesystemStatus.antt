-- What FSSTAT answers, by what is under Volume (RFC 1813 section 3.3.18).
use Rattle.std.specs.Prelude.{ℕ, ◌-◌, ◌*◌, Option, Some, None}
use Rattle.std.specs.FinMap.{get, len}
use Rattle.nfs_model.specs.Types.{Space, Answer, FsstatDone, Failed, Stale}
use Rattle.nfs_model.specs.Server.{block_size}
use Rattle.nfs_model.specs.volume.Inodes.{Inode}
use Rattle.filer_state.specs.state.Tree.{file_touch, ranges_used}
use Rattle.filer_state.specs.state.Lenses.{VolumeSet}
use Rattle.filer_state.specs.state.Changes.{shown_inode}

-- the space by the volume's own counts: its ranges in use, the used count, and the number of its inodes
abbrev pub space_held : VolumeSet → Space
space_held set = record {
  total_bytes = block_size * (set.logical.own.dead.range_blocks * ranges_used set.ranges);
  free_bytes = block_size * (set.logical.own.dead.range_blocks * ranges_used set.ranges - set.logical.own.inodes.used);
  inodes = set.logical.own.most_inodes;
  free_inodes = set.logical.own.most_inodes - len set.logical.own.inodes.inodes;
}

-- the attributes of an inode and the space, or STALE; a failure has one absent part, the attributes
abbrev pub filesystem_status_told : ℕ → ℕ → VolumeSet → Option Inode → Answer
filesystem_status_told v fileid set None = Failed Stale 1
filesystem_status_told v fileid set (Some inode) = FsstatDone (shown_inode v fileid inode (file_touch set.logical.stripes fileid)) (space_held set)

-- FSSTAT of a fileid, on the volume of a number
abbrev pub filesystem_status_answer : ℕ → ℕ → VolumeSet → Answer
filesystem_status_answer v fileid set = filesystem_status_told v fileid set (get set.logical.own.inodes.inodes fileid)
