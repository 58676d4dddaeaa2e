-- FSSTAT (RFC 1813 section 3.3.18).
use Rattle.std.specs.Prelude.{ℕ, ◌-◌, ◌*◌}
use Rattle.std.specs.FinMap.{get, len}
use Rattle.nfs_model.specs.Types.{Space, FsstatDone}
use Rattle.nfs_model.specs.Server.{VolumeState, used, block_size}
use Rattle.nfs_model.specs.Shown.{shown}
use Rattle.nfs_model.specs.Locate.{Effect, Tells, on_node}

-- the space of a volume; the blocks in files are what is used
abbrev pub space : VolumeState → Space
space volume = record {
  total_bytes = block_size * volume.total;
  free_bytes = block_size * (volume.total - used volume);
  inodes = volume.most_inodes;
  free_inodes = volume.most_inodes - len volume.nodes;
}

-- the attributes and the space, or STALE
abbrev pub fsstat : VolumeState → ℕ → Effect
fsstat volume fileid =
    on_node (get volume.nodes fileid) (λ node. Tells (FsstatDone (shown volume fileid node) (space volume)))
