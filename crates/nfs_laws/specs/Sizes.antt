-- The sizes of a server's volumes, which are its layout's: no call changes them.
use Rattle.std.specs.Prelude.{◌≡◌, ℕ, Some, slice_get}
use Rattle.nfs_model.specs.Tree.{Layout, range_blocks_of}
use Rattle.nfs_model.specs.Server.{VolumeState, Server}

-- a range of each volume has as many blocks as a layout says
pub record HaveSizes (layout : Layout) (server : Server) : Type 0 where
  pub ranges : (v : ℕ) (volume : VolumeState) → slice_get server.volumes v ≡ Some volume → volume.range_blocks ≡ range_blocks_of layout v
