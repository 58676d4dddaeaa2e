-- A node that is set.
use Rattle.std.proofs.Common.{ℕ, Option, Some, None}
use Rattle.nfs_model.specs.Types.{Moment, SetAttributes}
use Rattle.std.specs.Prelude.{length}
use Rattle.nfs_model.specs.volume.Inodes.{Inode}
use Rattle.filer_state.specs.state.Lenses.{LogicalSet}
use Rattle.filer_state.specs.changes.NodesSized.{all_freed}
use Rattle.filer_state.specs.changes.Attributes.{node_sized, node_changed}
use Rattle.service_names.specs.Shown.{HasFewLinks}
use Rattle.service_names.proofs.Removed.{few-sized}

-- it has as many links
pub few-changed : (fileid : ℕ) (set : SetAttributes) (moment : Moment) (inode : Inode) (s : LogicalSet) → HasFewLinks inode.kind
    → HasFewLinks (node_changed fileid set moment inode s).inode.kind
few-changed fileid set moment inode s few = by set.size
  where
    by : (size : Option ℕ) → HasFewLinks (node_sized fileid set moment inode size s).inode.kind
    by None = few
    by (Some size) = few-sized size (length (all_freed fileid size s.stripes)) inode.kind few
