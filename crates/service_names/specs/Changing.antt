-- What calls that change nodes take, and leave.
use Rattle.std.specs.Prelude.{ℕ, ◌*◌, ◌<◌, ◌≤◌, ◌==◌, List, [], ◌∷◌, length, Option, Some, None, IsSome, if◌then◌else◌}
use Rattle.std.specs.FinMap.{get}
use Rattle.nfs_model.specs.Parts.{most_ranges}
use Rattle.nfs_model.specs.Server.{Attributes}
use Rattle.nfs_model.specs.Types.{Moment}
use Rattle.nfs_model.specs.volume.Inodes.{Inode, InodeKind, InodesValue, inode_set}
use Rattle.filer_state.specs.state.Names.{DirectoryMap, TextMap}
use Rattle.nfs_model.specs.volume.Logical.{LogicalValue}
use Rattle.nfs_model.specs.volume.Ranges.{dead_marked, most_range_blocks}
use Rattle.filer_state.specs.state.Lenses.{LogicalSet}
use Rattle.filer_state.specs.state.Tree.{stripe_at}
use Rattle.filer_state.specs.changes.NodesDropped.{without_subdirectories}
use Rattle.filer_state.specs.changes.NodesMade.{directories_in}
use Rattle.filer_state.specs.changes.NodesSized.{Sizing, all_freed}

-- numbers that blocks of a volume can have whose ranges have this many
abbrev pub AreNumbers : (size : ℕ) → List ℕ → Type 0
AreNumbers size [] = Unit {0}
AreNumbers size (n ∷ ns) = (n < most_ranges * size) × AreNumbers size ns

-- with more dead blocks
abbrev pub with_dead : List ℕ → LogicalValue → LogicalValue
with_dead ns l = record l { dead = dead_marked ns l.dead }

-- with an inode set
abbrev pub with_inode : ℕ → Inode → LogicalValue → LogicalValue
with_inode fileid inode l = record l { inodes = inode_set fileid inode l.inodes }

-- What setting the node of a fileid takes: there are no more stripes than places and no more blocks used than any volume has, each stripe
-- has its card, and its blocks have numbers of the volume.
pub record MayBeSet (fileid : ℕ) (s : LogicalSet) : Type 0 where
  pub few : s.own.stripes ≤ 16
  pub used : s.own.inodes.used ≤ most_ranges * most_range_blocks
  pub cards : (i : ℕ) → i < s.own.stripes → IsSome (get (stripe_at s.stripes i).cards fileid)
  pub numbers : (size : ℕ) → AreNumbers s.own.dead.range_blocks (all_freed fileid size s.stripes)

-- a file to be sized
abbrev pub sizing : ℕ → Inode → Attributes → ℕ → Sizing
sizing fileid inode attributes size = record { fileid = fileid; inode = inode; attributes = attributes; size = size }

-- an inode with other attributes
abbrev pub with_value : Inode → Attributes → Inode
with_value inode attributes = record inode { attributes = attributes }

-- with other inodes
abbrev pub with_inodes : InodesValue → LogicalValue → LogicalValue
with_inodes inodes l = record l { inodes = inodes }

-- with other directories
abbrev pub with_directories : DirectoryMap → LogicalValue → LogicalValue
with_directories directories l = record l { directories = directories }

-- the inode of a directory after a node of a kind under it is dropped at a moment
abbrev pub inode_left : Inode → InodeKind → Moment → Inode
inode_left inode kind moment = record inode {
  attributes = record inode.attributes { mtime = moment; ctime = moment };
  kind = without_subdirectories (directories_in kind) inode.kind;
}

-- with other texts
abbrev pub with_texts : TextMap → LogicalValue → LogicalValue
with_texts texts l = record l { texts = texts }

-- a text, if it isn't empty
abbrev pub text_given : List ℕ → Option (List ℕ)
text_given text = if length text == 0 then None else Some text
