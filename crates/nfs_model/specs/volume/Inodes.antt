-- The inodes of a volume: attributes, and what a reply shows beside them (RFC 1813 section 2.6).
use Rattle.std.specs.Prelude.{◌≡◌, ℕ, ◌+◌, ◌-◌, ◌<◌, List, [], ◌∷◌, Option, Some, None}
use Rattle.std.specs.Ordering.{nat_cmp}
use Rattle.std.specs.FinMap.{FinMap, get, insert, remove, entries, from_sorted}
use Rattle.nfs_model.specs.Types.{Moment, Ownership, SpecialType}
use Rattle.nfs_model.specs.Server.{Attributes, root_node}
use Rattle.nfs_model.specs.Shown.{effective_attributes, times}
use Rattle.nfs_model.specs.volume.Maps.{changed_at}

-- what an inode is of
pub data InodeKind : Type 0 where
  -- a regular file: its size in bytes, how many of its blocks are filled, the verifier of its exclusive creation
  RegularFile : (size filled : ℕ) (verifier : Option (List ℕ)) → InodeKind
  -- a directory: its parent's fileid, and how many of its entries are directories
  DirectoryKind : (parent subdirectories : ℕ) → InodeKind
  -- a symbolic link, with the length of its text in bytes, a FIFO, a socket or a device, of size 0
  SpecialFile : (special : SpecialType) (size : ℕ) → InodeKind

pub record Inode : Type 0 where
  pub attributes : Attributes
  pub names : ℕ  -- how many entries of directories name it; the root has none
  pub kind : InodeKind

pub record InodesValue : Type 0 where
  pub next : ℕ  -- the next fileid
  pub used : ℕ  -- the filled blocks of all files
  pub inodes : FinMap nat_cmp Inode

-- the most inodes of a volume, in any layout
abbrev pub inodes_of_a_volume : ℕ
inodes_of_a_volume = 67108864

-- ---- the beginning

-- the root of a volume that begins at a moment, its own parent, with the attributes that it begins with
abbrev pub root_inode : Ownership → Moment → Inode
root_inode owner moment = record { attributes = times (root_node owner moment); names = 0; kind = DirectoryKind 1 0 }

-- a volume's inodes as it begins at a moment: its root alone
abbrev pub opening_inodes : Ownership → Moment → InodesValue
opening_inodes owner moment = record { next = 2; used = 0; inodes = from_sorted ((1, root_inode owner moment) ∷ []) }

-- ---- what is asked

abbrev pub inode_of : InodesValue → ℕ → Option Inode
inode_of v fileid = get v.inodes fileid

-- the filled blocks of an inode; only files have some
abbrev pub filled_blocks : InodeKind → ℕ
filled_blocks (RegularFile size filled verifier) = filled
filled_blocks (DirectoryKind parent subdirectories) = 0
filled_blocks (SpecialFile special size) = 0

-- the attributes as they hold, where a file was touched at a moment since its times were last set
abbrev pub attributes_held : Option Moment → Inode → Attributes
attributes_held touch inode = effective_attributes touch inode.attributes

-- the filled blocks of inodes
abbrev pub blocks_filled : List (ℕ × Inode) → ℕ
blocks_filled [] = 0
blocks_filled (e ∷ es) = filled_blocks e.1.kind + blocks_filled es

-- ---- what changes them

-- a touch becomes the stored times
abbrev pub settled_inode : Option Moment → Inode → Inode
settled_inode touch inode = record inode { attributes = effective_attributes touch inode.attributes }

-- a touch becomes the stored times of an inode, where there is one of this fileid; else nothing changes
abbrev pub inode_settled : ℕ → Option Moment → InodesValue → InodesValue
inode_settled fileid touch v = record v { inodes = changed_at (settled_inode touch) fileid v.inodes }

-- an inode in the place of an old one, if there is one
abbrev pub inode_replaced : Option Inode → ℕ → Inode → InodesValue → InodesValue
inode_replaced None fileid inode v = v
inode_replaced (Some old) fileid inode v = record v {
  used = v.used - filled_blocks old.kind + filled_blocks inode.kind;
  inodes = insert v.inodes fileid inode;
}

-- an inode set, where there is one of this fileid; else nothing changes
abbrev pub inode_set : ℕ → Inode → InodesValue → InodesValue
inode_set fileid inode v = inode_replaced (get v.inodes fileid) fileid inode v

-- one more inode, under the next fileid
abbrev pub inode_created : Inode → InodesValue → InodesValue
inode_created inode v = record { next = v.next + 1; used = v.used + filled_blocks inode.kind; inodes = insert v.inodes v.next inode }

-- the used count without an inode
abbrev pub used_without : ℕ → Option Inode → ℕ
used_without used None = used
used_without used (Some inode) = used - filled_blocks inode.kind

-- an inode gone; its fileid isn't given again
abbrev pub inode_dropped : ℕ → InodesValue → InodesValue
inode_dropped fileid v = record v { used = used_without v.used (get v.inodes fileid); inodes = remove v.inodes fileid }

-- the inode made last gone as if it had never been made: its fileid is the next again
abbrev pub inode_unmade : InodesValue → InodesValue
inode_unmade v = record (inode_dropped (v.next - 1) v) { next = v.next - 1 }

-- ---- what holds of them

-- Fileids are below the next one, and the used count is that of all filled blocks.
pub record IsInodes (v : InodesValue) : Type 0 where
  pub fileids : (fileid : ℕ) (inode : Inode) → get v.inodes fileid ≡ Some inode → fileid < v.next
  pub filled : v.used ≡ blocks_filled (entries v.inodes)
