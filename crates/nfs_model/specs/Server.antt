-- The server without its parts: volumes of named nodes, files as lists of bytes.
use Rattle.std.specs.Prelude.{ℕ, ◌+◌, ◌*◌, List, [], ◌∷◌, length, take, drop, replicate, Option, Some, None, slice_set}
use Rattle.std.specs.Prelude.{nat_lt, ◌==◌, ◌&&◌, if◌then◌else◌, ◌++◌}
use Rattle.std.specs.Int.{w32, w64, to_be_bytes, from_be_bytes}
use Rattle.std.specs.Ordering.{nat_cmp}
use Rattle.std.specs.FinMap.{FinMap, entries, from_sorted}
use Rattle.std.specs.FinSet.{FinSet}
use Rattle.std.specs.FinSet as sets
use Rattle.nfs_model.specs.Types.{Moment, Ownership, SpecialType, Listed}
use Rattle.nfs_model.specs.Tree.{Layout, VolumeLayout}
use Rattle.nfs_model.specs.Memo.{Memo}

-- what is stored of fattr3 (RFC 1813 section 2.6)
pub record Attributes : Type 0 where
  pub mode : ℕ
  pub uid : ℕ
  pub gid : ℕ
  pub atime : Moment
  pub mtime : Moment
  pub ctime : Moment

-- a regular file
pub record FileNode : Type 0 where
  pub attributes : Attributes
  pub bytes : List ℕ
  pub filled : FinSet nat_cmp  -- the numbers of the blocks that are there
  pub touch : Option Moment  -- the latest write since the times were last set
  pub verifier : Option (List ℕ)  -- of the exclusive creation
  pub links : ℕ  -- how many names it has

-- a directory; `.` and `..` aren't in its list
pub record DirectoryNode : Type 0 where
  pub attributes : Attributes
  pub parent : ℕ
  pub next : ℕ  -- the next cookie
  pub list : List Listed  -- by rising cookies

-- a symbolic link, a FIFO, a socket or a device
pub record SpecialNode : Type 0 where
  pub attributes : Attributes
  pub special : SpecialType
  pub text : List ℕ  -- of a symbolic link; all else has none
  pub links : ℕ  -- how many names it has

-- an inode
pub data Node : Type 0 where
  File : (file : FileNode) → Node
  Directory : (directory : DirectoryNode) → Node
  Special : (node : SpecialNode) → Node

-- A file system: its nodes by fileid (RFC 1813 section 2.5). Fileids grow and aren't used again.
pub record VolumeState : Type 0 where
  pub number : ℕ
  pub aggregate : ℕ
  pub total : ℕ  -- blocks
  pub largest : ℕ  -- size of a file
  pub range_blocks : ℕ  -- the blocks of a range
  pub most_inodes : ℕ  -- the root with them
  pub most_steps : ℕ  -- of directories whose parents a RENAME looks at
  pub verifier : List ℕ  -- of writes, fixed for the run
  pub next : ℕ  -- the next fileid
  pub nodes : FinMap nat_cmp Node
  pub memos : List (Option Memo)  -- the places for what is remembered of calls

-- the whole state that calls see
pub record Server : Type 0 where
  pub spare : List ℕ  -- the spare ranges of each aggregate
  pub volumes : List VolumeState

-- ---- numbers of the profile

-- bytes of a block
abbrev pub block_size : ℕ
block_size = 4096

-- larger counts of READ, WRITE, READDIR and READDIRPLUS are taken as this
abbrev pub most_bytes : ℕ
most_bytes = 65536

-- ---- the beginning

-- 0 seconds, 0 nanoseconds
abbrev pub start_of_times : Moment
start_of_times = record { seconds = 0; nanoseconds = 0 }

-- a root of uid 0 with mode 0755 (octal)
abbrev pub root_of_root : Ownership
root_of_root = record { mode = 493; uid = 0; gid = 0 }

-- the root as it begins at a moment, its own parent
abbrev pub root_node : Ownership → Moment → Node
root_node owner moment = Directory (record {
  attributes = record {
    mode = owner.mode;
    uid = owner.uid;
    gid = owner.gid;
    atime = moment;
    mtime = moment;
    ctime = moment;
  };
  parent = 1;
  next = 3;
  list = [];
})

-- a volume as it begins: its root has fileid 1
abbrev pub opening_volume : List ℕ → ℕ → VolumeLayout → VolumeState
opening_volume verifier number layout = record {
  number = number;
  aggregate = layout.aggregate;
  total = layout.range_blocks * layout.ranges;
  largest = 1048576 * layout.mebibytes;
  range_blocks = layout.range_blocks;
  most_inodes = layout.inodes;
  most_steps = layout.most_steps;
  verifier = verifier;
  next = 2;
  nodes = from_sorted ((1, root_node layout.root layout.begun) ∷ []);
  memos = replicate layout.remembered None;
}

-- volumes numbered from a number on
abbrev pub opening_volumes : List ℕ → ℕ → List VolumeLayout → List VolumeState
opening_volumes verifier number [] = []
opening_volumes verifier number (v ∷ vs) =
    opening_volume verifier number v ∷ opening_volumes verifier (number + 1) vs

-- the server as it begins
abbrev pub opening : Layout → List ℕ → Server
opening layout verifier = record { spare = layout.spare; volumes = opening_volumes verifier 0 layout.volumes }

-- ---- counts

-- the blocks of a node; only files have some
abbrev pub filled_in : Node → ℕ
filled_in (File f) = sets.len f.filled
filled_in (Directory d) = 0
filled_in (Special s) = 0

-- the blocks of nodes
abbrev pub blocks_of : List (ℕ × Node) → ℕ
blocks_of [] = 0
blocks_of (e ∷ es) = filled_in e.1 + blocks_of es

-- the blocks in files
abbrev pub used : VolumeState → ℕ
used volume = blocks_of (entries volume.nodes)

-- ---- handles

-- nfs_fh3 (RFC 1813 section 2.6): volume and fileid (our profile)
abbrev pub handle_bytes : ℕ → ℕ → List ℕ
handle_bytes volume fileid = to_be_bytes w32 volume ++ to_be_bytes w64 fileid

-- what a good handle names; a node of that fileid may be gone
pub record Named : Type 0 where
  pub volume : ℕ
  pub fileid : ℕ

-- what 12 bytes name
abbrev pub named_read : List ℕ → Named
named_read bytes =
    record { volume = from_be_bytes w32 (take 4 bytes); fileid = from_be_bytes w64 (drop 4 bytes) }

-- A handle is good where it is 12 bytes that name one of this many volumes.
abbrev pub handle_of : ℕ → List ℕ → Option Named
handle_of volumes bytes =
    if (length bytes == 12) && nat_lt (from_be_bytes w32 (take 4 bytes)) volumes
    then Some (named_read bytes)
    else None

-- the server with another volume at a place
abbrev pub with_volume : Server → ℕ → VolumeState → Server
with_volume server index volume = record server { volumes = slice_set server.volumes index volume }
