-- What the rows are about: two volumes of one range on an aggregate with one spare range, and small states of the first.
use Rattle.std.specs.Prelude.{ℕ, false, List, [], ◌∷◌, replicate, length, Some, None}
use Rattle.std.specs.Ordering.{nat_cmp}
use Rattle.std.specs.FinMap.{from_sorted}
use Rattle.std.specs.FinSet.{FinSet}
use Rattle.std.specs.FinSet as sets
use Rattle.nfs_model.specs.Types.{Moment, Caller, Call, Create, Write, Unchecked, Reply, Success, Failed}
use Rattle.nfs_model.specs.Types.{Status, Shown, Regular, DirectoryKind, Before, Wcc, Listed, SetAttributes}
use Rattle.nfs_model.specs.Tree.{Layout, VolumeLayout}
use Rattle.nfs_model.specs.Server.{Attributes, Node, File, Directory, VolumeState, Server, opening, opening_volume, handle_bytes, start_of_times, root_of_root}
use Rattle.nfs_model.specs.Serial.Create.{no_attributes}

abbrev pub one_range : VolumeLayout
one_range = record { aggregate = 0; ranges = 1; stripes = 8; mebibytes = 16; range_blocks = 1024; inodes = 65536; most_steps = 4; begun = start_of_times; root = root_of_root; remembered = 0 }

abbrev pub layout : Layout
layout = record { spare = 1 ∷ []; volumes = one_range ∷ (one_range ∷ []) }

abbrev pub verifier : List ℕ
verifier = 1 ∷ 2 ∷ 3 ∷ 4 ∷ 5 ∷ 6 ∷ 7 ∷ 8 ∷ []

abbrev pub start : Server
start = opening layout verifier

-- ---- moments, callers, handles

abbrev pub at : ℕ → Moment
at seconds = record { seconds = seconds; nanoseconds = 0 }

-- the caller without a credential
abbrev pub nobody : Caller
nobody = record { credential = record { uid = 65534; gid = 65534; gids = [] }; xid = 0; peer = 0; checked = false; reads_only = false }

-- a node of volume 0
abbrev pub h : ℕ → List ℕ
h fileid = handle_bytes 0 fileid

abbrev pub root : List ℕ
root = handle_bytes 0 1

-- ---- calls

abbrev pub fails : Status → ℕ → Reply
fails status absent = Success (Failed status absent)

-- ---- names and what is made

abbrev pub a : List ℕ
a = 97 ∷ []

abbrev pub b : List ℕ
b = 98 ∷ []

abbrev pub d : List ℕ
d = 100 ∷ []

abbrev pub e : List ℕ
e = 101 ∷ []

abbrev pub f : List ℕ
f = 102 ∷ []

abbrev pub x : List ℕ
x = 120 ∷ []

-- a file in the root, unchecked
abbrev make : List ℕ → Call
make name = Create root name (Unchecked no_attributes)

abbrev pub write_at : ℕ → ℕ → List ℕ → Call
write_at fileid offset bytes = Write (h fileid) offset (length bytes) bytes

abbrev pub sized : ℕ → SetAttributes
sized size = record no_attributes { size = Some size }

-- ---- states

abbrev pub entry : ℕ → List ℕ → ℕ → Listed
entry cookie name fileid = record { cookie = cookie; name = name; fileid = fileid }

-- no block, and the block 0
abbrev pub no_blocks : FinSet nat_cmp
no_blocks = sets.empty

abbrev pub block_0 : FinSet nat_cmp
block_0 = sets.insert sets.empty 0

-- what is stored of a file that nobody made at 1 second
abbrev pub stored : Attributes
stored = record { mode = 420; uid = 65534; gid = 65534; atime = at 1; mtime = at 1; ctime = at 1 }

-- a file of nobody, with these bytes and blocks
abbrev pub file : List ℕ → FinSet nat_cmp → Node
file bytes filled = File (record { attributes = stored; bytes = bytes; filled = filled; touch = None; verifier = None; links = 1 })

-- one that was written to, at this many seconds
abbrev pub touched_file : ℕ → List ℕ → FinSet nat_cmp → Node
touched_file seconds bytes filled = File (record { attributes = stored; bytes = bytes; filled = filled; touch = Some (at seconds); verifier = None; links = 1 })

-- one that was made exclusively
abbrev pub exclusive_file : ℕ → Node
exclusive_file byte = File (record { attributes = stored; bytes = []; filled = no_blocks; touch = None; verifier = Some (replicate 8 byte); links = 1 })

-- a directory of nobody, by its parent, its next cookie and its entries
abbrev pub directory : ℕ → ℕ → List Listed → Node
directory parent next list = Directory (record { attributes = record stored { mode = 493 }; parent = parent; next = next; list = list })

-- the root, changed at 1 second
abbrev pub root_with : ℕ → List Listed → Node
root_with next list =
    Directory (record {
      attributes = record { mode = 493; uid = 0; gid = 0; atime = at 0; mtime = at 1; ctime = at 1 };
      parent = 1;
      next = next;
      list = list;
    })

-- volume 0 of this many blocks, in ranges of 1,024, with 65,536 inodes at most, with files of this many bytes at most, where a RENAME takes 4 steps
-- at most, by its next fileid and its nodes
abbrev pub volume_with : ℕ → ℕ → ℕ → List (ℕ × Node) → VolumeState
volume_with total largest next nodes =
    record {
      number = 0;
      aggregate = 0;
      total = total;
      largest = largest;
      range_blocks = 1024;
      most_inodes = 65536;
      most_steps = 4;
      verifier = verifier;
      next = next;
      nodes = from_sorted nodes;
      memos = [];
    }

-- a server of that volume, and of another as it begins
abbrev pub small : ℕ → ℕ → ℕ → List (ℕ × Node) → Server
small total largest next nodes = record { spare = 1 ∷ []; volumes = volume_with total largest next nodes ∷ (opening_volume verifier 1 one_range ∷ []) }

abbrev pub holding : ℕ → List (ℕ × Node) → Server
holding next nodes = small 1024 16777216 next nodes

-- the root with the empty file `a`, of fileid 2
abbrev pub with_file : Node → Server
with_file node = holding 3 ((1, root_with 4 (entry 3 a 2 ∷ [])) ∷ ((2, node) ∷ []))

-- the same, with files of 8 bytes at most
abbrev pub narrow : Node → Server
narrow node = small 1024 8 3 ((1, root_with 4 (entry 3 a 2 ∷ [])) ∷ ((2, node) ∷ []))

-- the root with the directory `d`, of fileid 2, with the file `f`, of fileid 3
abbrev pub with_tree : Server
with_tree = holding 4 ((1, root_with 4 (entry 3 d 2 ∷ [])) ∷ ((2, directory 1 4 (entry 3 f 3 ∷ [])) ∷ ((3, file [] no_blocks) ∷ [])))

-- the root with the empty directories `d` (2) and `x` (3)
abbrev pub with_two_directories : Server
with_two_directories = holding 4 ((1, root_with 5 (entry 3 d 2 ∷ (entry 4 x 3 ∷ [])))
    ∷ ((2, directory 1 3 []) ∷ ((3, directory 1 3 []) ∷ [])))

-- the root with `a` (2), `b` (3), directories `d` (4) and, in `d`, `e` (5)
abbrev pub with_four : Server
with_four = holding 6 ((1, root_with 6 (entry 3 a 2 ∷ (entry 4 b 3 ∷ (entry 5 d 4 ∷ []))))
    ∷ ((2, file [] no_blocks) ∷ ((3, file [] no_blocks) ∷ ((4, directory 1 4 (entry 3 e 5 ∷ [])) ∷ ((5, directory 4 3 []) ∷ [])))))

-- the root with the file `a` and the directories `d` and `x`, of fileids 2, 4 and 6; `d` has the directory `e`, of fileid 5, and that the file `b`
-- and the directory `f`, of fileids 3 and 7. A RENAME takes this many steps at most.
abbrev pub deep : ℕ → Server
deep steps = record {
  spare = 1 ∷ [];
  volumes
      = record (volume_with 1024 16777216 8 ((1, root_with 6 (entry 3 a 2 ∷ (entry 4 d 4 ∷ (entry 5 x 6 ∷ [])))) ∷ ((2, file [] no_blocks)
      ∷ ((3, file [] no_blocks) ∷ ((4, directory 1 4 (entry 3 e 5 ∷ [])) ∷ ((5, directory 4 5 (entry 3 b 3 ∷ (entry 4 f 7 ∷ [])))
      ∷ ((6, directory 1 3 []) ∷ ((7, directory 5 3 []) ∷ [])))))))) { most_steps = steps }
      ∷ (opening_volume verifier 1 one_range ∷ []);
}

-- the root with a file of each of 2 blocks at most
abbrev pub tight : Node → Node → Server
tight first second = small 2 16777216 4 ((1, root_with 5 (entry 3 a 2 ∷ (entry 4 b 3 ∷ []))) ∷ ((2, first) ∷ ((3, second) ∷ [])))

-- ---- what is shown

-- the root of volume 0, with this many links, changed at this many seconds
abbrev pub root_shown : ℕ → ℕ → Shown
root_shown links seconds =
    record {
      kind = DirectoryKind;
      mode = 493;
      links = links;
      uid = 0;
      gid = 0;
      size = 4096;
      used = 0;
      fsid = 0;
      fileid = 1;
      atime = at 0;
      mtime = at seconds;
      ctime
          = at seconds;
    }

-- a directory that nobody made
abbrev pub directory_shown : ℕ → ℕ → ℕ → Shown
directory_shown fileid links seconds =
    record {
      kind = DirectoryKind;
      mode = 493;
      links = links;
      uid = 65534;
      gid = 65534;
      size = 4096;
      used = 0;
      fsid = 0;
      fileid = fileid;
      atime = at seconds;
      mtime
          = at seconds;
      ctime = at seconds;
    }

-- a file that nobody made, at 1 second
abbrev pub file_shown : ℕ → ℕ → ℕ → ℕ → ℕ → Shown
file_shown fileid size used mtime ctime =
    record {
      kind = Regular;
      mode = 420;
      links = 1;
      uid = 65534;
      gid = 65534;
      size = size;
      used = used;
      fsid = 0;
      fileid = fileid;
      atime = at 1;
      mtime = at
          mtime;
      ctime = at ctime;
    }

abbrev pub before : ℕ → ℕ → ℕ → Before
before size mtime ctime = record { size = size; mtime = at mtime; ctime = at ctime }

abbrev pub changed : Before → Shown → Wcc
changed old new = record { before = old; after = new }
