-- What the rows are about: small servers of one range and 65,536 inodes a volume, and what is shown of their nodes.
use Rattle.std.specs.Prelude.{ℕ, false, List, [], ◌∷◌, None}
use Rattle.std.specs.FinMap.{from_sorted}
use Rattle.std.specs.FinSet as sets
use Rattle.nfs_model.specs.Types.{Moment, Caller, Shown, Regular, DirectoryKind, Listed}
use Rattle.nfs_model.specs.Server.{Attributes, Node, File, Directory, Server, handle_bytes}

abbrev pub at : ℕ → Moment
at seconds = record { seconds = seconds; nanoseconds = 0 }

-- a caller that isn't checked, with further groups, and one without them
abbrev pub user_in : ℕ → ℕ → List ℕ → Caller
user_in uid gid gids = record {
  credential = record { uid = uid; gid = gid; gids = gids };
  xid = 0;
  peer = 0;
  checked = false;
  reads_only = false;
}

abbrev pub user : ℕ → ℕ → Caller
user uid gid = user_in uid gid []

-- the caller without a credential
abbrev pub nobody : Caller
nobody = user 65534 65534

abbrev pub h : ℕ → List ℕ
h fileid = handle_bytes 0 fileid

-- the verifier of the run
abbrev pub verifier : List ℕ
verifier = 1 ∷ 2 ∷ 3 ∷ 4 ∷ 5 ∷ 6 ∷ 7 ∷ 8 ∷ []

abbrev pub stored : ℕ → Attributes
stored mode = record { mode = mode; uid = 65534; gid = 65534; atime = at 1; mtime = at 1; ctime = at 1 }

-- an empty file of nobody, by its mode
abbrev pub file : ℕ → Node
file mode = File (record { attributes = stored mode; bytes = []; filled = sets.empty; touch = None; verifier = None; links = 1 })

abbrev pub entry : ℕ → List ℕ → ℕ → Listed
entry cookie name fileid = record { cookie = cookie; name = name; fileid = fileid }

-- the root, changed at 1 second
abbrev pub root_with : ℕ → List Listed → Node
root_with next list = Directory (record {
  attributes = record { mode = 493; uid = 0; gid = 0; atime = at 0; mtime = at 1; ctime = at 1 };
  parent = 1;
  next = next;
  list = list;
})

-- a server of one volume, by its next fileid and its nodes
abbrev pub holding : ℕ → List (ℕ × Node) → Server
holding next nodes = record {
  spare = 1 ∷ [];
  volumes
      = record {
        number = 0;
        aggregate = 0;
        total = 1024;
        largest = 16777216;
        range_blocks = 1024;
        most_inodes = 65536;
        most_steps = 4;
        verifier = verifier;
        next = next;
        nodes = from_sorted nodes;
        memos = [];
      }
      ∷ [];
}

abbrev pub a : List ℕ
a = 97 ∷ []

-- the root with the file `a`, of fileid 2
abbrev pub with_file : Node → Server
with_file node = holding 3 ((1, root_with 4 (entry 3 a 2 ∷ [])) ∷ (2, node) ∷ [])

-- what is shown of that file, by its mode
abbrev pub file_shown : ℕ → Shown
file_shown mode = record {
  kind = Regular;
  mode = mode;
  links = 1;
  uid = 65534;
  gid = 65534;
  size = 0;
  used = 0;
  fsid = 0;
  fileid = 2;
  atime = at 1;
  mtime = at 1;
  ctime = at 1;
}

-- the root of a volume, changed at this many seconds
abbrev pub root_shown : ℕ → ℕ → Shown
root_shown volume seconds = record {
  kind = DirectoryKind;
  mode = 493;
  links = 2;
  uid = 0;
  gid = 0;
  size = 4096;
  used = 0;
  fsid = volume;
  fileid = 1;
  atime = at 0;
  mtime = at seconds;
  ctime = at seconds;
}
