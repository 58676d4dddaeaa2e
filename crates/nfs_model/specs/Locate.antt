-- What the procedures share: what a call on a volume comes to, the first check that fails, and the
-- node that a handle or a name stands for (RFC 1813 sections 2.5 and 2.6).
use Rattle.std.specs.Prelude.{ℕ, Bool, false, ◌==◌, List, length, Option, Some, None, slice_get}
use Rattle.std.specs.FinMap.{get}
use Rattle.nfs_model.specs.Types.{Answer, Status, Stale, NotDirectory, Invalid, Moment, Listed}
use Rattle.nfs_model.specs.Server.{FileNode, DirectoryNode, Node, File, Directory, Special, VolumeState, Server}
use Rattle.nfs_model.specs.Server.{Named, handle_of}
use Rattle.nfs_model.specs.Names.{name_fault, find_name}

-- ---- what a call comes to

-- what a call on a volume comes to: a failure and an answer that tells change nothing
pub data Effect : Type 0 where
  Fails : (status : Status) → Effect
  Tells : (answer : Answer) → Effect
  Changes : (answer : Answer) (volume : VolumeState) → Effect

-- the first failure, or what follows
abbrev pub unless : Option Status → Effect → Effect
unless None effect = effect
unless (Some status) effect = Fails status

-- ---- the node of a fileid

-- a call on a node; STALE where there is none
abbrev pub on_node : Option Node → (Node → Effect) → Effect
on_node None run = Fails Stale
on_node (Some node) run = run node

-- a call on a directory; STALE, or NOTDIR for all else
abbrev pub on_directory : Option Node → (DirectoryNode → Effect) → Effect
on_directory None run = Fails Stale
on_directory (Some (File f)) run = Fails NotDirectory
on_directory (Some (Directory d)) run = run d
on_directory (Some (Special s)) run = Fails NotDirectory

-- a call on a regular file; STALE, or INVAL for all else
abbrev pub on_file : Option Node → (FileNode → Effect) → Effect
on_file None run = Fails Stale
on_file (Some (File f)) run = run f
on_file (Some (Directory d)) run = Fails Invalid
on_file (Some (Special s)) run = Fails Invalid

-- ---- what a handle names

-- a volume, and what names it
pub record Located : Type 0 where
  pub named : Named
  pub volume : VolumeState

-- a volume that is there
abbrev pub located_in : Named → Option VolumeState → Option Located
located_in named None = None
located_in named (Some volume) = Some (record { named = named; volume = volume })

-- among volumes; none where the handle is bad
abbrev pub located_by : List VolumeState → Option Named → Option Located
located_by volumes None = None
located_by volumes (Some named) = located_in named (slice_get volumes named.volume)

-- what a handle's bytes name; none is BADHANDLE
abbrev pub locate : Server → List ℕ → Option Located
locate server bytes = located_by server.volumes (handle_of (length server.volumes) bytes)

-- the node that is named, if it is still there
abbrev pub node_named : Option Located → Option Node
node_named None = None
node_named (Some l) = get l.volume.nodes l.named.fileid

-- ---- what a name stands for

-- a node with its fileid
pub record Found : Type 0 where
  pub fileid : ℕ
  pub node : Node

-- a node that is there
abbrev pub found_at : ℕ → Option Node → Option Found
found_at fileid None = None
found_at fileid (Some node) = Some (record { fileid = fileid; node = node })

-- the node of an entry, if there is an entry
abbrev pub child : VolumeState → Option Listed → Option Found
child volume None = None
child volume (Some e) = found_at e.fileid (get volume.nodes e.fileid)

-- whether there is a node, and it is that of a fileid
abbrev pub is_node_of : ℕ → Option Found → Bool
is_node_of fileid None = false
is_node_of fileid (Some found) = found.fileid == fileid

-- A name in a directory, for a call at a moment.
pub record Naming : Type 0 where
  pub volume : VolumeState
  pub fileid : ℕ  -- of the directory
  pub directory : DirectoryNode
  pub name : List ℕ
  pub moment : Moment

-- the node under the name
abbrev pub named_child : Naming → Option Found
named_child n = child n.volume (find_name n.name n.directory.list)

-- A call on a name of a directory: STALE, NOTDIR, what is wrong with the name. So begin LOOKUP,
-- CREATE, MKDIR, SYMLINK, MKNOD, REMOVE and RMDIR, and LINK once its object is there.
abbrev pub on_name : List ℕ → Moment → (Naming → Effect) → VolumeState → ℕ → Effect
on_name name moment run volume fileid = on_directory (get volume.nodes fileid) (λ d.
    unless (name_fault name) (run (record {
      volume = volume;
      fileid = fileid;
      directory = d;
      name = name;
      moment = moment;
    })))
