-- What calls that change a volume share, by what is under Logical: failures, and a name in a directory (RFC 1813 sections 2.5 and 2.6).
use Rattle.std.specs.Prelude.{ℕ, List, Option, Some, None}
use Rattle.std.specs.FinMap.{get}
use Rattle.nfs_model.specs.Types.{Moment, Status, Wcc, Failed, Stale, NotDirectory}
use Rattle.nfs_model.specs.Names.{name_fault}
use Rattle.nfs_model.specs.Shown.{before_of}
use Rattle.nfs_model.specs.volume.Directories.{DirectoryValue, fileid_found}
use Rattle.nfs_model.specs.volume.Inodes.{InodeKind, DirectoryKind, Inode}
use Rattle.filer_state.specs.state.Lenses.{LogicalSet}
use Rattle.filer_state.specs.state.Changes.{LogicalAnswer, shown_inode}
use Rattle.filer_state.specs.names.Answers.{entries_of}

-- ---- failures

-- a failure changes nothing; it has two absent parts, attributes before and after
abbrev pub fails : Status → LogicalSet → LogicalAnswer
fails status s = record { answer = Failed status 2; set = s }

-- the first failure, or what follows
abbrev pub unless_fault : Option Status → LogicalSet → LogicalAnswer → LogicalAnswer
unless_fault None s done = done
unless_fault (Some status) s done = fails status s

-- ---- a name in a directory

-- A name in a directory, for a call at a moment.
pub record HeldNaming : Type 0 where
  pub volume : ℕ  -- its number
  pub set : LogicalSet
  pub fileid : ℕ  -- of the directory
  pub inode : Inode  -- of the directory
  pub entries : DirectoryValue  -- of the directory
  pub name : List ℕ
  pub moment : Moment

-- NOTDIR for a file; then what is wrong with the name
abbrev pub on_kind : InodeKind → HeldNaming → (HeldNaming → LogicalAnswer) → LogicalAnswer
on_kind (DirectoryKind parent subdirectories) n run = unless_fault (name_fault n.name) n.set (run n)
on_kind kind n run = fails NotDirectory n.set

-- STALE where there is no node
abbrev pub on_inode : Option Inode → LogicalSet → (Inode → LogicalAnswer) → LogicalAnswer
on_inode None s run = fails Stale s
on_inode (Some inode) s run = run inode

-- a call on a name of the directory of a fileid: STALE, NOTDIR, what is wrong with the name
abbrev pub on_held_name : ℕ → ℕ → List ℕ → Moment → (HeldNaming → LogicalAnswer) → LogicalSet → LogicalAnswer
on_held_name v fileid name moment run s = on_inode (get s.own.inodes.inodes fileid) s (λ inode. on_kind inode.kind (record {
  volume = v;
  set = s;
  fileid = fileid;
  inode = inode;
  entries = entries_of s.own fileid;
  name = name;
  moment = moment;
}) run)

-- the attributes of the directory before and after, where this is its inode after
abbrev pub directory_change : HeldNaming → Inode → Wcc
directory_change n after = record {
  before = before_of (shown_inode n.volume n.fileid n.inode None);
  after = shown_inode n.volume n.fileid after None;
}

-- ---- the node under a name

-- a node with its fileid
pub record HeldNode : Type 0 where
  pub fileid : ℕ
  pub inode : Inode

-- a node that is there
abbrev pub node_there : ℕ → Option Inode → Option HeldNode
node_there fileid None = None
node_there fileid (Some inode) = Some (record { fileid = fileid; inode = inode })

-- the node of an entry, if there is an entry
abbrev pub node_at : LogicalSet → Option ℕ → Option HeldNode
node_at s None = None
node_at s (Some fileid) = node_there fileid (get s.own.inodes.inodes fileid)

-- the node under the name
abbrev pub node_under : HeldNaming → Option HeldNode
node_under n = node_at n.set (fileid_found n.entries n.name)
