-- SETATTR by what is under Logical (RFC 1813 section 3.3.2).
use Rattle.std.specs.Prelude.{ℕ, Bool, false, length, Option, Some, None, is_some, if◌then◌else◌}
use Rattle.std.specs.FinMap.{get}
use Rattle.nfs_model.specs.Types.{Moment, Caller, SetAttributes, Status, NotSynchronous, Invalid, TooBig, SetattrDone}
use Rattle.nfs_model.specs.Server.{Attributes}
use Rattle.nfs_model.specs.Shown.{before_of}
use Rattle.nfs_model.specs.Serial.Rights.{protected}
use Rattle.nfs_model.specs.Serial.Setattr.{is_stale_guard, has_bad_time, is_past, set_attributes, mode_taken}
use Rattle.nfs_model.specs.volume.Inodes.{InodeKind, RegularFile, DirectoryKind, Inode}
use Rattle.filer_state.specs.state.Tree.{file_touch}
use Rattle.filer_state.specs.state.Protected.{kind_shown}
use Rattle.filer_state.specs.state.Lenses.{LogicalSet}
use Rattle.filer_state.specs.state.Changes.{LogicalAnswer, attributes_now, shown_inode, inode_after, node_set}
use Rattle.filer_state.specs.nodes.Sizing.{Sizing, all_freed, inode_sized, file_sized}
use Rattle.filer_state.specs.changes.Named.{unless_fault, on_inode}

-- ---- a node that is set

-- an inode after a call, and what is under Logical after it
pub record NodeSet : Type 0 where
  pub inode : Inode
  pub set : LogicalSet

-- a file of a size, with attributes set from those that hold
abbrev pub sizing_of : ℕ → SetAttributes → Moment → Inode → ℕ → LogicalSet → Sizing
sizing_of fileid set moment inode size s = record {
  fileid = fileid;
  inode = inode;
  attributes = set_attributes set moment (attributes_now (file_touch s.stripes fileid) inode.attributes inode.kind);
  size = size;
}

-- without a size a node settles; with one, its file is cut or grown too
abbrev pub node_sized : ℕ → SetAttributes → Moment → Inode → Option ℕ → LogicalSet → NodeSet
node_sized fileid set moment inode None s = record {
  inode = inode_after set moment (file_touch s.stripes fileid) inode;
  set = node_set fileid (inode_after set moment (file_touch s.stripes fileid) inode) s;
}
node_sized fileid set moment inode (Some size) s = record {
  inode = inode_sized (sizing_of fileid set moment inode size s) (length (all_freed fileid size s.stripes));
  set = file_sized (sizing_of fileid set moment inode size s) s;
}

abbrev pub node_changed : ℕ → SetAttributes → Moment → Inode → LogicalSet → NodeSet
node_changed fileid set moment inode s = node_sized fileid set moment inode set.size s

-- ---- what a checked caller's attributes are taken as

-- by what the node is: of a directory, all that is given
abbrev pub taken_by : Caller → SetAttributes → Attributes → InodeKind → SetAttributes
taken_by caller set a (DirectoryKind parent subdirectories) = set
taken_by caller set a kind =
    if caller.checked then record set { mode = mode_taken caller.credential set (protected (kind_shown kind) a) set.mode } else set

abbrev pub taken_of : Caller → SetAttributes → Inode → SetAttributes
taken_of caller set inode = taken_by caller set inode.attributes inode.kind

-- ---- the procedure

-- a size for a directory: only a file may get one
abbrev pub is_directory_sized : InodeKind → Option ℕ → Bool
is_directory_sized (RegularFile size filled verifier) asked = false
is_directory_sized kind asked = is_some asked

-- the first check that fails, by the ctime that holds: the guard, the times, a directory's size, the largest size
abbrev pub set_fault : ℕ → SetAttributes → Option Moment → Moment → InodeKind → Option Status
set_fault largest set guard ctime kind =
    if is_stale_guard guard ctime then Some NotSynchronous
    else if has_bad_time set then Some Invalid
    else if is_directory_sized kind set.size then Some Invalid
    else if is_past set.size largest then Some TooBig
    else None

-- what fails of a node as it is
abbrev pub node_fault : ℕ → SetAttributes → Option Moment → Inode → LogicalSet → Option Status
node_fault fileid set guard inode s =
    set_fault s.own.largest set guard (attributes_now (file_touch s.stripes fileid) inode.attributes inode.kind).ctime inode.kind

-- the attributes before, and those after
abbrev pub node_replaced : ℕ → ℕ → Inode → LogicalSet → NodeSet → LogicalAnswer
node_replaced v fileid old s new = record {
  answer = SetattrDone (record {
    before = before_of (shown_inode v fileid old (file_touch s.stripes fileid));
    after = shown_inode v fileid new.inode None;
  });
  set = new.set;
}

-- STALE, then the checks, then the change
abbrev pub held_setattr : ℕ → ℕ → SetAttributes → Option Moment → Caller → Moment → LogicalSet → LogicalAnswer
held_setattr v fileid set guard caller moment s = on_inode (get s.own.inodes.inodes fileid) s (λ inode.
    unless_fault (node_fault fileid set guard inode s) s
    (node_replaced v fileid inode s (node_changed fileid (taken_of caller set inode) moment inode s)))
