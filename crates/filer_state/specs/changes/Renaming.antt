-- RENAME by what is under Logical (RFC 1813 section 3.3.14).
use Rattle.std.specs.Prelude.{ℕ, zero, suc, Bool, true, false, not, ◌||◌, ◌==◌, List, Option, Some, None, if◌then◌else◌}
use Rattle.std.specs.FinMap.{get}
use Rattle.nfs_model.specs.Types.{Moment, Status, Failed, RenameDone, Stale, NotDirectory, NoEntry, Invalid, Exists}
use Rattle.nfs_model.specs.Names.{is_dots, name_fault}
use Rattle.nfs_model.specs.Serial.Rename.{Climb, PastIt, ToIt, TooFar, on_parent, climb_fault, is_empty_list}
use Rattle.nfs_model.specs.volume.Inodes.{InodeKind, DirectoryKind, Inode}
use Rattle.filer_state.specs.state.Tree.{file_touch}
use Rattle.filer_state.specs.state.Names.{InodeMap, parent_directory}
use Rattle.filer_state.specs.state.Lenses.{LogicalSet}
use Rattle.filer_state.specs.state.Changes.{LogicalAnswer}
use Rattle.filer_state.specs.nodes.Moving.{Naming, entry_taken, node_hung_up}
use Rattle.filer_state.specs.names.Answers.{entries_of}
use Rattle.filer_state.specs.changes.Named.{HeldNaming, directory_change, HeldNode, node_under}
use Rattle.filer_state.specs.changes.Dropping.{name_gone}

-- ---- failures

-- a failure changes nothing; it has four absent parts, the attributes of two directories before and after
abbrev pub fails_both : Status → LogicalSet → LogicalAnswer
fails_both status s = record { answer = Failed status 4; set = s }

-- the first failure, or what follows
abbrev pub unless_both : Option Status → LogicalSet → LogicalAnswer → LogicalAnswer
unless_both None s done = done
unless_both (Some status) s done = fails_both status s

-- ---- two names

-- two names, of one set and at one moment; their directories may be one
pub record HeldRenaming : Type 0 where
  pub from : HeldNaming
  pub to : HeldNaming

-- a node is that of the other name
abbrev pub is_held : HeldNode → Option HeldNode → Bool
is_held child None = false
is_held child (Some target) = target.fileid == child.fileid

-- ---- a directory below itself

-- the parent of a directory, if it isn't its own; a file has none
abbrev pub above : ℕ → Option ℕ → Option ℕ
above fileid None = None
above fileid (Some parent) = if parent == fileid then None else Some parent

-- what at most this many steps from a directory to its parent come to, on the way to a target
abbrev pub climbs : ℕ → InodeMap → ℕ → ℕ → Climb
climbs zero inodes target fileid = if fileid == target then ToIt else TooFar
climbs (suc n) inodes target fileid =
    if fileid == target then ToIt
    else on_parent (above fileid (parent_directory (get inodes fileid))) (climbs n inodes target)

-- what is met above the directory into which a node comes; nothing is asked where it stays in its directory, and a file is above nothing
abbrev pub held_above : HeldRenaming → ℕ → InodeKind → Climb
held_above r fileid (DirectoryKind parent subdirectories) =
    if r.from.fileid == r.to.fileid then PastIt
    else climbs r.from.set.own.most_steps r.from.set.own.inodes.inodes fileid r.to.fileid
held_above r fileid kind = PastIt

-- ---- the target

-- a node may take another's place: both aren't directories, or both are and the other is empty
abbrev pub may_replace : LogicalSet → InodeKind → ℕ → InodeKind → Bool
may_replace s (DirectoryKind parent subdirectories) target (DirectoryKind parent' subdirectories') = is_empty_list (entries_of s.own target).list
may_replace s (DirectoryKind parent subdirectories) target kind = false
may_replace s moved target (DirectoryKind parent subdirectories) = false
may_replace s moved target kind = true

-- the target may go, if there is one
abbrev pub target_may_go : LogicalSet → HeldNode → Option HeldNode → Bool
target_may_go s moved None = true
target_may_go s moved (Some target) = may_replace s moved.inode.kind target.fileid target.inode.kind

-- the set without the name of the target, if there is one: it goes as by REMOVE, a directory as by RMDIR
abbrev pub target_gone : HeldNaming → Option HeldNode → LogicalSet
target_gone to None = to.set
target_gone to (Some target) = (name_gone to target).set

-- ---- the steps

-- an inode, or the one before
abbrev pub inode_or : Option Inode → Inode → Inode
inode_or None before = before
inode_or (Some inode) before = inode

-- the inode of a name's directory, in a set after some steps
abbrev pub directory_now : HeldNaming → LogicalSet → Inode
directory_now n s = inode_or (get s.own.inodes.inodes n.fileid) n.inode

-- a name of its directory in such a set, for the node that moves
abbrev pub moving_of : HeldNaming → HeldNode → LogicalSet → Naming
moving_of n child s = record {
  directory = n.fileid;
  entries = entries_of s.own n.fileid;
  inode = directory_now n s;
  name = n.name;
  fileid = child.fileid;
  node = child.inode;
  names = child.inode.names;
  moment = n.moment;
}

-- the set after the node's entry is taken
abbrev pub child_taken : HeldNaming → HeldNode → LogicalSet → LogicalSet
child_taken from child s = entry_taken (moving_of from child s) s

-- the set after the node is hung up
abbrev pub child_hung : HeldNaming → HeldNode → LogicalSet → LogicalSet
child_hung to child s = node_hung_up (moving_of to child s) (file_touch s.stripes child.fileid) s

-- one step after another
abbrev pub set_renamed : HeldRenaming → HeldNode → Option HeldNode → LogicalSet
set_renamed r child target = child_hung r.to child (child_taken r.from child (target_gone r.to target))

-- ---- the procedure

-- the attributes of both directories before and after, where this is what is left
abbrev pub held_renamed : HeldRenaming → LogicalSet → LogicalAnswer
held_renamed r s = record {
  answer = RenameDone (directory_change r.from (directory_now r.from s)) (directory_change r.to (directory_now r.to s));
  set = s;
}

-- NOENT; two names of one node are OK, and nothing changes; INVAL for a directory below itself, NAMETOOLONG for one that comes too deep; EXIST
-- for a target that may not go
abbrev pub rename_by : HeldRenaming → Option HeldNode → Option HeldNode → LogicalAnswer
rename_by r None target = fails_both NoEntry r.from.set
rename_by r (Some child) target =
    if is_held child target then held_renamed r r.from.set
    else unless_both (climb_fault (held_above r child.fileid child.inode.kind)) r.from.set
    (if not (target_may_go r.from.set child target) then fails_both Exists r.from.set
    else held_renamed r (set_renamed r child target))

-- what is wrong with the names, from's first; INVAL for `.` and `..` in either
abbrev pub held_rename : HeldRenaming → LogicalAnswer
held_rename r =
    unless_both (name_fault r.from.name) r.from.set
    (unless_both (name_fault r.to.name) r.from.set
    (if is_dots r.from.name || is_dots r.to.name then fails_both Invalid r.from.set
    else rename_by r (node_under r.from) (node_under r.to)))

-- NOTDIR for a file
abbrev pub if_directory : InodeKind → LogicalSet → LogicalAnswer → LogicalAnswer
if_directory (DirectoryKind parent subdirectories) s done = done
if_directory kind s done = fails_both NotDirectory s

-- STALE where there is no node, NOTDIR for a file
abbrev pub on_directory_inode : Option Inode → LogicalSet → (Inode → LogicalAnswer) → LogicalAnswer
on_directory_inode None s run = fails_both Stale s
on_directory_inode (Some inode) s run = if_directory inode.kind s (run inode)

-- a name in the directory of a fileid
abbrev pub name_in : ℕ → ℕ → List ℕ → Moment → LogicalSet → Inode → HeldNaming
name_in v fileid name moment s inode = record {
  volume = v;
  set = s;
  fileid = fileid;
  inode = inode;
  entries = entries_of s.own fileid;
  name = name;
  moment = moment;
}

-- on the directories of two fileids, from's checked first
abbrev pub on_held_names : ℕ → ℕ → List ℕ → ℕ → List ℕ → Moment → (HeldRenaming → LogicalAnswer) → LogicalSet → LogicalAnswer
on_held_names v from_id from_name to_id to_name moment run s =
    on_directory_inode (get s.own.inodes.inodes from_id) s (λ from. on_directory_inode (get s.own.inodes.inodes to_id) s (λ to. run (record {
      from = name_in v from_id from_name moment s from;
      to = name_in v to_id to_name moment s to;
    })))
