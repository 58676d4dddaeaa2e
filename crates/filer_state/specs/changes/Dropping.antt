-- REMOVE and RMDIR by what is under Logical (RFC 1813 sections 3.3.12 and 3.3.13).
use Rattle.std.specs.Prelude.{◌-◌, nat_le, List, [], ◌∷◌, Option, Some, None, length, if◌then◌else◌}
use Rattle.nfs_model.specs.Types.{Listed, GoneDone, NoEntry, Invalid, Exists, IsDirectory, NotDirectory, NotEmpty}
use Rattle.nfs_model.specs.Names.{same_name, dot, dot_dot, is_dots}
use Rattle.nfs_model.specs.volume.Inodes.{InodeKind, RegularFile, DirectoryKind}
use Rattle.filer_state.specs.state.Tree.{file_touch}
use Rattle.filer_state.specs.state.Lenses.{LogicalSet}
use Rattle.filer_state.specs.state.Changes.{LogicalAnswer}
use Rattle.filer_state.specs.nodes.Dropping.{Dropping, directory_left, node_dropped}
use Rattle.filer_state.specs.nodes.Moving.{Naming, name_dropped}
use Rattle.filer_state.specs.nodes.Sizing.{Sizing, all_freed, inode_sized, file_sized}
use Rattle.filer_state.specs.names.Answers.{entries_of}
use Rattle.filer_state.specs.changes.Named.{fails, HeldNaming, directory_change, HeldNode, node_under}

-- ---- a node dropped

-- the node that loses its name
abbrev pub dropping_of : HeldNaming → HeldNode → Dropping
dropping_of n child = record {
  directory = n.fileid;
  entries = n.entries;
  inode = n.inode;
  name = n.name;
  fileid = child.fileid;
  dropped = child.inode;
  moment = n.moment;
}

-- a node dropped from a set, which may have changed but for the directory
abbrev pub held_gone : HeldNaming → HeldNode → LogicalSet → LogicalAnswer
held_gone n child s = record {
  answer = GoneDone (directory_change n (directory_left (dropping_of n child)));
  set = node_dropped (dropping_of n child) s;
}

-- ---- REMOVE

-- a file that loses all its bytes
abbrev pub emptying_of : HeldNode → Sizing
emptying_of child = record { fileid = child.fileid; inode = child.inode; attributes = child.inode.attributes; size = 0 }

-- it, without bytes
abbrev pub child_emptied : HeldNode → LogicalSet → HeldNode
child_emptied child s = record {
  fileid = child.fileid;
  inode = inode_sized (emptying_of child) (length (all_freed child.fileid 0 s.stripes));
}

-- its blocks are dead, then it is dropped
abbrev pub file_gone : HeldNaming → HeldNode → LogicalAnswer
file_gone n child = held_gone n (child_emptied child n.set) (file_sized (emptying_of child) n.set)

-- the last name of a node: only a file has blocks
abbrev pub last_gone : HeldNaming → HeldNode → InodeKind → LogicalAnswer
last_gone n child (RegularFile size filled verifier) = file_gone n child
last_gone n child kind = held_gone n child n.set

-- a name of a node that has others
abbrev pub losing_of : HeldNaming → HeldNode → Naming
losing_of n child = record {
  directory = n.fileid;
  entries = n.entries;
  inode = n.inode;
  name = n.name;
  fileid = child.fileid;
  node = child.inode;
  names = child.inode.names - 1;
  moment = n.moment;
}

-- it goes, and the node stays with one name less
abbrev pub one_gone : HeldNaming → HeldNode → LogicalAnswer
one_gone n child = record {
  answer = GoneDone (directory_change n (directory_left (dropping_of n child)));
  set = name_dropped (losing_of n child) (file_touch n.set.stripes child.fileid) n.set;
}

-- a name of a node, which goes with its last
abbrev pub name_gone : HeldNaming → HeldNode → LogicalAnswer
name_gone n child = if nat_le child.inode.names 1 then last_gone n child child.inode.kind else one_gone n child

-- a directory is ISDIR
abbrev pub remove_kind : HeldNaming → HeldNode → InodeKind → LogicalAnswer
remove_kind n child (DirectoryKind parent subdirectories) = fails IsDirectory n.set
remove_kind n child kind = name_gone n child

-- by whether the name is there
abbrev pub remove_by : HeldNaming → Option HeldNode → LogicalAnswer
remove_by n None = fails NoEntry n.set
remove_by n (Some child) = remove_kind n child child.inode.kind

-- on a good name: INVAL for `.` and `..`
abbrev pub held_remove : HeldNaming → LogicalAnswer
held_remove n = if is_dots n.name then fails Invalid n.set else remove_by n (node_under n)

-- ---- RMDIR

-- only an empty directory is removed
abbrev pub if_empty : List Listed → LogicalSet → LogicalAnswer → LogicalAnswer
if_empty [] s done = done
if_empty (e ∷ es) s done = fails NotEmpty s

-- a file is NOTDIR
abbrev pub rmdir_kind : HeldNaming → HeldNode → InodeKind → LogicalAnswer
rmdir_kind n child (DirectoryKind parent subdirectories) =
    if_empty (entries_of n.set.own child.fileid).list n.set (held_gone n child n.set)
rmdir_kind n child kind = fails NotDirectory n.set

-- by whether the name is there
abbrev pub rmdir_by : HeldNaming → Option HeldNode → LogicalAnswer
rmdir_by n None = fails NoEntry n.set
rmdir_by n (Some child) = rmdir_kind n child child.inode.kind

-- on a good name: INVAL for `.`, EXIST for `..`
abbrev pub held_rmdir : HeldNaming → LogicalAnswer
held_rmdir n =
    if same_name n.name dot then fails Invalid n.set
    else if same_name n.name dot_dot then fails Exists n.set
    else rmdir_by n (node_under n)
