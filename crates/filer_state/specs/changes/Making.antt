-- CREATE, MKDIR, SYMLINK and MKNOD by what is under Logical (RFC 1813 sections 3.3.8 to 3.3.11).
use Rattle.std.specs.Prelude.{ℕ, nat_le, Bool, ◌&&◌, List, length, Option, Some, None, is_some, is_none, if◌then◌else◌}
use Rattle.std.specs.FinMap.{len}
use Rattle.nfs_model.specs.Types.{Moment, Caller, SetAttributes, CreateMode, Unchecked, Guarded, Exclusive, Status}
use Rattle.nfs_model.specs.Types as types
use Rattle.nfs_model.specs.Types.{Regular, SpecialKind, SpecialType, SymbolicLink, Fifo, Socket, BlockDevice, CharacterDevice}
use Rattle.nfs_model.specs.Types.{MadeDone, Exists, Invalid, TooBig, NoSpace, BadType}
use Rattle.nfs_model.specs.Server.{handle_bytes}
use Rattle.nfs_model.specs.Names.{is_dots}
use Rattle.nfs_model.specs.Serial.Setattr.{has_bad_time, is_past, given}
use Rattle.nfs_model.specs.Serial.Create.{Maker, new_attributes, is_verifier, over_taken, asked_attributes, kept_verifier}
use Rattle.nfs_model.specs.Serial.Symlink.{text_fault}
use Rattle.nfs_model.specs.volume.Inodes.{InodeKind, RegularFile, DirectoryKind, SpecialFile, Inode}
use Rattle.filer_state.specs.state.Tree.{file_touch}
use Rattle.filer_state.specs.state.Lenses.{LogicalSet}
use Rattle.filer_state.specs.state.Changes.{LogicalAnswer, shown_inode}
use Rattle.filer_state.specs.nodes.Making.{Making, directory_inode, node_made}
use Rattle.filer_state.specs.changes.Named.{fails, unless_fault, HeldNaming, directory_change, HeldNode, node_under}
use Rattle.filer_state.specs.changes.Attributes.{NodeSet, node_changed, node_fault, taken_of}

-- ---- a node made

-- the new node under the name, with its text if it is a symbolic link
abbrev pub making_of : HeldNaming → Inode → Option (List ℕ) → Making
making_of n made text = record {
  directory = n.fileid;
  entries = n.entries;
  inode = n.inode;
  name = n.name;
  made = made;
  text = text;
  moment = n.moment;
}

-- who makes it, and the directory in which it comes
abbrev pub maker_in : Caller → HeldNaming → Maker
maker_in caller n = record { caller = caller; directory = n.inode.attributes }

-- a node made under the next fileid
abbrev pub held_made : HeldNaming → Inode → Option (List ℕ) → LogicalAnswer
held_made n made text = record {
  answer = MadeDone (handle_bytes n.volume n.set.own.inodes.next) (shown_inode n.volume n.set.own.inodes.next made None)
      (directory_change n (directory_inode (making_of n made text)));
  set = node_made (making_of n made text) n.set;
}

-- no inode is left
abbrev pub is_full_set : LogicalSet → Bool
is_full_set s = nat_le s.own.most_inodes (len s.own.inodes.inodes)

-- ---- CREATE

-- the first check that fails: the times, the largest size, inodes
abbrev pub create_check : SetAttributes → LogicalSet → Option Status
create_check set s =
    if has_bad_time set then Some Invalid
    else if is_past set.size s.own.largest then Some TooBig
    else if is_full_set s then Some NoSpace
    else None

-- the file to be made: mode 0644 (octal) if none is given; its size is a hole
abbrev pub file_inode : CreateMode → Maker → Moment → Inode
file_inode mode m moment = record {
  attributes = new_attributes (asked_attributes mode) Regular 420 m moment;
  names = 1;
  kind = RegularFile (given (asked_attributes mode).size 0) 0 (kept_verifier mode);
}

-- a node that is there, as it is; the directory doesn't change
abbrev pub there_shown : HeldNaming → HeldNode → LogicalAnswer
there_shown n child = record {
  answer = MadeDone (handle_bytes n.volume child.fileid)
      (shown_inode n.volume child.fileid child.inode (file_touch n.set.stripes child.fileid)) (directory_change n n.inode);
  set = n.set;
}

-- a file that is there, as it is set
abbrev pub there_set : HeldNaming → ℕ → NodeSet → LogicalAnswer
there_set n fileid new = record {
  answer = MadeDone (handle_bytes n.volume fileid) (shown_inode n.volume fileid new.inode None) (directory_change n n.inode);
  set = new.set;
}

-- a file that is there, set as SETATTR does without a guard
abbrev pub over_set : HeldNaming → SetAttributes → HeldNode → LogicalAnswer
over_set n set child =
    unless_fault (node_fault child.fileid set None child.inode n.set) n.set
    (there_set n child.fileid (node_changed child.fileid set n.moment child.inode n.set))

-- the name is there: GUARDED is EXIST; EXCLUSIVE answers a file of the same verifier; UNCHECKED sets a file, where callers are checked
-- its size alone; what is no file is EXIST
abbrev pub create_existing : HeldNaming → CreateMode → Caller → HeldNode → InodeKind → LogicalAnswer
create_existing n (Guarded set) caller child kind = fails Exists n.set
create_existing n (Exclusive verifier) caller child (RegularFile size filled kept) =
    if is_verifier kept verifier then there_shown n child else fails Exists n.set
create_existing n (Unchecked set) caller child (RegularFile size filled kept) =
    if caller.checked && is_none set.size then there_shown n child
    else over_set n (taken_of caller (over_taken caller set) child.inode) child
create_existing n mode caller child kind = fails Exists n.set

-- by whether the name is there
abbrev pub create_by : HeldNaming → CreateMode → Caller → Option HeldNode → LogicalAnswer
create_by n mode caller (Some child) = create_existing n mode caller child child.inode.kind
create_by n mode caller None =
    unless_fault (create_check (asked_attributes mode) n.set) n.set (held_made n (file_inode mode (maker_in caller n) n.moment) None)

-- on a good name: EXIST for `.` and `..`
abbrev pub held_create : CreateMode → Caller → HeldNaming → LogicalAnswer
held_create mode caller n = if is_dots n.name then fails Exists n.set else create_by n mode caller (node_under n)

-- ---- MKDIR

-- the first check that fails, which SYMLINK and MKNOD have too: the times, a size, inodes
abbrev pub mkdir_check : SetAttributes → LogicalSet → Option Status
mkdir_check set s =
    if has_bad_time set then Some Invalid
    else if is_some set.size then Some Invalid
    else if is_full_set s then Some NoSpace
    else None

-- the directory to be made: mode 0755 (octal) if none is given
abbrev pub made_directory_inode : ℕ → SetAttributes → Maker → Moment → Inode
made_directory_inode parent set m moment =
    record { attributes = new_attributes set types.DirectoryKind 493 m moment; names = 1; kind = DirectoryKind parent 0 }

-- by whether the name is there
abbrev pub mkdir_by : HeldNaming → SetAttributes → Caller → Option HeldNode → LogicalAnswer
mkdir_by n set caller (Some child) = fails Exists n.set
mkdir_by n set caller None =
    unless_fault (mkdir_check set n.set) n.set (held_made n (made_directory_inode n.fileid set (maker_in caller n) n.moment) None)

-- on a good name: EXIST for `.` and `..`
abbrev pub held_mkdir : SetAttributes → Caller → HeldNaming → LogicalAnswer
held_mkdir set caller n = if is_dots n.name then fails Exists n.set else mkdir_by n set caller (node_under n)

-- ---- SYMLINK

-- the special node to be made, of this mode if none is given, with a text of this length
abbrev pub special_inode : SpecialType → ℕ → SetAttributes → ℕ → Maker → Moment → Inode
special_inode special mode set size m moment =
    record { attributes = new_attributes set (SpecialKind special) mode m moment; names = 1; kind = SpecialFile special size }

-- by whether the name is there; mode 0777 (octal) if none is given
abbrev pub symlink_by : HeldNaming → SetAttributes → List ℕ → Caller → Option HeldNode → LogicalAnswer
symlink_by n set text caller (Some child) = fails Exists n.set
symlink_by n set text caller None =
    unless_fault (text_fault text) n.set
    (unless_fault (mkdir_check set n.set) n.set
    (held_made n (special_inode SymbolicLink 511 set (length text) (maker_in caller n) n.moment) (Some text)))

-- on a good name: EXIST for `.` and `..`
abbrev pub held_symlink : SetAttributes → List ℕ → Caller → HeldNaming → LogicalAnswer
held_symlink set text caller n = if is_dots n.name then fails Exists n.set else symlink_by n set text caller (node_under n)

-- ---- MKNOD

-- BADTYPE for a symbolic link
abbrev pub unless_symbolic : SpecialType → LogicalSet → LogicalAnswer → LogicalAnswer
unless_symbolic SymbolicLink s done = fails BadType s
unless_symbolic Fifo s done = done
unless_symbolic Socket s done = done
unless_symbolic (BlockDevice device) s done = done
unless_symbolic (CharacterDevice device) s done = done

-- BADTYPE for a regular file and a directory; mode 0644 (octal) if none is given
abbrev pub mknod_of : HeldNaming → types.Kind → SetAttributes → Caller → LogicalAnswer
mknod_of n Regular set caller = fails BadType n.set
mknod_of n types.DirectoryKind set caller = fails BadType n.set
mknod_of n (SpecialKind special) set caller =
    unless_symbolic special n.set
    (unless_fault (mkdir_check set n.set) n.set (held_made n (special_inode special 420 set 0 (maker_in caller n) n.moment) None))

-- by whether the name is there
abbrev pub mknod_by : HeldNaming → types.Kind → SetAttributes → Caller → Option HeldNode → LogicalAnswer
mknod_by n kind set caller (Some child) = fails Exists n.set
mknod_by n kind set caller None = mknod_of n kind set caller

-- on a good name: EXIST for `.` and `..`
abbrev pub held_mknod : types.Kind → SetAttributes → Caller → HeldNaming → LogicalAnswer
held_mknod kind set caller n = if is_dots n.name then fails Exists n.set else mknod_by n kind set caller (node_under n)
