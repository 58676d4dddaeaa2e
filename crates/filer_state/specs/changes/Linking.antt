-- LINK by what is under Logical (RFC 1813 section 3.3.15).
use Rattle.std.specs.Prelude.{ℕ, ◌+◌, nat_le, List, Option, Some, None, if◌then◌else◌}
use Rattle.std.specs.FinMap.{get}
use Rattle.nfs_model.specs.Types.{Moment, Answer, LinkDone, Failed, Status, Exists, Invalid, TooManyLinks}
use Rattle.nfs_model.specs.Names.{is_dots}
use Rattle.nfs_model.specs.Serial.Links.{most_links}
use Rattle.nfs_model.specs.volume.Inodes.{InodeKind, DirectoryKind, Inode}
use Rattle.filer_state.specs.state.Tree.{file_touch}
use Rattle.filer_state.specs.state.Lenses.{LogicalSet}
use Rattle.filer_state.specs.state.Changes.{LogicalAnswer, shown_inode}
use Rattle.filer_state.specs.nodes.Making.{directories_in, with_subdirectories}
use Rattle.filer_state.specs.nodes.Moving.{Naming, dated_inode, node_hung, node_hung_up}
use Rattle.filer_state.specs.changes.Named.{fails, unless_fault, on_inode, on_held_name, HeldNaming, directory_change, HeldNode, node_under}

-- what gets one more name, under a name of a directory
abbrev pub linking_of : HeldNaming → HeldNode → Naming
linking_of n object = record {
  directory = n.fileid;
  entries = n.entries;
  inode = n.inode;
  name = n.name;
  fileid = object.fileid;
  node = object.inode;
  names = object.inode.names + 1;
  moment = n.moment;
}

-- the inode of its directory after it
abbrev pub directory_linked : Naming → Inode
directory_linked m = dated_inode m.moment (with_subdirectories (directories_in m.node.kind) m.inode.kind) m.inode

abbrev pub held_linked : HeldNaming → HeldNode → LogicalAnswer
held_linked n object = record {
  answer = LinkDone
      (shown_inode n.volume object.fileid (node_hung (linking_of n object) (file_touch n.set.stripes object.fileid)) None)
      (directory_change n (directory_linked (linking_of n object)));
  set = node_hung_up (linking_of n object) (file_touch n.set.stripes object.fileid) n.set;
}

-- MLINK for what has all the names that it may have
abbrev pub names_fault : ℕ → Option Status
names_fault names = if nat_le most_links names then Some TooManyLinks else None

-- by whether the name is there
abbrev pub link_by : HeldNode → HeldNaming → Option HeldNode → LogicalAnswer
link_by object n (Some child) = fails Exists n.set
link_by object n None = unless_fault (names_fault object.inode.names) n.set (held_linked n object)

-- on a good name: EXIST for `.` and `..`
abbrev pub held_link : HeldNode → HeldNaming → LogicalAnswer
held_link object n = if is_dots n.name then fails Exists n.set else link_by object n (node_under n)

-- INVAL for a directory, which has one name
abbrev pub unless_directory : InodeKind → LogicalSet → LogicalAnswer → LogicalAnswer
unless_directory (DirectoryKind parent subdirectories) s done = fails Invalid s
unless_directory kind s done = done

-- a failure has three absent parts: the node's attributes, and the directory's before and after
abbrev pub with_three : Answer → Answer
with_three (Failed status absent) = Failed status 3
with_three answer = answer

abbrev pub failing_with_three : LogicalAnswer → LogicalAnswer
failing_with_three done = record { answer = with_three done.answer; set = done.set }

-- of the node: STALE, INVAL for a directory; then of the directory and its name
abbrev pub link_done : ℕ → ℕ → ℕ → List ℕ → Moment → LogicalSet → LogicalAnswer
link_done v fileid directory name moment s = failing_with_three (on_inode (get s.own.inodes.inodes fileid) s (λ inode.
    unless_directory inode.kind s
    (on_held_name v directory name moment (held_link (record { fileid = fileid; inode = inode })) s)))
