-- What calls show and change of what is under Logical, beyond the words of each value (RFC 1813 section 2.6).
use Rattle.std.specs.Prelude.{ℕ, ◌+◌, ◌*◌, List, map, Option, Some, None}
use Rattle.std.specs.FinMap.{get}
use Rattle.nfs_model.specs.Types.{Moment, Ownership, SetAttributes, Shown, Answer, GetattrDone}
use Rattle.nfs_model.specs.Types.{Failed, Stale}
use Rattle.nfs_model.specs.Server.{Attributes, block_size}
use Rattle.nfs_model.specs.Shown.{effective_attributes, directory_size}
use Rattle.nfs_model.specs.Serial.Rights.{ownership_of}
use Rattle.nfs_model.specs.Serial.Setattr.{set_attributes}
use Rattle.nfs_model.specs.volume.Inodes.{InodeKind, RegularFile, DirectoryKind, SpecialFile, Inode, filled_blocks, inode_set}
use Rattle.nfs_model.specs.volume.Stripes.{StripeValue, touch_taken, file_card_owned}
use Rattle.filer_state.specs.state.Protected.{kind_shown}
use Rattle.filer_state.specs.state.Lenses.{LogicalSet}

-- the attributes as they hold: only a file has a touch
abbrev pub attributes_now : Option Moment → Attributes → InodeKind → Attributes
attributes_now touch a (RegularFile size filled verifier) = effective_attributes touch a
attributes_now touch a kind = a

-- a directory's name in its parent, its own `.` and a `..` of each subdirectory are links to it; all else has as many as it has names
abbrev pub links_in : ℕ → InodeKind → ℕ
links_in names (DirectoryKind parent subdirectories) = 2 + subdirectories
links_in names kind = names

-- the size that is shown: all directories show the same
abbrev pub size_told : InodeKind → ℕ
size_told (RegularFile size filled verifier) = size
size_told (DirectoryKind parent subdirectories) = directory_size
size_told (SpecialFile special size) = size

-- fattr3 of a node by its inode and its latest touch
abbrev pub shown_kind : ℕ → ℕ → Attributes → ℕ → InodeKind → Option Moment → Shown
shown_kind volume fileid a names kind touch = record {
  kind = kind_shown kind;
  mode = a.mode;
  links = links_in names kind;
  uid = a.uid;
  gid = a.gid;
  size = size_told kind;
  used = block_size * filled_blocks kind;
  fsid = volume;
  fileid = fileid;
  atime = a.atime;
  mtime = (attributes_now touch a kind).mtime;
  ctime = (attributes_now touch a kind).ctime;
}

abbrev pub shown_inode : ℕ → ℕ → Inode → Option Moment → Shown
shown_inode volume fileid inode touch = shown_kind volume fileid inode.attributes inode.names inode.kind touch

-- the touches of a file taken in all stripes
abbrev pub touches_taken : ℕ → List StripeValue → List StripeValue
touches_taken fileid stripes = map (touch_taken fileid) stripes

-- a node of a stripe settles, and its card has an owner
abbrev pub stripe_settled : ℕ → Ownership → StripeValue → StripeValue
stripe_settled fileid owner s = file_card_owned fileid owner (touch_taken fileid s)

abbrev pub stripes_settled : ℕ → Ownership → List StripeValue → List StripeValue
stripes_settled fileid owner stripes = map (stripe_settled fileid owner) stripes

-- a node settles and has an inode set
abbrev pub node_set : ℕ → Inode → LogicalSet → LogicalSet
node_set fileid inode set = record {
  own = record set.own { inodes = inode_set fileid inode set.own.inodes };
  stripes = stripes_settled fileid (ownership_of inode.attributes) set.stripes;
}

-- a file's cards have an owner, in all stripes; their touches stay
abbrev pub stripes_owned : ℕ → Ownership → List StripeValue → List StripeValue
stripes_owned fileid owner stripes = map (file_card_owned fileid owner) stripes

-- an inode set, with its owner on the cards
abbrev pub node_owned : ℕ → Inode → LogicalSet → LogicalSet
node_owned fileid inode set = record {
  own = record set.own { inodes = inode_set fileid inode set.own.inodes };
  stripes = stripes_owned fileid (ownership_of inode.attributes) set.stripes;
}

-- an inode with another mode; its times stay
abbrev pub with_mode : ℕ → Inode → Inode
with_mode mode inode = record inode { attributes = record inode.attributes { mode = mode } }

-- another mode of a node, if it is there
abbrev pub mode_put_on : Option Inode → ℕ → ℕ → LogicalSet → LogicalSet
mode_put_on None fileid mode set = set
mode_put_on (Some inode) fileid mode set = node_owned fileid (with_mode mode inode) set

abbrev pub mode_put : ℕ → ℕ → LogicalSet → LogicalSet
mode_put fileid mode set = mode_put_on (get set.own.inodes.inodes fileid) fileid mode set

-- what GETATTR answers by them (RFC 1813 section 3.3.1)
abbrev pub getattr_answer : ℕ → ℕ → Option Inode → Option Moment → Answer
getattr_answer volume fileid None touch = Failed Stale 0
getattr_answer volume fileid (Some inode) touch = GetattrDone (shown_inode volume fileid inode touch)

-- ---- SETATTR (RFC 1813 section 3.3.2)

-- the inode with the attributes set, from those that hold
abbrev pub inode_after : SetAttributes → Moment → Option Moment → Inode → Inode
inode_after set moment touch inode = record inode { attributes = set_attributes set moment (attributes_now touch inode.attributes inode.kind) }

-- an answer, and what is under Logical after it
pub record LogicalAnswer : Type 0 where
  pub answer : Answer
  pub set : LogicalSet
