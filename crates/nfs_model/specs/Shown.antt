-- Times as they hold, and attributes as replies show them (RFC 1813 section 2.6).
use Rattle.std.specs.Prelude.{ℕ, ◌+◌, ◌*◌, Bool, true, false, ◌&&◌, ◌||◌, ◌==◌, nat_lt, nat_le, List, []}
use Rattle.std.specs.Prelude.{◌∷◌, length, Option, Some, None, if◌then◌else◌}
use Rattle.std.specs.Ordering.{nat_cmp}
use Rattle.std.specs.FinMap.{FinMap, get}
use Rattle.std.specs.FinSet as sets
use Rattle.nfs_model.specs.Types.{Moment, Listed, Shown, Before, Wcc, Regular, DirectoryKind, SpecialKind}
use Rattle.nfs_model.specs.Server.{Attributes, FileNode, Node, File, Directory, Special, VolumeState, block_size}

-- whether a moment is no later than another
abbrev pub moment_le : Moment → Moment → Bool
moment_le a b = nat_lt a.seconds b.seconds || ((a.seconds == b.seconds) && nat_le a.nanoseconds b.nanoseconds)

-- whether two moments are one
abbrev pub same_moment : Moment → Moment → Bool
same_moment a b = (a.seconds == b.seconds) && (a.nanoseconds == b.nanoseconds)

-- the touch after a write: the later of the two
abbrev pub touched : Option Moment → Moment → Moment
touched None moment = moment
touched (Some t) moment = if moment_le t moment then moment else t

-- the touch stands for mtime and ctime
abbrev pub effective_attributes : Option Moment → Attributes → Attributes
effective_attributes None a = a
effective_attributes (Some t) a = record a { mtime = t; ctime = t }

-- attributes with the times that hold
abbrev pub times : Node → Attributes
times (File f) = effective_attributes f.touch f.attributes
times (Directory d) = d.attributes
times (Special s) = s.attributes

-- the touch becomes the stored times and is gone
abbrev pub settled : FileNode → FileNode
settled f = record f { attributes = effective_attributes f.touch f.attributes; touch = None }

-- ---- what a reply shows

-- whether there is a node and it is a directory
abbrev pub is_directory_node : Option Node → Bool
is_directory_node None = false
is_directory_node (Some (File f)) = false
is_directory_node (Some (Directory d)) = true
is_directory_node (Some (Special s)) = false

-- how many of a directory's entries are directories
abbrev pub subdirectories : FinMap nat_cmp Node → List Listed → ℕ
subdirectories nodes [] = 0
subdirectories nodes (e ∷ es) =
    (if is_directory_node (get nodes e.fileid) then 1 else 0) + subdirectories nodes es

-- the size of any directory (our profile)
abbrev pub directory_size : ℕ
directory_size = 4096

-- fattr3 of a node (RFC 1813 section 2.6): a directory has two links and one for each subdirectory, all else one for each
-- name; the size of a symbolic link is that of its text, of what else is special 0
abbrev pub shown : VolumeState → ℕ → Node → Shown
shown volume fileid (File f) = record {
  kind = Regular;
  mode = f.attributes.mode;
  links = f.links;
  uid = f.attributes.uid;
  gid = f.attributes.gid;
  size = length f.bytes;
  used = block_size * sets.len f.filled;
  fsid = volume.number;
  fileid = fileid;
  atime = f.attributes.atime;
  mtime = (effective_attributes f.touch f.attributes).mtime;
  ctime = (effective_attributes f.touch f.attributes).ctime;
}
shown volume fileid (Directory d) = record {
  kind = DirectoryKind;
  mode = d.attributes.mode;
  links = 2 + subdirectories volume.nodes d.list;
  uid = d.attributes.uid;
  gid = d.attributes.gid;
  size = directory_size;
  used = 0;
  fsid = volume.number;
  fileid = fileid;
  atime = d.attributes.atime;
  mtime = d.attributes.mtime;
  ctime = d.attributes.ctime;
}
shown volume fileid (Special s) = record {
  kind = SpecialKind s.special;
  mode = s.attributes.mode;
  links = s.links;
  uid = s.attributes.uid;
  gid = s.attributes.gid;
  size = length s.text;
  used = 0;
  fsid = volume.number;
  fileid = fileid;
  atime = s.attributes.atime;
  mtime = s.attributes.mtime;
  ctime = s.attributes.ctime;
}

-- wcc_attr of a node (RFC 1813 section 2.6)
abbrev pub before_of : Shown → Before
before_of s = record { size = s.size; mtime = s.mtime; ctime = s.ctime }

-- a node of a volume before, and of the volume after
abbrev pub wcc : VolumeState → ℕ → Node → VolumeState → Node → Wcc
wcc old fileid node new changed =
    record { before = before_of (shown old fileid node); after = shown new fileid changed }
