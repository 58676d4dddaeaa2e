-- SETATTR (RFC 1813 section 3.3.2), and what it shares with CREATE.
use Rattle.std.specs.Prelude.{ℕ, ◌-◌, ◌*◌, ◌%◌, ◌==◌, Bool, false, ◌&&◌, ◌||◌, not, nat_le, nat_lt, List, ◌++◌, length}
use Rattle.std.specs.Prelude.{take, replicate, Option, Some, None, is_some, if◌then◌else◌}
use Rattle.std.specs.FinMap.{get, insert}
use Rattle.std.specs.FinSet.{retain}
use Rattle.nfs_model.specs.Types.{Moment, Credential, Caller, SetTime, Keep, ServerTime, ClientTime, SetAttributes, Status}
use Rattle.nfs_model.specs.Types.{nanoseconds_of_a_second, NotSynchronous, Invalid, TooBig, SetattrDone}
use Rattle.nfs_model.specs.Server.{Attributes, FileNode, Node, File, Directory, Special, VolumeState, block_size}
use Rattle.nfs_model.specs.Shown.{same_moment, times, settled, wcc}
use Rattle.nfs_model.specs.Locate.{Effect, Changes, on_node, unless}
use Rattle.nfs_model.specs.Serial.Rights.{Protection, protection, without_set_ids, mode_of_group}

-- ---- what several procedures share

-- a client's time has fewer nanoseconds than a second
abbrev pub is_bad_time : SetTime → Bool
is_bad_time Keep = false
is_bad_time ServerTime = false
is_bad_time (ClientTime t) = nat_le nanoseconds_of_a_second t.nanoseconds

-- either time is bad
abbrev pub has_bad_time : SetAttributes → Bool
has_bad_time set = is_bad_time set.atime || is_bad_time set.mtime

-- a time as time_how says, at a moment, from an old one
abbrev pub time_after : SetTime → Moment → Moment → Moment
time_after Keep moment old = old
time_after ServerTime moment old = moment
time_after (ClientTime t) moment old = t

-- a number given, or the old one
abbrev pub given : Option ℕ → ℕ → ℕ
given None old = old
given (Some n) old = n

-- a mode keeps its low 12 bits
abbrev pub given_mode : Option ℕ → ℕ → ℕ
given_mode None old = old
given_mode (Some n) old = n % 4096

-- a size over the largest
abbrev pub is_past : Option ℕ → ℕ → Bool
is_past None largest = false
is_past (Some n) largest = nat_lt largest n

-- bytes cut, or grown by a hole
abbrev pub resized_bytes : ℕ → List ℕ → List ℕ
resized_bytes size bytes = take size bytes ++ replicate (size - length bytes) 0

-- a file cut or grown: the blocks wholly past the end are freed
abbrev pub resized : Option ℕ → FileNode → FileNode
resized None f = f
resized (Some size) f =
    record f {
      bytes = resized_bytes size f.bytes;
      filled = retain f.filled (λ b. nat_lt (block_size * b) size);
    }

-- attributes given; a size given sets mtime, and ctime is always set
abbrev pub set_attributes : SetAttributes → Moment → Attributes → Attributes
set_attributes set moment a = record {
  mode = given_mode set.mode a.mode;
  uid = given set.uid a.uid;
  gid = given set.gid a.gid;
  atime = time_after set.atime moment a.atime;
  mtime = time_after set.mtime moment (if is_some set.size then moment else a.mtime);
  ctime = moment;
}

-- a file that settles and is set
abbrev pub set_file : SetAttributes → Moment → FileNode → FileNode
set_file set moment f =
    record (resized set.size (settled f)) { attributes = set_attributes set moment (settled f).attributes }

-- ---- what a checked caller's attributes are taken as

-- the mode, where none is given: a new owner or group ends that a file is run as its owner, and so does a new size that another than uid 0
-- gives
abbrev pub mode_kept : Credential → SetAttributes → Protection → Option ℕ
mode_kept who set object =
    if is_some set.uid || is_some set.gid || (is_some set.size && not (who.uid == 0))
    then Some (without_set_ids object.mode) else None

-- the mode of a file, by the group that it comes to have
abbrev pub mode_taken : Credential → SetAttributes → Protection → Option ℕ → Option ℕ
mode_taken who set object None = mode_kept who set object
mode_taken who set object (Some mode) = Some (mode_of_group who (given set.gid object.gid) mode)

-- where a caller is checked, the mode is that which it may give
abbrev pub mode_checked : Caller → SetAttributes → Protection → SetAttributes
mode_checked caller set object =
    if caller.checked then record set { mode = mode_taken caller.credential set object set.mode } else set

-- what is set of a node: of a directory, all that is given
abbrev pub set_taken : Caller → SetAttributes → Node → SetAttributes
set_taken caller set (File f) = mode_checked caller set (protection (File f))
set_taken caller set (Directory d) = set
set_taken caller set (Special s) = mode_checked caller set (protection (Special s))

-- ---- the procedure

-- sattrguard3 (RFC 1813 section 3.3.2) names another ctime
abbrev pub is_stale_guard : Option Moment → Moment → Bool
is_stale_guard None ctime = false
is_stale_guard (Some g) ctime = not (same_moment g ctime)

-- a size for what isn't a regular file
abbrev pub is_size_of_none : Node → Option ℕ → Bool
is_size_of_none (File f) size = false
is_size_of_none (Directory d) size = is_some size
is_size_of_none (Special s) size = is_some size

-- the first check that fails: the guard, the times, a size of what has none to be set, the largest size
abbrev pub setattr_fault : VolumeState → SetAttributes → Option Moment → Node → Option Status
setattr_fault volume set guard node =
    if is_stale_guard guard (times node).ctime then Some NotSynchronous
    else if has_bad_time set then Some Invalid
    else if is_size_of_none node set.size then Some Invalid
    else if is_past set.size volume.largest then Some TooBig
    else None

-- a node that is set
abbrev pub set_node : SetAttributes → Moment → Node → Node
set_node set moment (File f) = File (set_file set moment f)
set_node set moment (Directory d) =
    Directory (record d { attributes = set_attributes set moment d.attributes })
set_node set moment (Special s) =
    Special (record s { attributes = set_attributes set moment s.attributes })

-- a volume with another node at a fileid
abbrev pub with_node : VolumeState → ℕ → Node → VolumeState
with_node volume fileid node = record volume { nodes = insert volume.nodes fileid node }

-- the answer of a node set
abbrev pub replaced : VolumeState → ℕ → Node → Node → Effect
replaced volume fileid old new =
    Changes (SetattrDone (wcc volume fileid old (with_node volume fileid new) new))
    (with_node volume fileid new)

-- STALE, then the checks, then the change
abbrev pub setattr : SetAttributes → Option Moment → Caller → Moment → VolumeState → ℕ → Effect
setattr set guard caller moment volume fileid = on_node (get volume.nodes fileid) (λ node.
    unless (setattr_fault volume set guard node)
    (replaced volume fileid node (set_node (set_taken caller set node) moment node)))
