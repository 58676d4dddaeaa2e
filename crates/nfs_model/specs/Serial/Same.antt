-- Whether two calls are one: of the same caller, with the same arguments (RFC 1813 section 4.5).
use Rattle.std.specs.Prelude.{ℕ, Bool, true, false, ◌&&◌, ◌==◌, Option, Some, None}
use Rattle.nfs_model.specs.Types.{Moment, Caller, SetTime, Keep, ServerTime, ClientTime, SetAttributes, CreateMode, Unchecked, Guarded}
use Rattle.nfs_model.specs.Types.{Exclusive, Device, SpecialType, SymbolicLink, Fifo, Socket, BlockDevice, CharacterDevice}
use Rattle.nfs_model.specs.Types.{Kind, Regular, DirectoryKind, SpecialKind}
use Rattle.nfs_model.specs.Memo.{Change, Sets, Creates, MakesDirectory, MakesSymbolicLink, MakesNode, Removes, RemovesDirectory, Renames, Links}
use Rattle.nfs_model.specs.Names.{same_name}
use Rattle.nfs_model.specs.Shown.{same_moment}

abbrev pub same_number : Option ℕ → Option ℕ → Bool
same_number None None = true
same_number (Some n) None = false
same_number None (Some m) = false
same_number (Some n) (Some m) = n == m

abbrev pub same_guard : Option Moment → Option Moment → Bool
same_guard None None = true
same_guard (Some t) None = false
same_guard None (Some u) = false
same_guard (Some t) (Some u) = same_moment t u

abbrev pub same_time : SetTime → SetTime → Bool
same_time Keep Keep = true
same_time ServerTime ServerTime = true
same_time (ClientTime t) (ClientTime u) = same_moment t u
same_time a b = false

abbrev pub same_set : SetAttributes → SetAttributes → Bool
same_set a b =
    same_number a.mode b.mode && same_number a.uid b.uid && same_number a.gid b.gid && same_number a.size b.size
    && same_time a.atime b.atime && same_time a.mtime b.mtime

abbrev pub same_mode : CreateMode → CreateMode → Bool
same_mode (Unchecked a) (Unchecked b) = same_set a b
same_mode (Guarded a) (Guarded b) = same_set a b
same_mode (Exclusive v) (Exclusive w) = same_name v w
same_mode a b = false

abbrev pub same_device : Device → Device → Bool
same_device a b = (a.major == b.major) && (a.minor == b.minor)

abbrev pub same_special : SpecialType → SpecialType → Bool
same_special SymbolicLink SymbolicLink = true
same_special Fifo Fifo = true
same_special Socket Socket = true
same_special (BlockDevice a) (BlockDevice b) = same_device a b
same_special (CharacterDevice a) (CharacterDevice b) = same_device a b
same_special a b = false

abbrev pub same_kind : Kind → Kind → Bool
same_kind Regular Regular = true
same_kind DirectoryKind DirectoryKind = true
same_kind (SpecialKind a) (SpecialKind b) = same_special a b
same_kind a b = false

-- argument by argument
abbrev pub same_change : Change → Change → Bool
same_change (Sets h a g) (Sets k b i) = same_name h k && same_set a b && same_guard g i
same_change (Creates d n m) (Creates e o p) = same_name d e && same_name n o && same_mode m p
same_change (MakesDirectory d n a) (MakesDirectory e o b) = same_name d e && same_name n o && same_set a b
same_change (MakesSymbolicLink d n a t) (MakesSymbolicLink e o b u) = same_name d e && same_name n o && same_set a b && same_name t u
same_change (MakesNode d n k a) (MakesNode e o l b) = same_name d e && same_name n o && same_kind k l && same_set a b
same_change (Removes d n) (Removes e o) = same_name d e && same_name n o
same_change (RemovesDirectory d n) (RemovesDirectory e o) = same_name d e && same_name n o
same_change (Renames d n e o) (Renames f p g q) = same_name d f && same_name n p && same_name e g && same_name o q
same_change (Links h d n) (Links k e o) = same_name h k && same_name d e && same_name n o
same_change a b = false

-- user, groups, xid, and address with port
abbrev pub same_caller : Caller → Caller → Bool
same_caller a b =
    (a.xid == b.xid) && (a.peer == b.peer) && (a.credential.uid == b.credential.uid) && (a.credential.gid == b.credential.gid)
    && same_name a.credential.gids b.credential.gids
