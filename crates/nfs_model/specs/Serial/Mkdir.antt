-- MKDIR (RFC 1813 section 3.3.9), and what it shares with SYMLINK and MKNOD.
use Rattle.std.specs.Prelude.{ℕ, [], Option, Some, None, is_some, if◌then◌else◌}
use Rattle.nfs_model.specs.Types.{Moment, Caller, SetAttributes, DirectoryKind, Status, Exists, Invalid, NoSpace}
use Rattle.nfs_model.specs.Server.{Node, Directory, VolumeState}
use Rattle.nfs_model.specs.Names.{is_dots}
use Rattle.nfs_model.specs.Locate.{Effect, Fails, unless, Found, Naming, named_child}
use Rattle.nfs_model.specs.Serial.Setattr.{has_bad_time}
use Rattle.nfs_model.specs.Serial.Create.{Maker, maker, new_attributes, is_full, made}

-- the first check that fails of attributes for what has no size to be set: the times, a size, inodes
abbrev pub mkdir_fault : VolumeState → SetAttributes → Option Status
mkdir_fault volume set =
    if has_bad_time set then Some Invalid
    else if is_some set.size then Some Invalid
    else if is_full volume then Some NoSpace
    else None

-- the directory to be made: mode 0755 (octal) if none is given
abbrev pub new_directory : ℕ → SetAttributes → Maker → Moment → Node
new_directory parent set m moment =
    Directory (record {
      attributes = new_attributes set DirectoryKind 493 m moment;
      parent = parent;
      next = 3;
      list = [];
    })

-- by whether the name is there
abbrev pub mkdir_at : Naming → SetAttributes → Caller → Option Found → Effect
mkdir_at n set caller (Some found) = Fails Exists
mkdir_at n set caller None =
    unless (mkdir_fault n.volume set) (made n (new_directory n.fileid set (maker caller n) n.moment))

-- on a good name: EXIST for `.` and `..`
abbrev pub mkdir : SetAttributes → Caller → Naming → Effect
mkdir set caller n = if is_dots n.name then Fails Exists else mkdir_at n set caller (named_child n)
