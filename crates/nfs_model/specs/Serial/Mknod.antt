-- MKNOD (RFC 1813 section 3.3.11): FIFOs, sockets and devices.
use Rattle.std.specs.Prelude.{[], Option, Some, None, if◌then◌else◌}
use Rattle.nfs_model.specs.Types.{Caller, SetAttributes, Kind, Regular, DirectoryKind, SpecialKind}
use Rattle.nfs_model.specs.Types.{SpecialType, SymbolicLink, Fifo, Socket, BlockDevice, CharacterDevice, Exists, BadType}
use Rattle.nfs_model.specs.Names.{is_dots}
use Rattle.nfs_model.specs.Locate.{Effect, Fails, unless, Found, Naming, named_child}
use Rattle.nfs_model.specs.Serial.Create.{maker, made}
use Rattle.nfs_model.specs.Serial.Mkdir.{mkdir_fault}
use Rattle.nfs_model.specs.Serial.Symlink.{new_special}

-- what MKNOD makes, but a symbolic link
abbrev pub if_made : SpecialType → Effect → Effect
if_made SymbolicLink effect = Fails BadType
if_made Fifo effect = effect
if_made Socket effect = effect
if_made (BlockDevice device) effect = effect
if_made (CharacterDevice device) effect = effect

-- a node made; BADTYPE for a regular file, a directory and a symbolic link; mode 0644 (octal) if none is given
abbrev pub mknod_kind : Naming → Kind → SetAttributes → Caller → Effect
mknod_kind n Regular set caller = Fails BadType
mknod_kind n DirectoryKind set caller = Fails BadType
mknod_kind n (SpecialKind special) set caller =
    if_made special (unless (mkdir_fault n.volume set) (made n (new_special special 420 set [] (maker caller n) n.moment)))

-- by whether the name is there
abbrev pub mknod_at : Naming → Kind → SetAttributes → Caller → Option Found → Effect
mknod_at n kind set caller (Some found) = Fails Exists
mknod_at n kind set caller None = mknod_kind n kind set caller

-- on a good name: EXIST for `.` and `..`
abbrev pub mknod : Kind → SetAttributes → Caller → Naming → Effect
mknod kind set caller n =
    if is_dots n.name then Fails Exists else mknod_at n kind set caller (named_child n)
