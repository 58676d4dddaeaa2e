-- What the owner, the groups and the mode of an object give a caller (RFC 1813 sections 2.6 and 4.4, as POSIX has it: IEEE Std 1003.1,
-- "File Access Permissions").
use Rattle.std.specs.Prelude.{ℕ, ◌+◌, ◌-◌, ◌/◌, ◌%◌, ◌==◌, Bool, true, not, ◌&&◌, ◌||◌, if◌then◌else◌}
use Rattle.std.specs.List.{list_any}
use Rattle.nfs_model.specs.Types.{Credential, Ownership, Kind, Regular, DirectoryKind, SpecialKind, Shown}
use Rattle.nfs_model.specs.Server.{Attributes, Node, File, Directory, Special}

-- whether a number has a bit, which is given by its value
abbrev pub has_bit : ℕ → ℕ → Bool
has_bit number bit = (number / bit) % 2 == 1

abbrev pub with_bit : ℕ → ℕ → ℕ
with_bit number bit = if has_bit number bit then number else number + bit

abbrev pub without_bit : ℕ → ℕ → ℕ
without_bit number bit = if has_bit number bit then number - bit else number

-- ---- what is looked at

-- of an object, what says who may do what with it (fattr3, section 2.6)
pub record Protection : Type 0 where
  pub kind : Kind
  pub mode : ℕ
  pub uid : ℕ
  pub gid : ℕ

abbrev pub owned : Kind → Ownership → Protection
owned kind o = record { kind = kind; mode = o.mode; uid = o.uid; gid = o.gid }

abbrev pub ownership_of : Attributes → Ownership
ownership_of a = record { mode = a.mode; uid = a.uid; gid = a.gid }

abbrev pub protected : Kind → Attributes → Protection
protected kind a = owned kind (ownership_of a)

abbrev pub protection : Node → Protection
protection (File f) = protected Regular f.attributes
protection (Directory d) = protected DirectoryKind d.attributes
protection (Special s) = protected (SpecialKind s.special) s.attributes

abbrev pub protection_shown : Shown → Protection
protection_shown s = record { kind = s.kind; mode = s.mode; uid = s.uid; gid = s.gid }

-- ---- by the mode

-- what somebody may do with an object: r, w and x
pub record Rights : Type 0 where
  pub reads : Bool
  pub writes : Bool
  pub executes : Bool

-- an octal digit of a mode: 4 is r, 2 is w and 1 is x (mode3, section 2.6)
abbrev pub digit_rights : ℕ → Rights
digit_rights digit = record { reads = has_bit digit 4; writes = has_bit digit 2; executes = has_bit digit 1 }

-- whether a group is the caller's, or one of the further ones
abbrev pub is_in_group : Credential → ℕ → Bool
is_in_group who gid = (who.gid == gid) || list_any (λ g. g == gid) who.gids

-- the digit of a mode that holds for the caller: the owner's, the group's or the others'
abbrev pub digit_for : Credential → Protection → ℕ
digit_for who object =
    if who.uid == object.uid then (object.mode / 64) % 8
    else if is_in_group who object.gid then (object.mode / 8) % 8 else object.mode % 8

-- whether somebody has x by a mode
abbrev pub has_x : ℕ → Bool
has_x mode = has_bit mode 64 || has_bit mode 8 || has_bit mode 1

-- whether uid 0 may execute an object: every directory, and all else where somebody may
abbrev pub is_executable : Kind → ℕ → Bool
is_executable Regular mode = has_x mode
is_executable DirectoryKind mode = true
is_executable (SpecialKind special) mode = has_x mode

-- uid 0 may do all but execute what nobody may
abbrev pub rights_of : Credential → Protection → Rights
rights_of who object =
    if who.uid == 0
    then record { reads = true; writes = true; executes = is_executable object.kind object.mode }
    else digit_rights (digit_for who object)

-- ---- what a call needs

-- the owner, and uid 0
abbrev pub is_owner_or_root : Credential → Protection → Bool
is_owner_or_root who object = (who.uid == 0) || (who.uid == object.uid)

-- Bytes are read by r, and by x, since a program that is run is read; the owner reads what it opened before its mode changed (section 4.4).
abbrev pub may_read : Credential → Protection → Bool
may_read who file = is_owner_or_root who file || (rights_of who file).reads || (rights_of who file).executes

-- bytes are written by w; the owner writes what it opened (section 4.4)
abbrev pub may_write : Credential → Protection → Bool
may_write who file = is_owner_or_root who file || (rights_of who file).writes

-- a name of a directory is looked for by x
abbrev pub may_search : Credential → Protection → Bool
may_search who directory = (rights_of who directory).executes

-- the names of a directory are listed by r
abbrev pub may_list : Credential → Protection → Bool
may_list who directory = (rights_of who directory).reads

-- the names of a directory are changed by w and x
abbrev pub may_change : Credential → Protection → Bool
may_change who directory = (rights_of who directory).writes && (rights_of who directory).executes

-- the bit of a directory, 01000, in which only owners remove (POSIX, S_ISVTX)
abbrev pub is_sticky : Protection → Bool
is_sticky directory = has_bit directory.mode 512

-- whether a name may go from a directory that its caller may change: of a sticky one only for the owner of what is named, or of the
-- directory
abbrev pub may_drop : Credential → Protection → Protection → Bool
may_drop who directory object = not (is_sticky directory) || is_owner_or_root who directory || is_owner_or_root who object

-- ---- what is made

-- the bit of a directory, 02000, by which what is made in it has its group (POSIX, S_ISGID)
abbrev pub gives_group : Protection → Bool
gives_group directory = has_bit directory.mode 1024

-- the group of what a caller makes in a directory, if it gives none
abbrev pub group_made : Credential → Protection → ℕ
group_made who directory = if gives_group directory then directory.gid else who.gid

-- ---- the set-id bits: 04000, of the owner, and 02000, of the group (POSIX, S_ISUID and S_ISGID)

-- A file that others change isn't run as its owner, nor as its group: 02000 goes where the group has x, which else says nothing of running.
abbrev pub without_set_ids : ℕ → ℕ
without_set_ids mode =
    if has_bit mode 8 then without_bit (without_bit mode 2048) 1024 else without_bit mode 2048

-- a mode that a caller gives a file of a group: 02000 is for those of the group
abbrev pub mode_of_group : Credential → ℕ → ℕ → ℕ
mode_of_group who gid mode = if (who.uid == 0) || is_in_group who gid then mode else without_bit mode 1024
