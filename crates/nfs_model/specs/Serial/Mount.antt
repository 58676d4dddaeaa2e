-- MOUNT version 3 (RFC 1813 appendix I, section 5.2). What is exported is the root of each volume, and with it
-- each directory below.
use Rattle.std.specs.Prelude.{ℕ, ◌+◌, ◌==◌, ◌&&◌, ◌||◌, Bool, false, List, [], ◌∷◌, ◌++◌, length, map}
use Rattle.std.specs.Prelude.{Option, Some, None, nat_lt, not, min, if◌then◌else◌}
use Rattle.std.specs.List.{filter, find, range_with_len}
use Rattle.nfs_model.specs.Names.{same_name, dot}
use Rattle.nfs_model.specs.Types.{MountCall, Mnt, Dump, Exports, Unmount, Call, Mount, MountBelow}
use Rattle.nfs_model.specs.Types.{Answer, NullDone, MountDone, DumpDone, ExportsDone, Failed}
use Rattle.nfs_model.specs.Types.{NoEntry, Invalid, NameTooLong}
use Rattle.nfs_model.specs.Server.{handle_bytes}

-- MNTPATHLEN (section 5.1.4)
abbrev pub most_path : ℕ
most_path = 1024

-- the path of a volume: `/vol` and the digit of its number (our profile)
abbrev pub volume_path : ℕ → List ℕ
volume_path volume = 47 ∷ 118 ∷ 111 ∷ 108 ∷ (48 + volume) ∷ []

-- whether a path begins with `/`
abbrev pub is_absolute : List ℕ → Bool
is_absolute [] = false
is_absolute (c ∷ cs) = c == 47

-- ---- the parts of a path

-- what stands between slashes, where this much of the first is read
abbrev pub between_slashes : List ℕ → List ℕ → List (List ℕ)
between_slashes part [] = part ∷ []
between_slashes part (c ∷ cs) =
    if c == 47 then part ∷ between_slashes [] cs else between_slashes (part ++ c ∷ []) cs

-- whether a part says something: it isn't empty, and not `.`
abbrev pub is_telling : List ℕ → Bool
is_telling part = not (length part == 0) && not (same_name part dot)

-- the parts of a path: what stands between its slashes, but for empty ones and `.` (our profile)
abbrev pub parts : List ℕ → List (List ℕ)
parts path = filter is_telling (between_slashes [] path)

-- all but the first
abbrev pub but_first : List (List ℕ) → List (List ℕ)
but_first [] = []
but_first (first ∷ others) = others

-- the parts below the volume's
abbrev pub parts_below : List ℕ → List (List ℕ)
parts_below path = but_first (parts path)

-- ---- the volume of a path

-- the volumes that are exported: of this many those whose number is one digit
abbrev pub exported : ℕ → List ℕ
exported volumes = range_with_len 0 (min volumes 10)

-- whether a part is the name of a volume
abbrev pub names_volume : List ℕ → ℕ → Bool
names_volume part volume = same_name (47 ∷ part) (volume_path volume)

-- which of this many volumes is named
abbrev pub volume_named : ℕ → List ℕ → Option ℕ
volume_named volumes part = find (names_volume part) (exported volumes)

-- Of which of this many volumes the parts of a path name the root: one part names its volume, and where there is
-- none it is volume 0 (our profile). More stand here only where the first names none of ten volumes (`mnt_call`).
abbrev pub mounted : ℕ → List (List ℕ) → Option ℕ
mounted volumes [] = find (λ volume. volume == 0) (exported volumes)
mounted volumes (part ∷ []) = volume_named volumes part
mounted volumes (part ∷ others) = None

-- ---- what is answered

-- the handle of a volume's root, or NOENT
abbrev pub root_of : Option ℕ → Answer
root_of None = Failed NoEntry 0
root_of (Some volume) = MountDone (handle_bytes volume 1)

-- MNT (section 5.2.1) of a root: NAMETOOLONG; INVAL; NOENT, or the handle of the root
abbrev pub mnt : ℕ → List ℕ → Answer
mnt volumes path =
    if nat_lt most_path (length path) then Failed NameTooLong 0
    else if not (is_absolute path) then Failed Invalid 0
    else root_of (mounted volumes (parts path))

-- MNT that reads no state; DUMP, which lists no mounts, since none are kept (section 5.2.2); EXPORT, the path of each
-- volume (section 5.2.5); UMNT and UMNTALL (sections 5.2.3 and 5.2.4)
abbrev pub mount : ℕ → MountCall → Answer
mount volumes (Mnt path) = mnt volumes path
mount volumes Dump = DumpDone
mount volumes Exports = ExportsDone (map volume_path (exported volumes))
mount volumes Unmount = NullDone

-- ---- which call a MNT is

-- below a root where the first of several parts names one of ten volumes
abbrev pub mnt_by : List ℕ → List (List ℕ) → Option ℕ → Call
mnt_by path others None = Mount (Mnt path)
mnt_by path [] (Some volume) = Mount (Mnt path)
mnt_by path (other ∷ others) (Some volume) = MountBelow (handle_bytes volume 1) path

-- by the parts of its path
abbrev pub mnt_of_parts : List ℕ → List (List ℕ) → Call
mnt_of_parts path [] = Mount (Mnt path)
mnt_of_parts path (part ∷ others) = mnt_by path others (volume_named 10 part)

-- The call of a MNT: of a root, which reads no state, or below one, on the names of its volume (our profile). What
-- is wrong with a path as such is told without state too. Only this makes a MountBelow, whose handle never came.
abbrev pub mnt_call : List ℕ → Call
mnt_call path =
    if nat_lt most_path (length path) || not (is_absolute path) then Mount (Mnt path)
    else mnt_of_parts path (parts path)
