-- ACCESS (RFC 1813 section 3.3.4): of the rights that are asked for, those that the mode gives the caller. It tells, and guards nothing:
-- Permission has what each call needs.
use Rattle.std.specs.Prelude.{ℕ, ◌+◌, Bool, not, ◌&&◌, ◌||◌, if◌then◌else◌}
use Rattle.nfs_model.specs.Types.{Caller, SpecialType, SymbolicLink, Kind, Regular, DirectoryKind, SpecialKind, Shown, AccessDone}
use Rattle.nfs_model.specs.Server.{VolumeState}
use Rattle.nfs_model.specs.Locate.{Effect}
use Rattle.nfs_model.specs.Serial.Getattr.{tell_of}
use Rattle.nfs_model.specs.Serial.Rights.{has_bit, Rights, rights_of, protection_shown}

-- ---- by the bits of ACCESS

-- a bit that is asked for and may be given
abbrev pub bit_given : ℕ → ℕ → Bool → ℕ
bit_given asked bit may = if has_bit asked bit && may then bit else 0

-- w, where the caller may change anything
abbrev pub writes_given : Caller → Rights → Bool
writes_given caller r = r.writes && not caller.reads_only

-- w of a directory, to which x belongs where callers are checked
abbrev pub changes_given : Caller → Rights → Bool
changes_given caller r = writes_given caller r && (r.executes || not caller.checked)

-- READ 1, MODIFY 4, EXTEND 8 and EXECUTE 32, of all but directories
abbrev pub bits_of_file : ℕ → Rights → Bool → ℕ
bits_of_file asked r writes = bit_given asked 1 r.reads + bit_given asked 4 writes + bit_given asked 8 writes + bit_given asked 32 r.executes

-- What is written to a FIFO, a socket or a device changes nothing here, so that w of it is given to who may change nothing too.
abbrev pub special_writes : Caller → SpecialType → Rights → Bool
special_writes caller SymbolicLink r = writes_given caller r
special_writes caller special r = r.writes

-- LOOKUP 2 and DELETE 16 besides, and not EXECUTE, of a directory
abbrev pub bits_given : Caller → ℕ → Kind → Rights → ℕ
bits_given caller asked Regular r = bits_of_file asked r (writes_given caller r)
bits_given caller asked (SpecialKind special) r = bits_of_file asked r (special_writes caller special r)
bits_given caller asked DirectoryKind r =
    bit_given asked 1 r.reads + bit_given asked 2 r.executes + bit_given asked 4 (changes_given caller r)
    + bit_given asked 8 (changes_given caller r) + bit_given asked 16 (changes_given caller r)

abbrev pub access_given : Caller → ℕ → Shown → ℕ
access_given caller asked object =
    bits_given caller asked object.kind (rights_of caller.credential (protection_shown object))

-- the attributes and what is given, or STALE
abbrev pub access : ℕ → Caller → VolumeState → ℕ → Effect
access asked caller volume fileid =
    tell_of (λ object. AccessDone object (access_given caller asked object)) volume fileid
