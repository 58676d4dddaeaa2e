-- Which procedures are offered.
use Rattle.std.specs.Prelude.{ℕ, Bool, true, false, List, [], ◌∷◌, ◌++◌, get_or, length, map, replicate, ◌==◌, ◌&&◌}
use Rattle.std.specs.List.{list_any}
use Rattle.nfs_values.specs.declared.procedure_set.ProcedureSet.{ProcedureSet}
use Rattle.nfs_values.specs.declared.procedure.Procedure.{Procedure}
use Rattle.nfs_values.specs.declared.procedure.Procedure.TheVariants.{CheckAccess, ReadLink, MakeSymbolicLink, MakeDevice, MakeLink}
use Rattle.nfs_values.specs.declared.procedure.Procedure.TheVariants.{ReadDirectoryPlus, FilesystemInfo, PathConfiguration, MountNull}
use Rattle.nfs_values.specs.declared.procedure.Procedure.TheVariants.{Mount, ListMounts, Unmount, UnmountAll, ListExports, Stop}
use Rattle.nfs_values.specs.Procedure.{all_procedures, numbers_of, place_of}

-- whether an offer has a procedure
abbrev pub offers : ProcedureSet → Procedure → Bool
offers offer procedure = get_or offer.has (place_of procedure) false

-- whether it has one of a program
abbrev pub offers_program : ProcedureSet → ℕ → Bool
offers_program offer program = list_any (λ p. offers offer p && ((numbers_of p).0 == program)) all_procedures

-- whether `replay` and `serve` offer it: all but ACCESS, FSINFO, PATHCONF, READDIRPLUS, those on links and devices, MOUNT, and STOP
abbrev pub is_basic : Procedure → Bool
is_basic CheckAccess = false
is_basic ReadLink = false
is_basic MakeSymbolicLink = false
is_basic MakeDevice = false
is_basic MakeLink = false
is_basic ReadDirectoryPlus = false
is_basic FilesystemInfo = false
is_basic PathConfiguration = false
is_basic MountNull = false
is_basic Mount = false
is_basic ListMounts = false
is_basic Unmount = false
is_basic UnmountAll = false
is_basic ListExports = false
is_basic Stop = false
is_basic procedure = true

-- the offer of `replay` and `serve`
abbrev pub basic : ProcedureSet
basic = record { has = map is_basic all_procedures }

-- the offer of a server that clients mount: every procedure
abbrev pub export : ProcedureSet
export = record { has = replicate (length all_procedures) true }

-- ---- what the two have, in the standard's terms: by program, and by number in it

-- the procedures of a program that have these numbers
abbrev pub of_program : ℕ → List ℕ → List (ℕ × ℕ)
of_program program numbers = map (λ number. (program, number)) numbers

-- `replay` and `serve`: of NFS (RFC 1813 section 3) NULL, GETATTR, SETATTR, LOOKUP, READ, WRITE, CREATE, MKDIR, REMOVE, RMDIR, RENAME, READDIR,
-- FSSTAT and COMMIT; of the admin program (our profile) NULL, CENSUS and GROW
abbrev pub basic_numbers : List (ℕ × ℕ)
basic_numbers =
    of_program 100003 (0 ∷ 1 ∷ 2 ∷ 3 ∷ 6 ∷ 7 ∷ 8 ∷ 9 ∷ 12 ∷ 13 ∷ 14 ∷ 16 ∷ 18 ∷ 21 ∷ [])
    ++ of_program 0x20000001 (0 ∷ 1 ∷ 2 ∷ [])

-- a server that clients mount: of NFS all 22, of MOUNT (RFC 1813 appendix I, section 5) all six, and of the admin program
-- STOP too
abbrev pub export_numbers : List (ℕ × ℕ)
export_numbers =
    of_program 100003 (0 ∷ 1 ∷ 2 ∷ 3 ∷ 4 ∷ 5 ∷ 6 ∷ 7 ∷ 8 ∷ 9 ∷ 10 ∷ 11 ∷ 12 ∷ 13 ∷ 14 ∷ 15 ∷ 16 ∷ 17 ∷ 18 ∷ 19 ∷ 20 ∷ 21 ∷ [])
    ++ (of_program 0x20000001 (0 ∷ 1 ∷ 2 ∷ 3 ∷ []) ++ of_program 100005 (0 ∷ 1 ∷ 2 ∷ 3 ∷ 4 ∷ 5 ∷ []))

-- whether the procedure of these numbers is among some
abbrev pub is_among : List (ℕ × ℕ) → ℕ × ℕ → Bool
is_among procedures numbers = list_any (λ known. (known.0 == numbers.0) && (known.1 == numbers.1)) procedures
