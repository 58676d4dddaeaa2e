-- ACCESS, FSINFO and PATHCONF (RFC 1813 sections 3.3.4, 3.3.19 and 3.3.20).
use Rattle.std.proofs.Common.{◌≡◌, ℕ, false, [], ◌∷◌, replicate, None, refl}
use Rattle.nfs_model.specs.Types.{Caller, CheckAccess, Fsinfo, Pathconf, Ask, Success, AccessDone}
use Rattle.nfs_model.specs.Types.{FsinfoDone, PathconfDone, Stale, BadHandle}
use Rattle.nfs_model.specs.Server.{File, Directory, Server, handle_bytes}
use Rattle.nfs_model.specs.Serial.Step.{serial}
use Rattle.nfs_laws.specs.lemmas.Evaluate.{evaluate}
use Rattle.nfs_laws.proofs.rows.Cases.{start, at, nobody, h, root, fails, no_blocks, stored, file, with_file, narrow, root_shown, file_shown}
use Rattle.nfs_laws.proofs.rows.Cases.{directory_shown}

-- ---- callers, files and directories

-- a user of no further group
abbrev user : ℕ → ℕ → Caller
user uid gid = record { credential = record { uid = uid; gid = gid; gids = [] }; xid = 0; peer = 0; checked = false; reads_only = false }

-- a file of nobody with this mode, and a directory
abbrev file_of : ℕ → Server
file_of mode =
    with_file (File (record { attributes = record stored { mode = mode }; bytes = []; filled = no_blocks; touch = None; verifier = None; links = 1 }))

abbrev directory_of : ℕ → Server
directory_of mode = with_file (Directory (record { attributes = record stored { mode = mode }; parent = 1; next = 3; list = [] }))

-- ---- ACCESS: checks in order

access_of_a_bad_handle :
    (serial start (Ask (CheckAccess (replicate 11 0) 63) nobody) (at 2) false).reply
    ≡ fails BadHandle 1
access_of_a_bad_handle = refl

access_of_an_absent_node :
    (serial start (Ask (CheckAccess (h 2) 63) nobody) (at 2) false).reply
    ≡ fails Stale 1
access_of_an_absent_node = simp evaluate refl

-- ---- ACCESS: of a file, whose rights are READ 1, MODIFY 4, EXTEND 8 and EXECUTE 32

owner_reads_and_writes :
    (serial (file_of 384) (Ask (CheckAccess (h 2) 63) nobody) (at 2) false).reply
    ≡ Success (AccessDone (record (file_shown 2 0 0 1 1) { mode = 384 }) 13)
owner_reads_and_writes = simp evaluate refl

owner_executes :
    (serial (file_of 64) (Ask (CheckAccess (h 2) 63) nobody) (at 2) false).reply
    ≡ Success (AccessDone (record (file_shown 2 0 0 1 1) { mode = 64 }) 32)
owner_executes = simp evaluate refl

owner_has_no_more_than_its_digit :
    (serial (file_of 63) (Ask (CheckAccess (h 2) 63) nobody) (at 2) false).reply
    ≡ Success (AccessDone (record (file_shown 2 0 0 1 1) { mode = 63 }) 0)
owner_has_no_more_than_its_digit = simp evaluate refl

group_reads :
    (serial (file_of 32) (Ask (CheckAccess (h 2) 63) (user 7 65534)) (at 2) false).reply
    ≡ Success (AccessDone (record (file_shown 2 0 0 1 1) { mode = 32 }) 1)
group_reads = simp evaluate refl

group_has_no_more_than_its_digit :
    (serial (file_of 455) (Ask (CheckAccess (h 2) 63) (user 7 65534)) (at 2) false).reply
    ≡ Success (AccessDone (record (file_shown 2 0 0 1 1) { mode = 455 }) 0)
group_has_no_more_than_its_digit = simp evaluate refl

further_group_writes :
    (serial (file_of 16) (Ask (CheckAccess (h 2) 63) (record { credential = record { uid = 7; gid = 7; gids = 8 ∷ (65534 ∷ []) }; xid = 0; peer = 0; checked = false; reads_only = false })) (at 2) false).reply
    ≡ Success (AccessDone (record (file_shown 2 0 0 1 1) { mode = 16 }) 12)
further_group_writes = simp evaluate refl

others_execute :
    (serial (file_of 1) (Ask (CheckAccess (h 2) 63) (user 7 7)) (at 2) false).reply
    ≡ Success (AccessDone (record (file_shown 2 0 0 1 1) { mode = 1 }) 32)
others_execute = simp evaluate refl

others_have_no_more_than_their_digit :
    (serial (file_of 504) (Ask (CheckAccess (h 2) 63) (user 7 7)) (at 2) false).reply
    ≡ Success (AccessDone (record (file_shown 2 0 0 1 1) { mode = 504 }) 0)
others_have_no_more_than_their_digit = simp evaluate refl

only_what_is_asked_is_given :
    (serial (file_of 511) (Ask (CheckAccess (h 2) 36) nobody) (at 2) false).reply
    ≡ Success (AccessDone (record (file_shown 2 0 0 1 1) { mode = 511 }) 36)
only_what_is_asked_is_given = simp evaluate refl

nothing_is_asked :
    (serial (file_of 511) (Ask (CheckAccess (h 2) 0) nobody) (at 2) false).reply
    ≡ Success (AccessDone (record (file_shown 2 0 0 1 1) { mode = 511 }) 0)
nothing_is_asked = simp evaluate refl

bits_without_a_meaning_are_not_given :
    (serial (file_of 511) (Ask (CheckAccess (h 2) 4294967232) nobody) (at 2) false).reply
    ≡ Success (AccessDone (record (file_shown 2 0 0 1 1) { mode = 511 }) 0)
bits_without_a_meaning_are_not_given = simp evaluate refl

files_have_no_names :
    (serial (file_of 511) (Ask (CheckAccess (h 2) 18) nobody) (at 2) false).reply
    ≡ Success (AccessDone (record (file_shown 2 0 0 1 1) { mode = 511 }) 0)
files_have_no_names = simp evaluate refl

uid_0_reads_and_writes :
    (serial (file_of 0) (Ask (CheckAccess (h 2) 63) (user 0 0)) (at 2) false).reply
    ≡ Success (AccessDone (record (file_shown 2 0 0 1 1) { mode = 0 }) 13)
uid_0_reads_and_writes = simp evaluate refl

uid_0_executes_what_others_may :
    (serial (file_of 1) (Ask (CheckAccess (h 2) 63) (user 0 0)) (at 2) false).reply
    ≡ Success (AccessDone (record (file_shown 2 0 0 1 1) { mode = 1 }) 45)
uid_0_executes_what_others_may = simp evaluate refl

-- ---- ACCESS: of a directory, whose rights are READ 1, LOOKUP 2, MODIFY 4, EXTEND 8 and DELETE 16

owner_of_a_directory_lists :
    (serial (directory_of 256) (Ask (CheckAccess (h 2) 63) nobody) (at 2) false).reply
    ≡ Success (AccessDone (record (directory_shown 2 2 1) { mode = 256 }) 1)
owner_of_a_directory_lists = simp evaluate refl

owner_of_a_directory_looks_up :
    (serial (directory_of 64) (Ask (CheckAccess (h 2) 63) nobody) (at 2) false).reply
    ≡ Success (AccessDone (record (directory_shown 2 2 1) { mode = 64 }) 2)
owner_of_a_directory_looks_up = simp evaluate refl

owner_of_a_directory_changes_it :
    (serial (directory_of 128) (Ask (CheckAccess (h 2) 63) nobody) (at 2) false).reply
    ≡ Success (AccessDone (record (directory_shown 2 2 1) { mode = 128 }) 28)
owner_of_a_directory_changes_it = simp evaluate refl

directories_are_not_executed :
    (serial (directory_of 511) (Ask (CheckAccess (h 2) 32) nobody) (at 2) false).reply
    ≡ Success (AccessDone (record (directory_shown 2 2 1) { mode = 511 }) 0)
directories_are_not_executed = simp evaluate refl

uid_0_looks_up_everywhere :
    (serial (directory_of 0) (Ask (CheckAccess (h 2) 63) (user 0 0)) (at 2) false).reply
    ≡ Success (AccessDone (record (directory_shown 2 2 1) { mode = 0 }) 31)
uid_0_looks_up_everywhere = simp evaluate refl

-- ---- FSINFO

fsinfo_of_a_bad_handle :
    (serial start (Ask (Fsinfo (replicate 11 0)) nobody) (at 2) false).reply
    ≡ fails BadHandle 1
fsinfo_of_a_bad_handle = refl

fsinfo_of_an_absent_node :
    (serial start (Ask (Fsinfo (h 2)) nobody) (at 2) false).reply
    ≡ fails Stale 1
fsinfo_of_an_absent_node = simp evaluate refl

fsinfo_of_the_root :
    (serial start (Ask (Fsinfo root) nobody) (at 2) false).reply
    ≡ Success (FsinfoDone (root_shown 2 0) 16777216)
fsinfo_of_the_root = simp evaluate refl

fsinfo_of_a_file_of_a_volume_of_8_bytes_a_file :
    (serial (narrow (file [] no_blocks)) (Ask (Fsinfo (h 2)) nobody) (at 2) false).reply
    ≡ Success (FsinfoDone (file_shown 2 0 0 1 1) 8)
fsinfo_of_a_file_of_a_volume_of_8_bytes_a_file = simp evaluate refl

fsinfo_of_the_other_volume :
    (serial (narrow (file [] no_blocks)) (Ask (Fsinfo (handle_bytes 1 1)) nobody) (at 2) false).reply
    ≡ Success (FsinfoDone (record (root_shown 2 0) { fsid = 1 }) 16777216)
fsinfo_of_the_other_volume = simp evaluate refl

-- ---- PATHCONF

pathconf_of_a_bad_handle :
    (serial start (Ask (Pathconf (replicate 11 0)) nobody) (at 2) false).reply
    ≡ fails BadHandle 1
pathconf_of_a_bad_handle = refl

pathconf_of_an_absent_node :
    (serial start (Ask (Pathconf (h 2)) nobody) (at 2) false).reply
    ≡ fails Stale 1
pathconf_of_an_absent_node = simp evaluate refl

pathconf_of_a_file :
    (serial (with_file (file [] no_blocks)) (Ask (Pathconf (h 2)) nobody) (at 2) false).reply
    ≡ Success (PathconfDone (file_shown 2 0 0 1 1) false)
pathconf_of_a_file = simp evaluate refl
