-- Callers that may change nothing, ACCESS and PATHCONF of callers that are checked, callers that aren't, and when a WRITE moves (RFC 1813
-- sections 2.5, 3.3.4 and 3.3.20; how callers are, and moves, are our profile).
use Rattle.std.proofs.Common.{◌≡◌, ℕ, true, false, [], ◌∷◌, replicate, Some, None, refl, zero, suc}
use Rattle.std.specs.Ordering.{nat_cmp}
use Rattle.std.specs.FinSet.{FinSet}
use Rattle.std.specs.FinSet as sets
use Rattle.nfs_model.specs.Types.{Call, Caller, Wcc, ListedPlus, ClientTime, Unchecked, Guarded, Getattr, Setattr, Lookup, CheckAccess, Read, Write, Create, Mkdir}
use Rattle.nfs_model.specs.Types.{Remove, Rmdir, Rename, Readdir, Readdirplus, Fsstat, Fsinfo, Pathconf, Commit, Ask, Success, GetattrDone}
use Rattle.nfs_model.specs.Types.{SetattrDone, LookupDone, AccessDone, ReadDone, WriteDone, MadeDone, GoneDone, RenameDone, ReaddirDone}
use Rattle.nfs_model.specs.Types.{ReaddirplusDone, FsstatDone, FsinfoDone, PathconfDone, CommitDone, ReadOnly, Access, CrossVolume, Stale, BadHandle}
use Rattle.nfs_model.specs.Tree.{Affinity, Logical, Stripe, Volume}
use Rattle.nfs_model.specs.Memo.{Change, Told, Removes, Renames, ToldGone, ToldRenamed}
use Rattle.nfs_model.specs.Server.{Server, handle_bytes, opening_volume}
use Rattle.nfs_model.specs.Work.{Store, Task, move_of}
use Rattle.nfs_model.specs.Serial.Create.{no_attributes}
use Rattle.nfs_model.specs.Serial.Step.{serial}
use Rattle.nfs_laws.specs.lemmas.Evaluate.{evaluate}
use Rattle.nfs_laws.proofs.rows.Cases.{one_range, verifier, at, h, root, fails, a, b, e, f, write_at, entry, root_with, volume_with, root_shown}
use Rattle.nfs_laws.proofs.rows.Cases.{directory_shown, file_shown, before, changed}
use Rattle.nfs_laws.proofs.rows.Checked.{octal, owner, sixteenth, other, uid_0, free, reader, file_of, directory_of, tree_of, nest_of, shown_of}
use Rattle.nfs_laws.proofs.rows.Checked.{directory_changed, directory_kept}

-- the entry `f` of READDIRPLUS
abbrev f_and_more : ListedPlus
f_and_more = record { entry = entry 3 f 3; attributes = Some (shown_of (file_shown 3 1 4096 1 1) (octal 0 6 4 4) 8 70); handle = Some (h 3) }

-- the root, which doesn't change
abbrev root_kept : Wcc
root_kept = changed (before 4096 1 1) (root_shown 2 1)

-- the root alone, with one place, in which is what this caller was told of this at 1 second
abbrev telling : Caller → Change → Told → Server
telling caller change told = record {
  spare = 1 ∷ [];
  volumes = record (volume_with 1024 16777216 3 ((1, root_with 4 []) ∷ [])) {
    memos = Some (record { caller = caller; change = change; moment = at 1; told = told }) ∷ [];
  } ∷ (opening_volume verifier 1 one_range ∷ []);
}

-- ---- callers that may change nothing: ROFS for all that changes

reader_sets_nothing :
    (serial (file_of (octal 0 7 7 7))
    (Ask (Setattr (h 2) (record no_attributes { mode = Some (octal 0 6 0 0) }) None) (reader (free owner))) (at 2) false).reply
    ≡ fails ReadOnly 2
reader_sets_nothing = refl

reader_writes_nothing :
    (serial (file_of (octal 0 7 7 7)) (Ask (write_at 2 0 (6 ∷ [])) (reader (free owner))) (at 2) false).reply
    ≡ fails ReadOnly 2
reader_writes_nothing = refl

reader_creates_nothing :
    (serial (tree_of (octal 0 7 7 7) 8) (Ask (Create (h 2) a (Guarded no_attributes)) (reader (free owner))) (at 2) false).reply
    ≡ fails ReadOnly 2
reader_creates_nothing = refl

reader_makes_no_directory :
    (serial (tree_of (octal 0 7 7 7) 8) (Ask (Mkdir (h 2) a no_attributes) (reader (free owner))) (at 2) false).reply
    ≡ fails ReadOnly 2
reader_makes_no_directory = refl

reader_removes_nothing :
    (serial (tree_of (octal 0 7 7 7) 8) (Ask (Remove (h 2) f) (reader (free owner))) (at 2) false).reply
    ≡ fails ReadOnly 2
reader_removes_nothing = refl

reader_removes_no_directory :
    (serial (nest_of (octal 0 7 7 7) 8) (Ask (Rmdir (h 2) e) (reader (free owner))) (at 2) false).reply
    ≡ fails ReadOnly 2
reader_removes_no_directory = refl

reader_renames_nothing :
    (serial (tree_of (octal 0 7 7 7) 8) (Ask (Rename (h 2) f (h 2) a) (reader (free owner))) (at 2) false).reply
    ≡ fails ReadOnly 4
reader_renames_nothing = refl

checked_reader_writes_nothing :
    (serial (file_of (octal 0 7 7 7)) (Ask (write_at 2 0 (6 ∷ [])) (reader owner)) (at 2) false).reply
    ≡ fails ReadOnly 2
checked_reader_writes_nothing = refl

uid_0_that_only_reads_writes_nothing :
    (serial (file_of (octal 0 7 7 7)) (Ask (write_at 2 0 (6 ∷ [])) (reader uid_0)) (at 2) false).reply
    ≡ fails ReadOnly 2
uid_0_that_only_reads_writes_nothing = refl

reader_creates_nothing_that_is_there :
    (serial (tree_of (octal 0 7 7 7) 8) (Ask (Create (h 2) f (Unchecked no_attributes)) (reader (free owner))) (at 2) false).reply
    ≡ fails ReadOnly 2
reader_creates_nothing_that_is_there = refl

reader_renames_nothing_onto_itself :
    (serial (tree_of (octal 0 7 7 7) 8) (Ask (Rename (h 2) f (h 2) f) (reader (free owner))) (at 2) false).reply
    ≡ fails ReadOnly 4
reader_renames_nothing_onto_itself = refl

reader_writes_not_even_nothing :
    (serial (file_of (octal 0 7 7 7)) (Ask (write_at 2 0 []) (reader (free owner))) (at 2) false).reply
    ≡ fails ReadOnly 2
reader_writes_not_even_nothing = refl

-- it does what only tells
unchecked_reader_reads_whatever_the_mode :
    (serial (file_of (octal 0 0 0 0)) (Ask (Read (h 2) 0 9) (reader (free other))) (at 2) false).reply
    ≡ Success (ReadDone 1 true (5 ∷ []))
unchecked_reader_reads_whatever_the_mode = simp evaluate refl

checked_reader_reads_by_its_r :
    (serial (file_of (octal 0 0 0 4)) (Ask (Read (h 2) 0 9) (reader other)) (at 2) false).reply
    ≡ Success (ReadDone 1 true (5 ∷ []))
checked_reader_reads_by_its_r = simp evaluate refl

checked_reader_without_r_does_not_read :
    (serial (file_of (octal 0 7 7 0)) (Ask (Read (h 2) 0 9) (reader other)) (at 2) false).reply
    ≡ fails Access 1
checked_reader_without_r_does_not_read = simp evaluate refl

reader_gets_attributes :
    (serial (file_of (octal 0 0 0 0)) (Ask (Getattr (h 2)) (reader (free owner))) (at 2) false).reply
    ≡ Success (GetattrDone (shown_of (file_shown 2 1 4096 1 1) (octal 0 0 0 0) 7 70))
reader_gets_attributes = simp evaluate refl

reader_finds :
    (serial (tree_of (octal 0 7 7 7) 8) (Ask (Lookup (h 2) f) (reader (free owner))) (at 2) false).reply
    ≡ Success (LookupDone (h 3) (shown_of (file_shown 3 1 4096 1 1) (octal 0 6 4 4) 8 70) (shown_of (directory_shown 2 2 1) (octal 0 7 7 7) 7 70))
reader_finds = simp evaluate refl

reader_lists :
    (serial (tree_of (octal 0 7 7 7) 8) (Ask (Readdir (h 2) 2 (replicate 8 0) 512) (reader (free owner))) (at 2) false).reply
    ≡ Success (ReaddirDone (shown_of (directory_shown 2 2 1) (octal 0 7 7 7) 7 70) (entry 3 f 3 ∷ []) true)
reader_lists = simp evaluate refl

reader_lists_all :
    (serial (tree_of (octal 0 7 7 7) 8) (Ask (Readdirplus (h 2) 2 (replicate 8 0) 512 4096) (reader (free owner))) (at 2) false).reply
    ≡ Success (ReaddirplusDone (shown_of (directory_shown 2 2 1) (octal 0 7 7 7) 7 70) (f_and_more ∷ []) true)
reader_lists_all = simp evaluate refl

reader_commits :
    (serial (file_of (octal 0 7 7 7)) (Ask (Commit (h 2)) (reader (free owner))) (at 2) false).reply
    ≡ Success (CommitDone (changed (before 1 1 1) (shown_of (file_shown 2 1 4096 1 1) (octal 0 7 7 7) 7 70)) verifier)
reader_commits = simp evaluate refl

-- BADHANDLE and XDEV come before ROFS, and what a call was told before; STALE, NOTDIR, PERM and all else come after
bad_handle_comes_before_rofs :
    (serial (file_of (octal 0 7 7 7)) (Ask (Write (replicate 11 0) 0 1 (6 ∷ [])) (reader (free owner))) (at 2) false).reply
    ≡ fails BadHandle 2
bad_handle_comes_before_rofs = refl

other_volume_comes_before_rofs :
    (serial (tree_of (octal 0 7 7 7) 8) (Ask (Rename (h 2) f (handle_bytes 1 1) a) (reader (free owner))) (at 2) false).reply
    ≡ fails CrossVolume 4
other_volume_comes_before_rofs = refl

rofs_comes_before_stale :
    (serial (file_of (octal 0 7 7 7)) (Ask (write_at 9 0 (6 ∷ [])) (reader (free owner))) (at 2) false).reply
    ≡ fails ReadOnly 2
rofs_comes_before_stale = refl

rofs_comes_before_stale_of_names :
    (serial (file_of (octal 0 7 7 7)) (Ask (Remove (h 9) a) (reader (free owner))) (at 2) false).reply
    ≡ fails ReadOnly 2
rofs_comes_before_stale_of_names = refl

rofs_comes_before_stale_of_either :
    (serial (tree_of (octal 0 7 7 7) 8) (Ask (Rename (h 2) f (h 9) a) (reader (free owner))) (at 2) false).reply
    ≡ fails ReadOnly 4
rofs_comes_before_stale_of_either = refl

rofs_comes_before_not_a_directory :
    (serial (file_of (octal 0 7 7 7)) (Ask (Create (h 2) a (Guarded no_attributes)) (reader (free owner))) (at 2) false).reply
    ≡ fails ReadOnly 2
rofs_comes_before_not_a_directory = refl

rofs_comes_before_a_directory_that_is_written :
    (serial (directory_of (octal 0 7 7 7)) (Ask (write_at 2 0 (6 ∷ [])) (reader (free owner))) (at 2) false).reply
    ≡ fails ReadOnly 2
rofs_comes_before_a_directory_that_is_written = refl

rofs_comes_before_acces :
    (serial (file_of (octal 0 0 0 0)) (Ask (write_at 2 0 (6 ∷ [])) (reader other)) (at 2) false).reply
    ≡ fails ReadOnly 2
rofs_comes_before_acces = refl

rofs_comes_before_perm :
    (serial (file_of (octal 0 7 7 7))
    (Ask (Setattr (h 2) (record no_attributes { mode = Some (octal 0 6 0 0) }) None) (reader other)) (at 2) false).reply
    ≡ fails ReadOnly 2
rofs_comes_before_perm = refl

rofs_comes_before_a_long_name :
    (serial (tree_of (octal 0 7 7 7) 8) (Ask (Mkdir (h 2) (replicate 256 97) no_attributes) (reader (free owner))) (at 2) false).reply
    ≡ fails ReadOnly 2
rofs_comes_before_a_long_name = refl

rofs_comes_before_no_entry :
    (serial (tree_of (octal 0 7 7 7) 8) (Ask (Remove (h 2) b) (reader (free owner))) (at 2) false).reply
    ≡ fails ReadOnly 2
rofs_comes_before_no_entry = refl

rofs_comes_before_another_count :
    (serial (file_of (octal 0 7 7 7)) (Ask (Write (h 2) 0 2 (6 ∷ [])) (reader (free owner))) (at 2) false).reply
    ≡ fails ReadOnly 2
rofs_comes_before_another_count = refl

what_it_was_told_comes_before_rofs :
    (serial (telling (reader uid_0) (Removes root a) (ToldGone root_kept)) (Ask (Remove root a) (reader uid_0)) (at 2) false).reply
    ≡ Success (GoneDone root_kept)
what_it_was_told_comes_before_rofs = refl

what_it_was_told_comes_before_acces :
    (serial (telling other (Removes root a) (ToldGone root_kept)) (Ask (Remove root a) other) (at 2) false).reply
    ≡ Success (GoneDone root_kept)
what_it_was_told_comes_before_acces = refl

what_another_was_told_is_not_asked :
    (serial (telling uid_0 (Removes root a) (ToldGone root_kept)) (Ask (Mkdir root a no_attributes) other) (at 2) false).reply
    ≡ fails Access 2
what_another_was_told_is_not_asked = simp evaluate refl

what_a_rename_was_told_comes_before_acces :
    (serial (telling other (Renames root a root b) (ToldRenamed root_kept root_kept)) (Ask (Rename root a root b) other) (at 2) false).reply
    ≡ Success (RenameDone root_kept root_kept)
what_a_rename_was_told_comes_before_acces = refl

-- ---- ACCESS: READ 1, LOOKUP 2, MODIFY 4, EXTEND 8, DELETE 16 and EXECUTE 32

owner_has_what_its_digit_gives :
    (serial (file_of (octal 0 2 0 0)) (Ask (CheckAccess (h 2) 63) owner) (at 2) false).reply
    ≡ Success (AccessDone (shown_of (file_shown 2 1 4096 1 1) (octal 0 2 0 0) 7 70) 12)
owner_has_what_its_digit_gives = simp evaluate refl

owner_without_a_right_has_none :
    (serial (file_of (octal 0 0 7 7)) (Ask (CheckAccess (h 2) 63) owner) (at 2) false).reply
    ≡ Success (AccessDone (shown_of (file_shown 2 1 4096 1 1) (octal 0 0 7 7) 7 70) 0)
owner_without_a_right_has_none = simp evaluate refl

sixteenth_further_group_has_what_its_digit_gives :
    (serial (file_of (octal 0 0 5 0)) (Ask (CheckAccess (h 2) 63) sixteenth) (at 2) false).reply
    ≡ Success (AccessDone (shown_of (file_shown 2 1 4096 1 1) (octal 0 0 5 0) 7 70) 33)
sixteenth_further_group_has_what_its_digit_gives = simp evaluate refl

others_have_what_their_digit_gives :
    (serial (file_of (octal 0 0 0 6)) (Ask (CheckAccess (h 2) 63) other) (at 2) false).reply
    ≡ Success (AccessDone (shown_of (file_shown 2 1 4096 1 1) (octal 0 0 0 6) 7 70) 13)
others_have_what_their_digit_gives = simp evaluate refl

uid_0_executes_what_somebody_may :
    (serial (file_of (octal 0 0 1 0)) (Ask (CheckAccess (h 2) 63) uid_0) (at 2) false).reply
    ≡ Success (AccessDone (shown_of (file_shown 2 1 4096 1 1) (octal 0 0 1 0) 7 70) 45)
uid_0_executes_what_somebody_may = simp evaluate refl

uid_0_executes_what_its_owner_may :
    (serial (file_of (octal 0 1 0 0)) (Ask (CheckAccess (h 2) 63) uid_0) (at 2) false).reply
    ≡ Success (AccessDone (shown_of (file_shown 2 1 4096 1 1) (octal 0 1 0 0) 7 70) 45)
uid_0_executes_what_its_owner_may = simp evaluate refl

uid_0_does_not_execute_what_nobody_may :
    (serial (file_of (octal 0 6 6 6)) (Ask (CheckAccess (h 2) 63) uid_0) (at 2) false).reply
    ≡ Success (AccessDone (shown_of (file_shown 2 1 4096 1 1) (octal 0 6 6 6) 7 70) 13)
uid_0_does_not_execute_what_nobody_may = simp evaluate refl

uid_0_has_all_of_a_directory :
    (serial (directory_of (octal 0 0 0 0)) (Ask (CheckAccess (h 2) 63) uid_0) (at 2) false).reply
    ≡ Success (AccessDone (shown_of (directory_shown 2 2 1) (octal 0 0 0 0) 7 70) 31)
uid_0_has_all_of_a_directory = simp evaluate refl

w_of_a_directory_without_x_gives_nothing :
    (serial (directory_of (octal 0 2 0 0)) (Ask (CheckAccess (h 2) 63) owner) (at 2) false).reply
    ≡ Success (AccessDone (shown_of (directory_shown 2 2 1) (octal 0 2 0 0) 7 70) 0)
w_of_a_directory_without_x_gives_nothing = simp evaluate refl

w_and_x_of_a_directory_change_it :
    (serial (directory_of (octal 0 3 0 0)) (Ask (CheckAccess (h 2) 63) owner) (at 2) false).reply
    ≡ Success (AccessDone (shown_of (directory_shown 2 2 1) (octal 0 3 0 0) 7 70) 30)
w_and_x_of_a_directory_change_it = simp evaluate refl

r_and_w_of_a_directory_without_x_list_it :
    (serial (directory_of (octal 0 6 0 0)) (Ask (CheckAccess (h 2) 63) owner) (at 2) false).reply
    ≡ Success (AccessDone (shown_of (directory_shown 2 2 1) (octal 0 6 0 0) 7 70) 1)
r_and_w_of_a_directory_without_x_list_it = simp evaluate refl

w_of_a_directory_without_x_where_callers_are_not_checked :
    (serial (directory_of (octal 0 2 0 0)) (Ask (CheckAccess (h 2) 63) (free owner)) (at 2) false).reply
    ≡ Success (AccessDone (shown_of (directory_shown 2 2 1) (octal 0 2 0 0) 7 70) 28)
w_of_a_directory_without_x_where_callers_are_not_checked = simp evaluate refl

reader_of_a_file_does_not_change_it :
    (serial (file_of (octal 0 7 7 7)) (Ask (CheckAccess (h 2) 63) (reader (free owner))) (at 2) false).reply
    ≡ Success (AccessDone (shown_of (file_shown 2 1 4096 1 1) (octal 0 7 7 7) 7 70) 33)
reader_of_a_file_does_not_change_it = simp evaluate refl

reader_of_a_directory_does_not_change_it :
    (serial (directory_of (octal 0 7 7 7)) (Ask (CheckAccess (h 2) 63) (reader (free owner))) (at 2) false).reply
    ≡ Success (AccessDone (shown_of (directory_shown 2 2 1) (octal 0 7 7 7) 7 70) 3)
reader_of_a_directory_does_not_change_it = simp evaluate refl

checked_reader_of_a_directory_does_not_change_it :
    (serial (directory_of (octal 0 7 7 7)) (Ask (CheckAccess (h 2) 63) (reader owner)) (at 2) false).reply
    ≡ Success (AccessDone (shown_of (directory_shown 2 2 1) (octal 0 7 7 7) 7 70) 3)
checked_reader_of_a_directory_does_not_change_it = simp evaluate refl

uid_0_that_only_reads_changes_nothing :
    (serial (file_of (octal 0 7 7 7)) (Ask (CheckAccess (h 2) 63) (reader uid_0)) (at 2) false).reply
    ≡ Success (AccessDone (shown_of (file_shown 2 1 4096 1 1) (octal 0 7 7 7) 7 70) 33)
uid_0_that_only_reads_changes_nothing = simp evaluate refl

access_of_an_absent_node_by_a_stranger :
    (serial (file_of (octal 0 0 0 0)) (Ask (CheckAccess (h 9) 63) other) (at 2) false).reply
    ≡ fails Stale 1
access_of_an_absent_node_by_a_stranger = simp evaluate refl

-- ---- PATHCONF: whether only uid 0 gives a file another owner

only_uid_0_gives_away_where_callers_are_checked :
    (serial (file_of (octal 0 0 0 0)) (Ask (Pathconf (h 2)) other) (at 2) false).reply
    ≡ Success (PathconfDone (shown_of (file_shown 2 1 4096 1 1) (octal 0 0 0 0) 7 70) true)
only_uid_0_gives_away_where_callers_are_checked = simp evaluate refl

anybody_gives_away_where_callers_are_not_checked :
    (serial (file_of (octal 0 0 0 0)) (Ask (Pathconf (h 2)) (free other)) (at 2) false).reply
    ≡ Success (PathconfDone (shown_of (file_shown 2 1 4096 1 1) (octal 0 0 0 0) 7 70) false)
anybody_gives_away_where_callers_are_not_checked = simp evaluate refl

readers_that_are_not_checked_are_not_restricted :
    (serial (file_of (octal 0 0 0 0)) (Ask (Pathconf (h 2)) (reader (free owner))) (at 2) false).reply
    ≡ Success (PathconfDone (shown_of (file_shown 2 1 4096 1 1) (octal 0 0 0 0) 7 70) false)
readers_that_are_not_checked_are_not_restricted = simp evaluate refl

uid_0_is_told_the_same :
    (serial (file_of (octal 0 0 0 0)) (Ask (Pathconf (h 2)) uid_0) (at 2) false).reply
    ≡ Success (PathconfDone (shown_of (file_shown 2 1 4096 1 1) (octal 0 0 0 0) 7 70) true)
uid_0_is_told_the_same = simp evaluate refl

-- ---- what needs no right

getattr_needs_no_right :
    (serial (file_of (octal 0 0 0 0)) (Ask (Getattr (h 2)) other) (at 2) false).reply
    ≡ Success (GetattrDone (shown_of (file_shown 2 1 4096 1 1) (octal 0 0 0 0) 7 70))
getattr_needs_no_right = simp evaluate refl

fsinfo_needs_no_right :
    (serial (file_of (octal 0 0 0 0)) (Ask (Fsinfo (h 2)) other) (at 2) false).reply
    ≡ Success (FsinfoDone (shown_of (file_shown 2 1 4096 1 1) (octal 0 0 0 0) 7 70) 16777216)
fsinfo_needs_no_right = simp evaluate refl

fsstat_needs_no_right :
    (serial (file_of (octal 0 0 0 0)) (Ask (Fsstat (h 2)) (reader other)) (at 2) false).reply
    ≡ Success (FsstatDone (shown_of (file_shown 2 1 4096 1 1) (octal 0 0 0 0) 7 70)
    (record { total_bytes = 4194304; free_bytes = 4190208; inodes = 65536; free_inodes = 65534 }))
fsstat_needs_no_right = simp evaluate refl

-- ---- callers that are not checked

unchecked_stranger_writes :
    (serial (file_of (octal 0 0 0 0)) (Ask (write_at 2 0 (6 ∷ [])) (free other)) (at 2) false).reply
    ≡ Success (WriteDone 1 verifier)
unchecked_stranger_writes = simp evaluate refl

unchecked_stranger_reads :
    (serial (file_of (octal 0 0 0 0)) (Ask (Read (h 2) 0 9) (free other)) (at 2) false).reply
    ≡ Success (ReadDone 1 true (5 ∷ []))
unchecked_stranger_reads = simp evaluate refl

unchecked_stranger_removes_from_a_sticky_directory :
    (serial (tree_of (octal 1 0 0 0) 8) (Ask (Remove (h 2) f) (free other)) (at 2) false).reply
    ≡ Success (GoneDone (directory_changed 2 (octal 1 0 0 0) 2))
unchecked_stranger_removes_from_a_sticky_directory = simp evaluate refl

unchecked_stranger_renames_in_a_sticky_directory :
    (serial (tree_of (octal 1 0 0 0) 8) (Ask (Rename (h 2) f (h 2) a) (free other)) (at 2) false).reply
    ≡ Success (RenameDone (directory_changed 2 (octal 1 0 0 0) 2) (directory_changed 2 (octal 1 0 0 0) 2))
unchecked_stranger_renames_in_a_sticky_directory = simp evaluate refl

unchecked_stranger_takes_a_file_with_its_bits :
    (serial (file_of (octal 6 7 5 5))
    (Ask (Setattr (h 2) (record no_attributes { uid = Some 9; gid = Some 90 }) None) (free other)) (at 2) false).reply
    ≡ Success (SetattrDone (changed (before 1 1 1) (shown_of (file_shown 2 1 4096 1 2) (octal 6 7 5 5) 9 90)))
unchecked_stranger_takes_a_file_with_its_bits = simp evaluate refl

unchecked_stranger_gives_02000 :
    (serial (file_of (octal 0 7 5 5))
    (Ask (Setattr (h 2) (record no_attributes { mode = Some (octal 2 7 5 5) }) None) (free other)) (at 2) false).reply
    ≡ Success (SetattrDone (changed (before 1 1 1) (shown_of (file_shown 2 1 4096 1 2) (octal 2 7 5 5) 7 70)))
unchecked_stranger_gives_02000 = simp evaluate refl

unchecked_stranger_makes_a_file_of_another_in_a_directory_with_02000 :
    (serial (tree_of (octal 2 0 0 0) 8)
    (Ask (Create (h 2) a (Guarded (record no_attributes { mode = Some (octal 6 7 5 5); uid = Some 8 }))) (free other)) (at 2) false).reply
    ≡ Success (MadeDone (h 4) (record (shown_of (file_shown 4 0 0 2 2) (octal 6 7 5 5) 8 90) { atime = at 2 })
    (directory_changed 2 (octal 2 0 0 0) 2))
unchecked_stranger_makes_a_file_of_another_in_a_directory_with_02000 = simp evaluate refl

unchecked_stranger_makes_a_directory_in_one_with_02000 :
    (serial (tree_of (octal 2 0 0 0) 8) (Ask (Mkdir (h 2) a (record no_attributes { gid = Some 80 })) (free other)) (at 2) false).reply
    ≡ Success (MadeDone (h 4) (shown_of (directory_shown 4 2 2) (octal 0 7 5 5) 9 80) (directory_changed 2 (octal 2 0 0 0) 3))
unchecked_stranger_makes_a_directory_in_one_with_02000 = simp evaluate refl

unchecked_stranger_creates_over_a_file :
    (serial (tree_of (octal 0 0 0 0) 8)
    (Ask (Create (h 2) f (Unchecked (record no_attributes { mode = Some (octal 6 7 5 5); uid = Some 9; size = Some 1; mtime = ClientTime (at 6) })))
    (free other)) (at 2) false).reply
    ≡ Success (MadeDone (h 3) (record (shown_of (file_shown 3 1 4096 1 2) (octal 6 7 5 5) 9 70) { mtime = at 6 })
    (directory_kept 2 (octal 0 0 0 0) 2))
unchecked_stranger_creates_over_a_file = simp evaluate refl

unchecked_stranger_creates_over_a_file_without_a_size :
    (serial (tree_of (octal 0 0 0 0) 8) (Ask (Create (h 2) f (Unchecked no_attributes)) (free other)) (at 2) false).reply
    ≡ Success (MadeDone (h 3) (shown_of (file_shown 3 1 4096 1 2) (octal 0 6 4 4) 8 70) (directory_kept 2 (octal 0 0 0 0) 2))
unchecked_stranger_creates_over_a_file_without_a_size = simp evaluate refl

unchecked_write_keeps_both_bits :
    (serial ((serial (file_of (octal 6 7 7 7)) (Ask (write_at 2 0 (6 ∷ [])) (free other)) (at 2) false).server)
    (Ask (Getattr (h 2)) other) (at 3) false).reply
    ≡ Success (GetattrDone (shown_of (file_shown 2 1 4096 2 2) (octal 6 7 7 7) 7 70))
unchecked_write_keeps_both_bits = simp evaluate refl

unchecked_stranger_lists_all_without_x :
    (serial (tree_of (octal 0 0 0 0) 8) (Ask (Readdirplus (h 2) 2 (replicate 8 0) 512 4096) (free other)) (at 2) false).reply
    ≡ Success (ReaddirplusDone (shown_of (directory_shown 2 2 1) (octal 0 0 0 0) 7 70) (f_and_more ∷ []) true)
unchecked_stranger_lists_all_without_x = simp evaluate refl

-- ---- when a WRITE moves: the file has its first block

-- a set of this many numbers
abbrev sized_set : ℕ → FinSet nat_cmp
sized_set zero = sets.empty
sized_set (suc n) = sets.insert (sized_set n) n

-- a server, with this many blocks in the stock of volume 0, and 9 that are free
abbrev store : Server → ℕ → Store
store server stock = record {
  server = server;
  parts = record { files = sets.empty; stock = sized_set stock; dead = sets.empty; free = sized_set 9 } ∷ [];
}

-- a call under an affinity
abbrev under : Affinity → Call → Caller → Task
under affinity call caller = record { asked = Ask call caller; affinity = affinity; moment = at 2 }

write_that_clears_04000_leaves_its_stripe :
    move_of (store (file_of (octal 4 7 5 5)) 9) (under (Stripe 0 2) (write_at 2 0 (6 ∷ [])) owner)
    ≡ Some (Logical 0)
write_that_clears_04000_leaves_its_stripe = simp evaluate refl

write_that_clears_02000_leaves_its_stripe :
    move_of (store (file_of (octal 2 7 7 7)) 9) (under (Stripe 0 2) (write_at 2 0 (6 ∷ [])) other)
    ≡ Some (Logical 0)
write_that_clears_02000_leaves_its_stripe = simp evaluate refl

write_that_clears_nothing_stays_in_its_stripe :
    move_of (store (file_of (octal 0 7 5 5)) 9) (under (Stripe 0 2) (write_at 2 0 (6 ∷ [])) owner)
    ≡ None
write_that_clears_nothing_stays_in_its_stripe = simp evaluate refl

write_that_keeps_02000_stays_in_its_stripe :
    move_of (store (file_of (octal 2 7 4 7)) 9) (under (Stripe 0 2) (write_at 2 0 (6 ∷ [])) owner)
    ≡ None
write_that_keeps_02000_stays_in_its_stripe = simp evaluate refl

write_of_uid_0_stays_in_its_stripe :
    move_of (store (file_of (octal 6 7 7 7)) 9) (under (Stripe 0 2) (write_at 2 0 (6 ∷ [])) uid_0)
    ≡ None
write_of_uid_0_stays_in_its_stripe = simp evaluate refl

unchecked_write_stays_in_its_stripe :
    move_of (store (file_of (octal 6 7 7 7)) 9) (under (Stripe 0 2) (write_at 2 0 (6 ∷ [])) (free owner))
    ≡ None
unchecked_write_stays_in_its_stripe = simp evaluate refl

write_that_clears_stays_in_logical :
    move_of (store (file_of (octal 4 7 5 5)) 0) (under (Logical 0) (write_at 2 0 (6 ∷ [])) owner)
    ≡ None
write_that_clears_stays_in_logical = simp evaluate refl

write_of_nothing_clears_nothing :
    move_of (store (file_of (octal 4 7 5 5)) 9) (under (Stripe 0 2) (write_at 2 0 []) owner)
    ≡ None
write_of_nothing_clears_nothing = simp evaluate refl

write_that_is_refused_stays_in_its_stripe :
    move_of (store (file_of (octal 4 7 7 5)) 9) (under (Stripe 0 2) (write_at 2 0 (replicate 2 6)) other)
    ≡ None
write_that_is_refused_stays_in_its_stripe = simp evaluate refl

write_that_is_permitted_leaves_its_stripe :
    move_of (store (file_of (octal 0 0 0 2)) 9) (under (Stripe 0 2) (write_at 2 0 (replicate 2 6)) other)
    ≡ Some (Logical 0)
write_that_is_permitted_leaves_its_stripe = simp evaluate refl

write_that_is_refused_stays_in_logical :
    move_of (store (file_of (octal 0 7 7 5)) 0) (under (Logical 0) (write_at 2 4095 (replicate 2 6)) other)
    ≡ None
write_that_is_refused_stays_in_logical = simp evaluate refl

write_that_is_permitted_leaves_logical :
    move_of (store (file_of (octal 0 0 0 2)) 0) (under (Logical 0) (write_at 2 4095 (replicate 2 6)) other)
    ≡ Some (Volume 0)
write_that_is_permitted_leaves_logical = simp evaluate refl

write_that_is_refused_is_answered_in_volume :
    move_of (store (file_of (octal 0 7 7 5)) 0) (under (Volume 0) (write_at 2 4095 (replicate 2 6)) other)
    ≡ None
write_that_is_refused_is_answered_in_volume = simp evaluate refl

write_of_a_reader_stays_in_its_stripe :
    move_of (store (file_of (octal 4 7 7 7)) 9) (under (Stripe 0 2) (write_at 2 0 (replicate 2 6)) (reader (free owner)))
    ≡ None
write_of_a_reader_stays_in_its_stripe = simp evaluate refl

write_of_a_checked_reader_stays_in_its_stripe :
    move_of (store (file_of (octal 4 7 7 7)) 9) (under (Stripe 0 2) (write_at 2 0 (replicate 2 6)) (reader owner))
    ≡ None
write_of_a_checked_reader_stays_in_its_stripe = simp evaluate refl
