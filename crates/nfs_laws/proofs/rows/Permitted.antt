-- READ, WRITE, COMMIT, LOOKUP, READDIR, READDIRPLUS and MNT by the owner, the groups and the mode (RFC 1813 sections 2.5, 3.3.3, 3.3.6,
-- 3.3.7, 3.3.16, 3.3.17 and 4.4, appendix I section 5.2.1).
use Rattle.std.proofs.Common.{◌≡◌, ℕ, true, false, List, [], ◌∷◌, ◌++◌, replicate, Some, None, refl}
use Rattle.nfs_model.specs.Types.{ListedPlus, Read, Write, Commit, Lookup, Readdir, Readdirplus, MountBelow, Ask, Success, ReadDone, WriteDone}
use Rattle.nfs_model.specs.Types.{CommitDone, LookupDone, ReaddirDone, ReaddirplusDone, MountDone, Access, NoEntry, NotDirectory, Invalid}
use Rattle.nfs_model.specs.Types.{NameTooLong, Stale, BadCookie}
use Rattle.nfs_model.specs.Serial.Step.{serial}
use Rattle.nfs_laws.specs.lemmas.Evaluate.{evaluate}
use Rattle.nfs_laws.proofs.rows.Cases.{verifier, at, h, root, fails, a, b, d, e, f, x, write_at, entry, narrow, directory_shown, file_shown, before, changed}
use Rattle.nfs_laws.proofs.rows.Checked.{octal, owner, member, further, sixteenth, other, uid_0, free, reader, owned_file, file_of, directory_of}
use Rattle.nfs_laws.proofs.rows.Checked.{tree_of, nest_of, shown_of}

-- `/vol0`
abbrev vol0 : List ℕ
vol0 = 0x2f ∷ 0x76 ∷ 0x6f ∷ 0x6c ∷ 0x30 ∷ []

-- the entry `f` of READDIRPLUS with attributes and handle, and its name alone
abbrev f_and_more : ListedPlus
f_and_more = record { entry = entry 3 f 3; attributes = Some (shown_of (file_shown 3 1 4096 1 1) (octal 0 6 4 4) 8 70); handle = Some (h 3) }

abbrev f_alone : ListedPlus
f_alone = record { entry = entry 3 f 3; attributes = None; handle = None }

-- ---- READ: by r, and by x

owner_reads_whatever_the_mode :
    (serial (file_of (octal 0 0 0 0)) (Ask (Read (h 2) 0 9) owner) (at 2) false).reply
    ≡ Success (ReadDone 1 true (5 ∷ []))
owner_reads_whatever_the_mode = simp evaluate refl

member_reads_by_its_r :
    (serial (file_of (octal 0 0 4 0)) (Ask (Read (h 2) 0 9) member) (at 2) false).reply
    ≡ Success (ReadDone 1 true (5 ∷ []))
member_reads_by_its_r = simp evaluate refl

member_without_r_and_x_does_not_read :
    (serial (file_of (octal 0 7 2 7)) (Ask (Read (h 2) 0 9) member) (at 2) false).reply
    ≡ fails Access 1
member_without_r_and_x_does_not_read = simp evaluate refl

further_group_reads_by_its_r :
    (serial (file_of (octal 0 0 4 0)) (Ask (Read (h 2) 0 9) further) (at 2) false).reply
    ≡ Success (ReadDone 1 true (5 ∷ []))
further_group_reads_by_its_r = simp evaluate refl

further_group_without_r_and_x_does_not_read :
    (serial (file_of (octal 0 7 2 7)) (Ask (Read (h 2) 0 9) further) (at 2) false).reply
    ≡ fails Access 1
further_group_without_r_and_x_does_not_read = simp evaluate refl

sixteenth_further_group_reads_by_its_r :
    (serial (file_of (octal 0 0 4 0)) (Ask (Read (h 2) 0 9) sixteenth) (at 2) false).reply
    ≡ Success (ReadDone 1 true (5 ∷ []))
sixteenth_further_group_reads_by_its_r = simp evaluate refl

sixteenth_further_group_without_r_and_x_does_not_read :
    (serial (file_of (octal 0 7 2 7)) (Ask (Read (h 2) 0 9) sixteenth) (at 2) false).reply
    ≡ fails Access 1
sixteenth_further_group_without_r_and_x_does_not_read = simp evaluate refl

others_read_by_their_r :
    (serial (file_of (octal 0 0 0 4)) (Ask (Read (h 2) 0 9) other) (at 2) false).reply
    ≡ Success (ReadDone 1 true (5 ∷ []))
others_read_by_their_r = simp evaluate refl

others_without_r_and_x_do_not_read :
    (serial (file_of (octal 0 7 7 2)) (Ask (Read (h 2) 0 9) other) (at 2) false).reply
    ≡ fails Access 1
others_without_r_and_x_do_not_read = simp evaluate refl

member_reads_by_its_x :
    (serial (file_of (octal 0 0 1 0)) (Ask (Read (h 2) 0 9) member) (at 2) false).reply
    ≡ Success (ReadDone 1 true (5 ∷ []))
member_reads_by_its_x = simp evaluate refl

others_read_by_their_x :
    (serial (file_of (octal 0 0 0 1)) (Ask (Read (h 2) 0 9) other) (at 2) false).reply
    ≡ Success (ReadDone 1 true (5 ∷ []))
others_read_by_their_x = simp evaluate refl

uid_0_reads_whatever_the_mode :
    (serial (file_of (octal 0 0 0 0)) (Ask (Read (h 2) 0 9) uid_0) (at 2) false).reply
    ≡ Success (ReadDone 1 true (5 ∷ []))
uid_0_reads_whatever_the_mode = simp evaluate refl

read_of_an_absent_file :
    (serial (file_of (octal 0 0 0 0)) (Ask (Read (h 9) 0 9) other) (at 2) false).reply
    ≡ fails Stale 1
read_of_an_absent_file = simp evaluate refl

read_of_a_directory_is_not_asked :
    (serial (directory_of (octal 0 0 0 0)) (Ask (Read (h 2) 0 9) other) (at 2) false).reply
    ≡ fails Invalid 1
read_of_a_directory_is_not_asked = simp evaluate refl

read_past_the_end_needs_r_too :
    (serial (file_of (octal 0 0 0 0)) (Ask (Read (h 2) 9 9) other) (at 2) false).reply
    ≡ fails Access 1
read_past_the_end_needs_r_too = simp evaluate refl

-- ---- WRITE: by w

owner_writes_whatever_the_mode :
    (serial (file_of (octal 0 0 0 0)) (Ask (write_at 2 0 (6 ∷ [])) owner) (at 2) false).reply
    ≡ Success (WriteDone 1 verifier)
owner_writes_whatever_the_mode = simp evaluate refl

member_writes_by_its_w :
    (serial (file_of (octal 0 0 2 0)) (Ask (write_at 2 0 (6 ∷ [])) member) (at 2) false).reply
    ≡ Success (WriteDone 1 verifier)
member_writes_by_its_w = simp evaluate refl

member_without_w_does_not_write :
    (serial (file_of (octal 0 7 5 7)) (Ask (write_at 2 0 (6 ∷ [])) member) (at 2) false).reply
    ≡ fails Access 2
member_without_w_does_not_write = simp evaluate refl

further_group_writes_by_its_w :
    (serial (file_of (octal 0 0 2 0)) (Ask (write_at 2 0 (6 ∷ [])) further) (at 2) false).reply
    ≡ Success (WriteDone 1 verifier)
further_group_writes_by_its_w = simp evaluate refl

further_group_without_w_does_not_write :
    (serial (file_of (octal 0 7 5 7)) (Ask (write_at 2 0 (6 ∷ [])) further) (at 2) false).reply
    ≡ fails Access 2
further_group_without_w_does_not_write = simp evaluate refl

sixteenth_further_group_writes_by_its_w :
    (serial (file_of (octal 0 0 2 0)) (Ask (write_at 2 0 (6 ∷ [])) sixteenth) (at 2) false).reply
    ≡ Success (WriteDone 1 verifier)
sixteenth_further_group_writes_by_its_w = simp evaluate refl

sixteenth_further_group_without_w_does_not_write :
    (serial (file_of (octal 0 7 5 7)) (Ask (write_at 2 0 (6 ∷ [])) sixteenth) (at 2) false).reply
    ≡ fails Access 2
sixteenth_further_group_without_w_does_not_write = simp evaluate refl

others_write_by_their_w :
    (serial (file_of (octal 0 0 0 2)) (Ask (write_at 2 0 (6 ∷ [])) other) (at 2) false).reply
    ≡ Success (WriteDone 1 verifier)
others_write_by_their_w = simp evaluate refl

others_without_w_do_not_write :
    (serial (file_of (octal 0 7 7 5)) (Ask (write_at 2 0 (6 ∷ [])) other) (at 2) false).reply
    ≡ fails Access 2
others_without_w_do_not_write = simp evaluate refl

uid_0_writes_whatever_the_mode :
    (serial (file_of (octal 0 0 0 0)) (Ask (write_at 2 0 (6 ∷ [])) uid_0) (at 2) false).reply
    ≡ Success (WriteDone 1 verifier)
uid_0_writes_whatever_the_mode = simp evaluate refl

write_to_an_absent_file :
    (serial (file_of (octal 0 0 0 0)) (Ask (write_at 9 0 (6 ∷ [])) other) (at 2) false).reply
    ≡ fails Stale 2
write_to_an_absent_file = simp evaluate refl

write_to_a_directory_is_not_asked :
    (serial (directory_of (octal 0 0 0 0)) (Ask (write_at 2 0 (6 ∷ [])) other) (at 2) false).reply
    ≡ fails Invalid 2
write_to_a_directory_is_not_asked = simp evaluate refl

write_without_w_comes_before_its_count :
    (serial (file_of (octal 0 0 0 0)) (Ask (Write (h 2) 0 2 (6 ∷ [])) other) (at 2) false).reply
    ≡ fails Access 2
write_without_w_comes_before_its_count = simp evaluate refl

write_of_another_count_with_w :
    (serial (file_of (octal 0 0 0 2)) (Ask (Write (h 2) 0 2 (6 ∷ [])) other) (at 2) false).reply
    ≡ fails Invalid 2
write_of_another_count_with_w = simp evaluate refl

write_of_nothing_needs_w_too :
    (serial (file_of (octal 0 0 0 0)) (Ask (write_at 2 0 []) other) (at 2) false).reply
    ≡ fails Access 2
write_of_nothing_needs_w_too = simp evaluate refl

write_without_w_comes_before_the_largest_size :
    (serial (narrow (owned_file (octal 0 0 0 0) 7 70)) (Ask (write_at 2 8 (6 ∷ [])) other) (at 2) false).reply
    ≡ fails Access 2
write_without_w_comes_before_the_largest_size = simp evaluate refl

-- ---- COMMIT: by what READ needs, or WRITE

owner_commits_whatever_the_mode :
    (serial (file_of (octal 0 0 0 0)) (Ask (Commit (h 2)) owner) (at 2) false).reply
    ≡ Success (CommitDone (changed (before 1 1 1) (shown_of (file_shown 2 1 4096 1 1) (octal 0 0 0 0) 7 70)) verifier)
owner_commits_whatever_the_mode = simp evaluate refl

others_commit_by_their_r :
    (serial (file_of (octal 0 0 0 4)) (Ask (Commit (h 2)) other) (at 2) false).reply
    ≡ Success (CommitDone (changed (before 1 1 1) (shown_of (file_shown 2 1 4096 1 1) (octal 0 0 0 4) 7 70)) verifier)
others_commit_by_their_r = simp evaluate refl

others_commit_by_their_w :
    (serial (file_of (octal 0 0 0 2)) (Ask (Commit (h 2)) other) (at 2) false).reply
    ≡ Success (CommitDone (changed (before 1 1 1) (shown_of (file_shown 2 1 4096 1 1) (octal 0 0 0 2) 7 70)) verifier)
others_commit_by_their_w = simp evaluate refl

others_without_a_right_do_not_commit :
    (serial (file_of (octal 0 7 7 0)) (Ask (Commit (h 2)) other) (at 2) false).reply
    ≡ fails Access 2
others_without_a_right_do_not_commit = simp evaluate refl

uid_0_commits_whatever_the_mode :
    (serial (file_of (octal 0 0 0 0)) (Ask (Commit (h 2)) uid_0) (at 2) false).reply
    ≡ Success (CommitDone (changed (before 1 1 1) (shown_of (file_shown 2 1 4096 1 1) (octal 0 0 0 0) 7 70)) verifier)
uid_0_commits_whatever_the_mode = simp evaluate refl

commit_of_a_directory_is_not_asked :
    (serial (directory_of (octal 0 0 0 0)) (Ask (Commit (h 2)) other) (at 2) false).reply
    ≡ fails Invalid 2
commit_of_a_directory_is_not_asked = simp evaluate refl

-- ---- LOOKUP: by x of the directory

owner_finds_by_its_x :
    (serial (tree_of (octal 0 1 0 0) 8) (Ask (Lookup (h 2) f) owner) (at 2) false).reply
    ≡ Success (LookupDone (h 3) (shown_of (file_shown 3 1 4096 1 1) (octal 0 6 4 4) 8 70) (shown_of (directory_shown 2 2 1) (octal 0 1 0 0) 7 70))
owner_finds_by_its_x = simp evaluate refl

owner_without_x_does_not_find :
    (serial (tree_of (octal 0 6 7 7) 8) (Ask (Lookup (h 2) f) owner) (at 2) false).reply
    ≡ fails Access 1
owner_without_x_does_not_find = simp evaluate refl

member_finds_by_its_x :
    (serial (tree_of (octal 0 0 1 0) 8) (Ask (Lookup (h 2) f) member) (at 2) false).reply
    ≡ Success (LookupDone (h 3) (shown_of (file_shown 3 1 4096 1 1) (octal 0 6 4 4) 8 70) (shown_of (directory_shown 2 2 1) (octal 0 0 1 0) 7 70))
member_finds_by_its_x = simp evaluate refl

member_without_x_does_not_find :
    (serial (tree_of (octal 0 7 6 7) 8) (Ask (Lookup (h 2) f) member) (at 2) false).reply
    ≡ fails Access 1
member_without_x_does_not_find = simp evaluate refl

further_group_finds_by_its_x :
    (serial (tree_of (octal 0 0 1 0) 8) (Ask (Lookup (h 2) f) further) (at 2) false).reply
    ≡ Success (LookupDone (h 3) (shown_of (file_shown 3 1 4096 1 1) (octal 0 6 4 4) 8 70) (shown_of (directory_shown 2 2 1) (octal 0 0 1 0) 7 70))
further_group_finds_by_its_x = simp evaluate refl

further_group_without_x_does_not_find :
    (serial (tree_of (octal 0 7 6 7) 8) (Ask (Lookup (h 2) f) further) (at 2) false).reply
    ≡ fails Access 1
further_group_without_x_does_not_find = simp evaluate refl

sixteenth_further_group_finds_by_its_x :
    (serial (tree_of (octal 0 0 1 0) 8) (Ask (Lookup (h 2) f) sixteenth) (at 2) false).reply
    ≡ Success (LookupDone (h 3) (shown_of (file_shown 3 1 4096 1 1) (octal 0 6 4 4) 8 70) (shown_of (directory_shown 2 2 1) (octal 0 0 1 0) 7 70))
sixteenth_further_group_finds_by_its_x = simp evaluate refl

sixteenth_further_group_without_x_does_not_find :
    (serial (tree_of (octal 0 7 6 7) 8) (Ask (Lookup (h 2) f) sixteenth) (at 2) false).reply
    ≡ fails Access 1
sixteenth_further_group_without_x_does_not_find = simp evaluate refl

others_find_by_their_x :
    (serial (tree_of (octal 0 0 0 1) 8) (Ask (Lookup (h 2) f) other) (at 2) false).reply
    ≡ Success (LookupDone (h 3) (shown_of (file_shown 3 1 4096 1 1) (octal 0 6 4 4) 8 70) (shown_of (directory_shown 2 2 1) (octal 0 0 0 1) 7 70))
others_find_by_their_x = simp evaluate refl

others_without_x_do_not_find :
    (serial (tree_of (octal 0 7 7 6) 8) (Ask (Lookup (h 2) f) other) (at 2) false).reply
    ≡ fails Access 1
others_without_x_do_not_find = simp evaluate refl

uid_0_finds_whatever_the_mode :
    (serial (tree_of (octal 0 0 0 0) 8) (Ask (Lookup (h 2) f) uid_0) (at 2) false).reply
    ≡ Success (LookupDone (h 3) (shown_of (file_shown 3 1 4096 1 1) (octal 0 6 4 4) 8 70) (shown_of (directory_shown 2 2 1) (octal 0 0 0 0) 7 70))
uid_0_finds_whatever_the_mode = simp evaluate refl

lookup_of_dot_needs_x_too :
    (serial (tree_of (octal 0 7 7 6) 8) (Ask (Lookup (h 2) (46 ∷ [])) other) (at 2) false).reply
    ≡ fails Access 1
lookup_of_dot_needs_x_too = simp evaluate refl

-- STALE, NOTDIR, ACCES, NAMETOOLONG and NOENT come in this order
lookup_in_an_absent_directory :
    (serial (tree_of (octal 0 7 7 6) 8) (Ask (Lookup (h 9) (replicate 256 97)) other) (at 2) false).reply
    ≡ fails Stale 1
lookup_in_an_absent_directory = simp evaluate refl

lookup_in_a_file :
    (serial (file_of (octal 0 0 0 0)) (Ask (Lookup (h 2) (replicate 256 97)) other) (at 2) false).reply
    ≡ fails NotDirectory 1
lookup_in_a_file = simp evaluate refl

lookup_of_a_long_name_without_x :
    (serial (tree_of (octal 0 7 7 6) 8) (Ask (Lookup (h 2) (replicate 256 97)) other) (at 2) false).reply
    ≡ fails Access 1
lookup_of_a_long_name_without_x = simp evaluate refl

lookup_of_a_long_name_with_x :
    (serial (tree_of (octal 0 0 0 1) 8) (Ask (Lookup (h 2) (replicate 256 97)) other) (at 2) false).reply
    ≡ fails NameTooLong 1
lookup_of_a_long_name_with_x = simp evaluate refl

lookup_of_what_is_not_there_without_x :
    (serial (tree_of (octal 0 7 7 6) 8) (Ask (Lookup (h 2) b) other) (at 2) false).reply
    ≡ fails Access 1
lookup_of_what_is_not_there_without_x = simp evaluate refl

lookup_of_what_is_not_there_with_x :
    (serial (tree_of (octal 0 0 0 1) 8) (Ask (Lookup (h 2) b) other) (at 2) false).reply
    ≡ fails NoEntry 1
lookup_of_what_is_not_there_with_x = simp evaluate refl

-- ---- READDIR: by r of the directory

owner_lists_by_its_r :
    (serial (tree_of (octal 0 4 0 0) 8) (Ask (Readdir (h 2) 2 (replicate 8 0) 512) owner) (at 2) false).reply
    ≡ Success (ReaddirDone (shown_of (directory_shown 2 2 1) (octal 0 4 0 0) 7 70) (entry 3 f 3 ∷ []) true)
owner_lists_by_its_r = simp evaluate refl

owner_without_r_does_not_list :
    (serial (tree_of (octal 0 3 7 7) 8) (Ask (Readdir (h 2) 2 (replicate 8 0) 512) owner) (at 2) false).reply
    ≡ fails Access 1
owner_without_r_does_not_list = simp evaluate refl

member_lists_by_its_r :
    (serial (tree_of (octal 0 0 4 0) 8) (Ask (Readdir (h 2) 2 (replicate 8 0) 512) member) (at 2) false).reply
    ≡ Success (ReaddirDone (shown_of (directory_shown 2 2 1) (octal 0 0 4 0) 7 70) (entry 3 f 3 ∷ []) true)
member_lists_by_its_r = simp evaluate refl

member_without_r_does_not_list :
    (serial (tree_of (octal 0 7 3 7) 8) (Ask (Readdir (h 2) 2 (replicate 8 0) 512) member) (at 2) false).reply
    ≡ fails Access 1
member_without_r_does_not_list = simp evaluate refl

further_group_lists_by_its_r :
    (serial (tree_of (octal 0 0 4 0) 8) (Ask (Readdir (h 2) 2 (replicate 8 0) 512) further) (at 2) false).reply
    ≡ Success (ReaddirDone (shown_of (directory_shown 2 2 1) (octal 0 0 4 0) 7 70) (entry 3 f 3 ∷ []) true)
further_group_lists_by_its_r = simp evaluate refl

further_group_without_r_does_not_list :
    (serial (tree_of (octal 0 7 3 7) 8) (Ask (Readdir (h 2) 2 (replicate 8 0) 512) further) (at 2) false).reply
    ≡ fails Access 1
further_group_without_r_does_not_list = simp evaluate refl

sixteenth_further_group_lists_by_its_r :
    (serial (tree_of (octal 0 0 4 0) 8) (Ask (Readdir (h 2) 2 (replicate 8 0) 512) sixteenth) (at 2) false).reply
    ≡ Success (ReaddirDone (shown_of (directory_shown 2 2 1) (octal 0 0 4 0) 7 70) (entry 3 f 3 ∷ []) true)
sixteenth_further_group_lists_by_its_r = simp evaluate refl

sixteenth_further_group_without_r_does_not_list :
    (serial (tree_of (octal 0 7 3 7) 8) (Ask (Readdir (h 2) 2 (replicate 8 0) 512) sixteenth) (at 2) false).reply
    ≡ fails Access 1
sixteenth_further_group_without_r_does_not_list = simp evaluate refl

others_list_by_their_r :
    (serial (tree_of (octal 0 0 0 4) 8) (Ask (Readdir (h 2) 2 (replicate 8 0) 512) other) (at 2) false).reply
    ≡ Success (ReaddirDone (shown_of (directory_shown 2 2 1) (octal 0 0 0 4) 7 70) (entry 3 f 3 ∷ []) true)
others_list_by_their_r = simp evaluate refl

others_without_r_do_not_list :
    (serial (tree_of (octal 0 7 7 3) 8) (Ask (Readdir (h 2) 2 (replicate 8 0) 512) other) (at 2) false).reply
    ≡ fails Access 1
others_without_r_do_not_list = simp evaluate refl

uid_0_lists_whatever_the_mode :
    (serial (tree_of (octal 0 0 0 0) 8) (Ask (Readdir (h 2) 2 (replicate 8 0) 512) uid_0) (at 2) false).reply
    ≡ Success (ReaddirDone (shown_of (directory_shown 2 2 1) (octal 0 0 0 0) 7 70) (entry 3 f 3 ∷ []) true)
uid_0_lists_whatever_the_mode = simp evaluate refl

readdir_of_a_file_is_not_asked :
    (serial (file_of (octal 0 0 0 0)) (Ask (Readdir (h 2) 2 (replicate 8 0) 512) other) (at 2) false).reply
    ≡ fails NotDirectory 1
readdir_of_a_file_is_not_asked = simp evaluate refl

readdir_without_r_comes_before_its_cookie :
    (serial (tree_of (octal 0 7 7 3) 8) (Ask (Readdir (h 2) 2 (replicate 8 1) 512) other) (at 2) false).reply
    ≡ fails Access 1
readdir_without_r_comes_before_its_cookie = simp evaluate refl

readdir_of_another_cookie_with_r :
    (serial (tree_of (octal 0 0 0 4) 8) (Ask (Readdir (h 2) 2 (replicate 8 1) 512) other) (at 2) false).reply
    ≡ fails BadCookie 1
readdir_of_another_cookie_with_r = simp evaluate refl

-- ---- READDIRPLUS: by r of the directory, and its attributes and handles by x

others_list_all_by_r_and_x :
    (serial (tree_of (octal 0 0 0 5) 8) (Ask (Readdirplus (h 2) 2 (replicate 8 0) 512 4096) other) (at 2) false).reply
    ≡ Success (ReaddirplusDone (shown_of (directory_shown 2 2 1) (octal 0 0 0 5) 7 70) (f_and_more ∷ []) true)
others_list_all_by_r_and_x = simp evaluate refl

others_list_names_alone_without_x :
    (serial (tree_of (octal 0 7 7 4) 8) (Ask (Readdirplus (h 2) 2 (replicate 8 0) 512 4096) other) (at 2) false).reply
    ≡ Success (ReaddirplusDone (shown_of (directory_shown 2 2 1) (octal 0 7 7 4) 7 70) (f_alone ∷ []) true)
others_list_names_alone_without_x = simp evaluate refl

owner_lists_names_alone_without_x :
    (serial (tree_of (octal 0 6 7 7) 8) (Ask (Readdirplus (h 2) 2 (replicate 8 0) 512 4096) owner) (at 2) false).reply
    ≡ Success (ReaddirplusDone (shown_of (directory_shown 2 2 1) (octal 0 6 7 7) 7 70) (f_alone ∷ []) true)
owner_lists_names_alone_without_x = simp evaluate refl

others_without_r_do_not_list_all :
    (serial (tree_of (octal 0 7 7 3) 8) (Ask (Readdirplus (h 2) 2 (replicate 8 0) 512 4096) other) (at 2) false).reply
    ≡ fails Access 1
others_without_r_do_not_list_all = simp evaluate refl

uid_0_lists_all_whatever_the_mode :
    (serial (tree_of (octal 0 0 0 0) 8) (Ask (Readdirplus (h 2) 2 (replicate 8 0) 512 4096) uid_0) (at 2) false).reply
    ≡ Success (ReaddirplusDone (shown_of (directory_shown 2 2 1) (octal 0 0 0 0) 7 70) (f_and_more ∷ []) true)
uid_0_lists_all_whatever_the_mode = simp evaluate refl

readdirplus_of_a_file_is_not_asked :
    (serial (file_of (octal 0 0 0 0)) (Ask (Readdirplus (h 2) 2 (replicate 8 0) 512 4096) other) (at 2) false).reply
    ≡ fails NotDirectory 1
readdirplus_of_a_file_is_not_asked = simp evaluate refl

readdirplus_without_r_comes_before_its_cookie :
    (serial (tree_of (octal 0 7 7 3) 8) (Ask (Readdirplus (h 2) 2 (replicate 8 1) 512 4096) other) (at 2) false).reply
    ≡ fails Access 1
readdirplus_without_r_comes_before_its_cookie = simp evaluate refl

-- ---- MNT below a root: by x of the directories on the way

others_mount_by_x_of_the_way :
    (serial (nest_of (octal 0 0 0 1) 8) (Ask (MountBelow root (vol0 ++ 0x2f ∷ d ++ 0x2f ∷ e)) other) (at 2) false).reply
    ≡ Success (MountDone (h 3))
others_mount_by_x_of_the_way = simp evaluate refl

others_without_x_of_the_way_do_not_mount :
    (serial (nest_of (octal 0 7 7 6) 8) (Ask (MountBelow root (vol0 ++ 0x2f ∷ d ++ 0x2f ∷ e)) other) (at 2) false).reply
    ≡ fails Access 0
others_without_x_of_the_way_do_not_mount = simp evaluate refl

owner_without_x_of_the_way_does_not_mount :
    (serial (nest_of (octal 0 6 7 7) 8) (Ask (MountBelow root (vol0 ++ 0x2f ∷ d ++ 0x2f ∷ e)) owner) (at 2) false).reply
    ≡ fails Access 0
owner_without_x_of_the_way_does_not_mount = simp evaluate refl

uid_0_mounts_whatever_the_mode :
    (serial (nest_of (octal 0 0 0 0) 8) (Ask (MountBelow root (vol0 ++ 0x2f ∷ d ++ 0x2f ∷ e)) uid_0) (at 2) false).reply
    ≡ Success (MountDone (h 3))
uid_0_mounts_whatever_the_mode = simp evaluate refl

others_mount_a_directory_of_no_right :
    (serial (nest_of (octal 0 0 0 0) 8) (Ask (MountBelow root (vol0 ++ 0x2f ∷ d)) other) (at 2) false).reply
    ≡ Success (MountDone (h 2))
others_mount_a_directory_of_no_right = simp evaluate refl

mnt_of_what_is_not_there_without_x :
    (serial (nest_of (octal 0 7 7 6) 8) (Ask (MountBelow root (vol0 ++ 0x2f ∷ d ++ 0x2f ∷ x)) other) (at 2) false).reply
    ≡ fails Access 0
mnt_of_what_is_not_there_without_x = simp evaluate refl

mnt_of_what_is_not_there_with_x :
    (serial (nest_of (octal 0 0 0 1) 8) (Ask (MountBelow root (vol0 ++ 0x2f ∷ d ++ 0x2f ∷ x)) other) (at 2) false).reply
    ≡ fails NoEntry 0
mnt_of_what_is_not_there_with_x = simp evaluate refl

mnt_of_a_long_name_without_x :
    (serial (nest_of (octal 0 7 7 6) 8) (Ask (MountBelow root (vol0 ++ 0x2f ∷ d ++ 0x2f ∷ replicate 256 97)) other) (at 2) false).reply
    ≡ fails Access 0
mnt_of_a_long_name_without_x = simp evaluate refl

mnt_of_a_long_name_with_x :
    (serial (nest_of (octal 0 0 0 1) 8) (Ask (MountBelow root (vol0 ++ 0x2f ∷ d ++ 0x2f ∷ replicate 256 97)) other) (at 2) false).reply
    ≡ fails NameTooLong 0
mnt_of_a_long_name_with_x = simp evaluate refl

mnt_over_a_file_is_not_asked :
    (serial (file_of (octal 0 0 0 0)) (Ask (MountBelow root (vol0 ++ 0x2f ∷ a ++ 0x2f ∷ b)) other) (at 2) false).reply
    ≡ fails NotDirectory 0
mnt_over_a_file_is_not_asked = simp evaluate refl

unchecked_callers_mount_whatever_the_mode :
    (serial (nest_of (octal 0 0 0 0) 8) (Ask (MountBelow root (vol0 ++ 0x2f ∷ d ++ 0x2f ∷ e)) (free other)) (at 2) false).reply
    ≡ Success (MountDone (h 3))
unchecked_callers_mount_whatever_the_mode = simp evaluate refl

callers_that_only_read_mount :
    (serial (nest_of (octal 0 0 0 1) 8) (Ask (MountBelow root (vol0 ++ 0x2f ∷ d ++ 0x2f ∷ e)) (reader other)) (at 2) false).reply
    ≡ Success (MountDone (h 3))
callers_that_only_read_mount = simp evaluate refl
