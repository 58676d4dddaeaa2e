-- SETATTR, and the owner, the group and the mode of what is made and written (RFC 1813 sections 2.5, 3.3.2, 3.3.7, 3.3.8 and 3.3.9; POSIX,
-- chmod, chown, utimensat, open, mkdir, write, S_ISUID and S_ISGID).
use Rattle.std.proofs.Common.{◌≡◌, false, [], ◌∷◌, replicate, Some, None, refl}
use Rattle.nfs_model.specs.Types.{ServerTime, ClientTime, Unchecked, Guarded, Exclusive, Getattr, Setattr, Create, Mkdir, Ask, Success}
use Rattle.nfs_model.specs.Types.{GetattrDone, SetattrDone, MadeDone, NotPermitted, Access, Exists, Invalid, TooBig, Stale, NotSynchronous}
use Rattle.nfs_model.specs.Server.{File}
use Rattle.nfs_model.specs.Serial.Create.{no_attributes}
use Rattle.nfs_model.specs.Serial.Step.{serial}
use Rattle.nfs_laws.specs.lemmas.Evaluate.{evaluate}
use Rattle.nfs_laws.proofs.rows.Cases.{at, h, root, fails, a, d, f, write_at, entry, no_blocks, root_with, holding, with_file, narrow, root_shown}
use Rattle.nfs_laws.proofs.rows.Cases.{directory_shown, file_shown, before, changed}
use Rattle.nfs_laws.proofs.rows.Checked.{octal, user, owner, member, further, other, uid_0, owned, owned_file, owned_directory, file_of}
use Rattle.nfs_laws.proofs.rows.Checked.{directory_of, tree_of, shown_of, directory_changed, directory_kept}

-- ---- SETATTR of a mode: for the owner

owner_gives_a_mode :
    (serial (file_of (octal 0 0 0 0)) (Ask (Setattr (h 2) (record no_attributes { mode = Some (octal 0 6 0 0) }) None) owner) (at 2) false).reply
    ≡ Success (SetattrDone (changed (before 1 1 1) (shown_of (file_shown 2 1 4096 1 2) (octal 0 6 0 0) 7 70)))
owner_gives_a_mode = simp evaluate refl

others_give_no_mode :
    (serial (file_of (octal 0 7 7 7)) (Ask (Setattr (h 2) (record no_attributes { mode = Some (octal 0 7 7 7) }) None) other) (at 2) false).reply
    ≡ fails NotPermitted 2
others_give_no_mode = simp evaluate refl

member_gives_no_mode :
    (serial (file_of (octal 0 7 7 7)) (Ask (Setattr (h 2) (record no_attributes { mode = Some (octal 0 7 7 7) }) None) member) (at 2) false).reply
    ≡ fails NotPermitted 2
member_gives_no_mode = simp evaluate refl

uid_0_gives_a_mode :
    (serial (file_of (octal 0 0 0 0)) (Ask (Setattr (h 2) (record no_attributes { mode = Some (octal 0 6 0 0) }) None) uid_0) (at 2) false).reply
    ≡ Success (SetattrDone (changed (before 1 1 1) (shown_of (file_shown 2 1 4096 1 2) (octal 0 6 0 0) 7 70)))
uid_0_gives_a_mode = simp evaluate refl

owner_gives_a_directory_a_mode :
    (serial (directory_of (octal 0 0 0 0)) (Ask (Setattr (h 2) (record no_attributes { mode = Some (octal 0 7 0 0) }) None) owner) (at 2) false).reply
    ≡ Success (SetattrDone (changed (before 4096 1 1) (record (shown_of (directory_shown 2 2 1) (octal 0 7 0 0) 7 70) { ctime = at 2 })))
owner_gives_a_directory_a_mode = simp evaluate refl

others_give_a_directory_no_mode :
    (serial (directory_of (octal 0 7 7 7)) (Ask (Setattr (h 2) (record no_attributes { mode = Some (octal 0 7 7 7) }) None) other) (at 2) false).reply
    ≡ fails NotPermitted 2
others_give_a_directory_no_mode = simp evaluate refl

-- ---- of an owner: by the owner to itself, by uid 0 to any

owner_gives_a_file_to_itself :
    (serial (file_of (octal 0 6 4 4)) (Ask (Setattr (h 2) (record no_attributes { uid = Some 7 }) None) owner) (at 2) false).reply
    ≡ Success (SetattrDone (changed (before 1 1 1) (shown_of (file_shown 2 1 4096 1 2) (octal 0 6 4 4) 7 70)))
owner_gives_a_file_to_itself = simp evaluate refl

owner_gives_a_file_to_another :
    (serial (file_of (octal 0 6 4 4)) (Ask (Setattr (h 2) (record no_attributes { uid = Some 9 }) None) owner) (at 2) false).reply
    ≡ fails NotPermitted 2
owner_gives_a_file_to_another = simp evaluate refl

others_give_a_file_to_themselves :
    (serial (file_of (octal 0 7 7 7)) (Ask (Setattr (h 2) (record no_attributes { uid = Some 9 }) None) other) (at 2) false).reply
    ≡ fails NotPermitted 2
others_give_a_file_to_themselves = simp evaluate refl

others_give_a_file_to_its_owner :
    (serial (file_of (octal 0 7 7 7)) (Ask (Setattr (h 2) (record no_attributes { uid = Some 7 }) None) other) (at 2) false).reply
    ≡ fails NotPermitted 2
others_give_a_file_to_its_owner = simp evaluate refl

uid_0_gives_a_file_to_another :
    (serial (file_of (octal 0 6 4 4)) (Ask (Setattr (h 2) (record no_attributes { uid = Some 9 }) None) uid_0) (at 2) false).reply
    ≡ Success (SetattrDone (changed (before 1 1 1) (shown_of (file_shown 2 1 4096 1 2) (octal 0 6 4 4) 9 70)))
uid_0_gives_a_file_to_another = simp evaluate refl

owner_gives_a_directory_to_another :
    (serial (directory_of (octal 0 7 7 7)) (Ask (Setattr (h 2) (record no_attributes { uid = Some 9 }) None) owner) (at 2) false).reply
    ≡ fails NotPermitted 2
owner_gives_a_directory_to_another = simp evaluate refl

owner_gives_a_mode_and_another_owner :
    (serial (file_of (octal 0 6 4 4))
    (Ask (Setattr (h 2) (record no_attributes { mode = Some (octal 0 6 0 0); uid = Some 9 }) None) owner) (at 2) false).reply
    ≡ fails NotPermitted 2
owner_gives_a_mode_and_another_owner = simp evaluate refl

-- ---- of a group: by the owner, to one of its own, by uid 0 to any

owner_gives_its_own_group :
    (serial (file_of (octal 0 6 4 4)) (Ask (Setattr (h 2) (record no_attributes { gid = Some 70 }) None) owner) (at 2) false).reply
    ≡ Success (SetattrDone (changed (before 1 1 1) (shown_of (file_shown 2 1 4096 1 2) (octal 0 6 4 4) 7 70)))
owner_gives_its_own_group = simp evaluate refl

owner_gives_a_further_group :
    (serial (file_of (octal 0 6 4 4))
    (Ask (Setattr (h 2) (record no_attributes { gid = Some 72 }) None) (user 7 70 (71 ∷ (72 ∷ [])))) (at 2) false).reply
    ≡ Success (SetattrDone (changed (before 1 1 1) (shown_of (file_shown 2 1 4096 1 2) (octal 0 6 4 4) 7 72)))
owner_gives_a_further_group = simp evaluate refl

owner_gives_a_foreign_group :
    (serial (file_of (octal 0 6 4 4)) (Ask (Setattr (h 2) (record no_attributes { gid = Some 72 }) None) owner) (at 2) false).reply
    ≡ fails NotPermitted 2
owner_gives_a_foreign_group = simp evaluate refl

owner_of_another_group_gives_the_group_that_is_there :
    (serial (file_of (octal 0 6 4 4)) (Ask (Setattr (h 2) (record no_attributes { gid = Some 70 }) None) (user 7 71 [])) (at 2) false).reply
    ≡ Success (SetattrDone (changed (before 1 1 1) (shown_of (file_shown 2 1 4096 1 2) (octal 0 6 4 4) 7 70)))
owner_of_another_group_gives_the_group_that_is_there = simp evaluate refl

members_give_no_group :
    (serial (file_of (octal 0 7 7 7)) (Ask (Setattr (h 2) (record no_attributes { gid = Some 70 }) None) member) (at 2) false).reply
    ≡ fails NotPermitted 2
members_give_no_group = simp evaluate refl

others_give_no_group :
    (serial (file_of (octal 0 7 7 7)) (Ask (Setattr (h 2) (record no_attributes { gid = Some 90 }) None) other) (at 2) false).reply
    ≡ fails NotPermitted 2
others_give_no_group = simp evaluate refl

uid_0_gives_any_group :
    (serial (file_of (octal 0 6 4 4)) (Ask (Setattr (h 2) (record no_attributes { gid = Some 72 }) None) uid_0) (at 2) false).reply
    ≡ Success (SetattrDone (changed (before 1 1 1) (shown_of (file_shown 2 1 4096 1 2) (octal 0 6 4 4) 7 72)))
uid_0_gives_any_group = simp evaluate refl

owner_gives_a_directory_a_foreign_group :
    (serial (directory_of (octal 0 7 7 7)) (Ask (Setattr (h 2) (record no_attributes { gid = Some 72 }) None) owner) (at 2) false).reply
    ≡ fails NotPermitted 2
owner_gives_a_directory_a_foreign_group = simp evaluate refl

-- ---- of times: the client's for the owner, the server's by w

owner_gives_atime :
    (serial (file_of (octal 0 0 0 0)) (Ask (Setattr (h 2) (record no_attributes { atime = ClientTime (at 5) }) None) owner) (at 2) false).reply
    ≡ Success (SetattrDone (changed (before 1 1 1) (record (shown_of (file_shown 2 1 4096 1 2) (octal 0 0 0 0) 7 70) { atime = at 5 })))
owner_gives_atime = simp evaluate refl

owner_gives_mtime :
    (serial (file_of (octal 0 0 0 0)) (Ask (Setattr (h 2) (record no_attributes { mtime = ClientTime (at 6) }) None) owner) (at 2) false).reply
    ≡ Success (SetattrDone (changed (before 1 1 1) (record (shown_of (file_shown 2 1 4096 1 2) (octal 0 0 0 0) 7 70) { mtime = at 6 })))
owner_gives_mtime = simp evaluate refl

others_give_no_atime :
    (serial (file_of (octal 0 7 7 7)) (Ask (Setattr (h 2) (record no_attributes { atime = ClientTime (at 5) }) None) other) (at 2) false).reply
    ≡ fails NotPermitted 2
others_give_no_atime = simp evaluate refl

others_give_no_mtime :
    (serial (file_of (octal 0 7 7 7)) (Ask (Setattr (h 2) (record no_attributes { mtime = ClientTime (at 6) }) None) other) (at 2) false).reply
    ≡ fails NotPermitted 2
others_give_no_mtime = simp evaluate refl

others_give_no_mtime_beside_a_time_of_the_server :
    (serial (file_of (octal 0 7 7 7))
    (Ask (Setattr (h 2) (record no_attributes { atime = ServerTime; mtime = ClientTime (at 6) }) None) other) (at 2) false).reply
    ≡ fails NotPermitted 2
others_give_no_mtime_beside_a_time_of_the_server = simp evaluate refl

uid_0_gives_both_times :
    (serial (file_of (octal 0 0 0 0))
    (Ask (Setattr (h 2) (record no_attributes { atime = ClientTime (at 5); mtime = ClientTime (at 6) }) None) uid_0) (at 2) false).reply
    ≡ Success (SetattrDone (changed (before 1 1 1) (record (shown_of (file_shown 2 1 4096 1 2) (octal 0 0 0 0) 7 70) { atime = at 5; mtime = at 6 })))
uid_0_gives_both_times = simp evaluate refl

others_set_atime_by_w :
    (serial (file_of (octal 0 0 0 2)) (Ask (Setattr (h 2) (record no_attributes { atime = ServerTime }) None) other) (at 2) false).reply
    ≡ Success (SetattrDone (changed (before 1 1 1) (record (shown_of (file_shown 2 1 4096 1 2) (octal 0 0 0 2) 7 70) { atime = at 2 })))
others_set_atime_by_w = simp evaluate refl

others_set_mtime_by_w :
    (serial (file_of (octal 0 0 0 2)) (Ask (Setattr (h 2) (record no_attributes { mtime = ServerTime }) None) other) (at 2) false).reply
    ≡ Success (SetattrDone (changed (before 1 1 1) (record (shown_of (file_shown 2 1 4096 1 2) (octal 0 0 0 2) 7 70) { mtime = at 2 })))
others_set_mtime_by_w = simp evaluate refl

others_set_no_atime_without_w :
    (serial (file_of (octal 0 7 7 5)) (Ask (Setattr (h 2) (record no_attributes { atime = ServerTime }) None) other) (at 2) false).reply
    ≡ fails Access 2
others_set_no_atime_without_w = simp evaluate refl

others_set_no_mtime_without_w :
    (serial (file_of (octal 0 7 7 5)) (Ask (Setattr (h 2) (record no_attributes { mtime = ServerTime }) None) other) (at 2) false).reply
    ≡ fails Access 2
others_set_no_mtime_without_w = simp evaluate refl

owner_sets_times_without_w :
    (serial (file_of (octal 0 0 0 0))
    (Ask (Setattr (h 2) (record no_attributes { atime = ServerTime; mtime = ServerTime }) None) owner) (at 2) false).reply
    ≡ Success (SetattrDone (changed (before 1 1 1) (record (shown_of (file_shown 2 1 4096 1 2) (octal 0 0 0 0) 7 70) { atime = at 2; mtime = at 2 })))
owner_sets_times_without_w = simp evaluate refl

member_sets_mtime_by_its_w :
    (serial (file_of (octal 0 0 2 0)) (Ask (Setattr (h 2) (record no_attributes { mtime = ServerTime }) None) member) (at 2) false).reply
    ≡ Success (SetattrDone (changed (before 1 1 1) (record (shown_of (file_shown 2 1 4096 1 2) (octal 0 0 2 0) 7 70) { mtime = at 2 })))
member_sets_mtime_by_its_w = simp evaluate refl

uid_0_sets_mtime :
    (serial (file_of (octal 0 0 0 0)) (Ask (Setattr (h 2) (record no_attributes { mtime = ServerTime }) None) uid_0) (at 2) false).reply
    ≡ Success (SetattrDone (changed (before 1 1 1) (record (shown_of (file_shown 2 1 4096 1 2) (octal 0 0 0 0) 7 70) { mtime = at 2 })))
uid_0_sets_mtime = simp evaluate refl

-- ---- of a size, and of nothing: by w

others_set_a_size_by_w :
    (serial (file_of (octal 0 0 0 2)) (Ask (Setattr (h 2) (record no_attributes { size = Some 0 }) None) other) (at 2) false).reply
    ≡ Success (SetattrDone (changed (before 1 1 1) (record (shown_of (file_shown 2 1 4096 1 2)
    (octal 0 0 0 2) 7 70) { size = 0; used = 0; mtime = at 2 })))
others_set_a_size_by_w = simp evaluate refl

others_set_no_size_without_w :
    (serial (file_of (octal 0 7 7 5)) (Ask (Setattr (h 2) (record no_attributes { size = Some 0 }) None) other) (at 2) false).reply
    ≡ fails Access 2
others_set_no_size_without_w = simp evaluate refl

owner_sets_a_size_without_w :
    (serial (file_of (octal 0 0 0 0)) (Ask (Setattr (h 2) (record no_attributes { size = Some 0 }) None) owner) (at 2) false).reply
    ≡ Success (SetattrDone (changed (before 1 1 1) (record (shown_of (file_shown 2 1 4096 1 2)
    (octal 0 0 0 0) 7 70) { size = 0; used = 0; mtime = at 2 })))
owner_sets_a_size_without_w = simp evaluate refl

uid_0_sets_a_size_without_w :
    (serial (file_of (octal 0 0 0 0)) (Ask (Setattr (h 2) (record no_attributes { size = Some 0 }) None) uid_0) (at 2) false).reply
    ≡ Success (SetattrDone (changed (before 1 1 1) (record (shown_of (file_shown 2 1 4096 1 2)
    (octal 0 0 0 0) 7 70) { size = 0; used = 0; mtime = at 2 })))
uid_0_sets_a_size_without_w = simp evaluate refl

others_set_nothing_by_w :
    (serial (file_of (octal 0 0 0 2)) (Ask (Setattr (h 2) no_attributes None) other) (at 2) false).reply
    ≡ Success (SetattrDone (changed (before 1 1 1) (shown_of (file_shown 2 1 4096 1 2) (octal 0 0 0 2) 7 70)))
others_set_nothing_by_w = simp evaluate refl

others_do_not_set_nothing_without_w :
    (serial (file_of (octal 0 7 7 5)) (Ask (Setattr (h 2) no_attributes None) other) (at 2) false).reply
    ≡ fails Access 2
others_do_not_set_nothing_without_w = simp evaluate refl

owner_sets_nothing_without_w :
    (serial (file_of (octal 0 0 0 0)) (Ask (Setattr (h 2) no_attributes None) owner) (at 2) false).reply
    ≡ Success (SetattrDone (changed (before 1 1 1) (shown_of (file_shown 2 1 4096 1 2) (octal 0 0 0 0) 7 70)))
owner_sets_nothing_without_w = simp evaluate refl

others_give_a_mode_and_a_size_without_w :
    (serial (file_of (octal 0 7 7 5))
    (Ask (Setattr (h 2) (record no_attributes { mode = Some (octal 0 7 7 7); size = Some 0 }) None) other) (at 2) false).reply
    ≡ fails NotPermitted 2
others_give_a_mode_and_a_size_without_w = simp evaluate refl

owner_gives_a_mode_and_a_size :
    (serial (file_of (octal 0 0 0 0))
    (Ask (Setattr (h 2) (record no_attributes { mode = Some (octal 0 6 0 0); size = Some 0 }) None) owner) (at 2) false).reply
    ≡ Success (SetattrDone (changed (before 1 1 1) (record (shown_of (file_shown 2 1 4096 1 2)
    (octal 0 6 0 0) 7 70) { size = 0; used = 0; mtime = at 2 })))
owner_gives_a_mode_and_a_size = simp evaluate refl

-- STALE, PERM or ACCES, NOT_SYNC, INVAL and FBIG come in this order
setattr_of_an_absent_file :
    (serial (file_of (octal 0 0 0 0)) (Ask (Setattr (h 9) (record no_attributes { mode = Some (octal 0 7 7 7) }) None) other) (at 2) false).reply
    ≡ fails Stale 2
setattr_of_an_absent_file = simp evaluate refl

perm_comes_before_not_sync :
    (serial (file_of (octal 0 7 7 7))
    (Ask (Setattr (h 2) (record no_attributes { mode = Some (octal 0 7 7 7) }) (Some (at 9))) other) (at 2) false).reply
    ≡ fails NotPermitted 2
perm_comes_before_not_sync = simp evaluate refl

acces_comes_before_not_sync :
    (serial (file_of (octal 0 7 7 5)) (Ask (Setattr (h 2) (record no_attributes { size = Some 0 }) (Some (at 9))) other) (at 2) false).reply
    ≡ fails Access 2
acces_comes_before_not_sync = simp evaluate refl

not_sync_comes_by_w :
    (serial (file_of (octal 0 0 0 2)) (Ask (Setattr (h 2) (record no_attributes { size = Some 0 }) (Some (at 9))) other) (at 2) false).reply
    ≡ fails NotSynchronous 2
not_sync_comes_by_w = simp evaluate refl

perm_comes_before_a_bad_time :
    (serial (file_of (octal 0 7 7 7))
    (Ask (Setattr (h 2) (record no_attributes { atime = ClientTime (record { seconds = 1; nanoseconds = 1000000000 }) }) None) other)
    (at 2) false).reply
    ≡ fails NotPermitted 2
perm_comes_before_a_bad_time = simp evaluate refl

acces_comes_before_the_size_of_a_directory :
    (serial (directory_of (octal 0 7 7 5)) (Ask (Setattr (h 2) (record no_attributes { size = Some 0 }) None) other) (at 2) false).reply
    ≡ fails Access 2
acces_comes_before_the_size_of_a_directory = simp evaluate refl

size_of_a_directory_with_w :
    (serial (directory_of (octal 0 0 0 2)) (Ask (Setattr (h 2) (record no_attributes { size = Some 0 }) None) other) (at 2) false).reply
    ≡ fails Invalid 2
size_of_a_directory_with_w = simp evaluate refl

acces_comes_before_the_largest_size :
    (serial (narrow (owned_file (octal 0 7 7 5) 7 70)) (Ask (Setattr (h 2) (record no_attributes { size = Some 9 }) None) other) (at 2) false).reply
    ≡ fails Access 2
acces_comes_before_the_largest_size = simp evaluate refl

largest_size_with_w :
    (serial (narrow (owned_file (octal 0 0 0 2) 7 70)) (Ask (Setattr (h 2) (record no_attributes { size = Some 9 }) None) other) (at 2) false).reply
    ≡ fails TooBig 2
largest_size_with_w = simp evaluate refl

-- ---- SETATTR of a file: 02000 is given by those of the group

member_of_the_group_gives_02000 :
    (serial (file_of (octal 0 7 5 5)) (Ask (Setattr (h 2) (record no_attributes { mode = Some (octal 2 7 5 5) }) None) owner) (at 2) false).reply
    ≡ Success (SetattrDone (changed (before 1 1 1) (shown_of (file_shown 2 1 4096 1 2) (octal 2 7 5 5) 7 70)))
member_of_the_group_gives_02000 = simp evaluate refl

owner_by_a_further_group_gives_02000 :
    (serial (file_of (octal 0 7 5 5))
    (Ask (Setattr (h 2) (record no_attributes { mode = Some (octal 2 7 5 5) }) None) (user 7 71 (70 ∷ []))) (at 2) false).reply
    ≡ Success (SetattrDone (changed (before 1 1 1) (shown_of (file_shown 2 1 4096 1 2) (octal 2 7 5 5) 7 70)))
owner_by_a_further_group_gives_02000 = simp evaluate refl

owner_outside_the_group_gives_no_02000 :
    (serial (file_of (octal 0 7 5 5))
    (Ask (Setattr (h 2) (record no_attributes { mode = Some (octal 6 7 5 5) }) None) (user 7 71 [])) (at 2) false).reply
    ≡ Success (SetattrDone (changed (before 1 1 1) (shown_of (file_shown 2 1 4096 1 2) (octal 4 7 5 5) 7 70)))
owner_outside_the_group_gives_no_02000 = simp evaluate refl

uid_0_outside_the_group_gives_02000 :
    (serial (file_of (octal 0 7 5 5)) (Ask (Setattr (h 2) (record no_attributes { mode = Some (octal 6 7 5 5) }) None) uid_0) (at 2) false).reply
    ≡ Success (SetattrDone (changed (before 1 1 1) (shown_of (file_shown 2 1 4096 1 2) (octal 6 7 5 5) 7 70)))
uid_0_outside_the_group_gives_02000 = simp evaluate refl

owner_gives_02000_with_its_own_group :
    (serial (file_of (octal 0 7 5 5))
    (Ask (Setattr (h 2) (record no_attributes { mode = Some (octal 2 7 5 5); gid = Some 71 }) None) (user 7 71 [])) (at 2) false).reply
    ≡ Success (SetattrDone (changed (before 1 1 1) (shown_of (file_shown 2 1 4096 1 2) (octal 2 7 5 5) 7 71)))
owner_gives_02000_with_its_own_group = simp evaluate refl

owner_outside_the_group_gives_a_directory_02000 :
    (serial (directory_of (octal 0 7 5 5))
    (Ask (Setattr (h 2) (record no_attributes { mode = Some (octal 2 7 5 5) }) None) (user 7 71 [])) (at 2) false).reply
    ≡ Success (SetattrDone (changed (before 4096 1 1) (record (shown_of (directory_shown 2 2 1) (octal 2 7 5 5) 7 70) { ctime = at 2 })))
owner_outside_the_group_gives_a_directory_02000 = simp evaluate refl

-- ---- SETATTR of a file without a mode: the set-id bits go with a new owner, group or size

new_owner_by_uid_0_clears_04000 :
    (serial (file_of (octal 4 7 5 5)) (Ask (Setattr (h 2) (record no_attributes { uid = Some 9 }) None) uid_0) (at 2) false).reply
    ≡ Success (SetattrDone (changed (before 1 1 1) (shown_of (file_shown 2 1 4096 1 2) (octal 0 7 5 5) 9 70)))
new_owner_by_uid_0_clears_04000 = simp evaluate refl

new_owner_clears_02000_where_the_group_has_x :
    (serial (file_of (octal 6 7 5 5)) (Ask (Setattr (h 2) (record no_attributes { uid = Some 9 }) None) uid_0) (at 2) false).reply
    ≡ Success (SetattrDone (changed (before 1 1 1) (shown_of (file_shown 2 1 4096 1 2) (octal 0 7 5 5) 9 70)))
new_owner_clears_02000_where_the_group_has_x = simp evaluate refl

new_owner_keeps_02000_where_the_group_has_no_x :
    (serial (file_of (octal 6 7 4 5)) (Ask (Setattr (h 2) (record no_attributes { uid = Some 9 }) None) uid_0) (at 2) false).reply
    ≡ Success (SetattrDone (changed (before 1 1 1) (shown_of (file_shown 2 1 4096 1 2) (octal 2 7 4 5) 9 70)))
new_owner_keeps_02000_where_the_group_has_no_x = simp evaluate refl

new_owner_keeps_01000 :
    (serial (file_of (octal 5 7 5 5)) (Ask (Setattr (h 2) (record no_attributes { uid = Some 9 }) None) uid_0) (at 2) false).reply
    ≡ Success (SetattrDone (changed (before 1 1 1) (shown_of (file_shown 2 1 4096 1 2) (octal 1 7 5 5) 9 70)))
new_owner_keeps_01000 = simp evaluate refl

new_owner_and_a_mode :
    (serial (file_of (octal 0 7 5 5))
    (Ask (Setattr (h 2) (record no_attributes { mode = Some (octal 4 7 5 5); uid = Some 9 }) None) uid_0) (at 2) false).reply
    ≡ Success (SetattrDone (changed (before 1 1 1) (shown_of (file_shown 2 1 4096 1 2) (octal 4 7 5 5) 9 70)))
new_owner_and_a_mode = simp evaluate refl

same_owner_clears_04000 :
    (serial (file_of (octal 4 7 5 5)) (Ask (Setattr (h 2) (record no_attributes { uid = Some 7 }) None) owner) (at 2) false).reply
    ≡ Success (SetattrDone (changed (before 1 1 1) (shown_of (file_shown 2 1 4096 1 2) (octal 0 7 5 5) 7 70)))
same_owner_clears_04000 = simp evaluate refl

new_group_clears_04000 :
    (serial (file_of (octal 4 7 5 5)) (Ask (Setattr (h 2) (record no_attributes { gid = Some 71 }) None) (user 7 70 (71 ∷ []))) (at 2) false).reply
    ≡ Success (SetattrDone (changed (before 1 1 1) (shown_of (file_shown 2 1 4096 1 2) (octal 0 7 5 5) 7 71)))
new_group_clears_04000 = simp evaluate refl

new_group_by_uid_0_clears_04000 :
    (serial (file_of (octal 4 7 5 5)) (Ask (Setattr (h 2) (record no_attributes { gid = Some 71 }) None) uid_0) (at 2) false).reply
    ≡ Success (SetattrDone (changed (before 1 1 1) (shown_of (file_shown 2 1 4096 1 2) (octal 0 7 5 5) 7 71)))
new_group_by_uid_0_clears_04000 = simp evaluate refl

new_size_by_the_owner_clears_04000 :
    (serial (file_of (octal 4 7 5 5)) (Ask (Setattr (h 2) (record no_attributes { size = Some 1 }) None) owner) (at 2) false).reply
    ≡ Success (SetattrDone (changed (before 1 1 1) (record (shown_of (file_shown 2 1 4096 1 2) (octal 0 7 5 5) 7 70) { mtime = at 2 })))
new_size_by_the_owner_clears_04000 = simp evaluate refl

new_size_by_others_clears_both :
    (serial (file_of (octal 6 7 7 7)) (Ask (Setattr (h 2) (record no_attributes { size = Some 1 }) None) other) (at 2) false).reply
    ≡ Success (SetattrDone (changed (before 1 1 1) (record (shown_of (file_shown 2 1 4096 1 2) (octal 0 7 7 7) 7 70) { mtime = at 2 })))
new_size_by_others_clears_both = simp evaluate refl

new_size_by_uid_0_keeps_both :
    (serial (file_of (octal 6 7 7 7)) (Ask (Setattr (h 2) (record no_attributes { size = Some 1 }) None) uid_0) (at 2) false).reply
    ≡ Success (SetattrDone (changed (before 1 1 1) (record (shown_of (file_shown 2 1 4096 1 2) (octal 6 7 7 7) 7 70) { mtime = at 2 })))
new_size_by_uid_0_keeps_both = simp evaluate refl

new_size_and_a_mode_by_the_owner :
    (serial (file_of (octal 0 7 5 5))
    (Ask (Setattr (h 2) (record no_attributes { mode = Some (octal 4 7 5 5); size = Some 1 }) None) owner) (at 2) false).reply
    ≡ Success (SetattrDone (changed (before 1 1 1) (record (shown_of (file_shown 2 1 4096 1 2) (octal 4 7 5 5) 7 70) { mtime = at 2 })))
new_size_and_a_mode_by_the_owner = simp evaluate refl

times_keep_both :
    (serial (file_of (octal 6 7 7 7)) (Ask (Setattr (h 2) (record no_attributes { mtime = ServerTime }) None) other) (at 2) false).reply
    ≡ Success (SetattrDone (changed (before 1 1 1) (record (shown_of (file_shown 2 1 4096 1 2) (octal 6 7 7 7) 7 70) { mtime = at 2 })))
times_keep_both = simp evaluate refl

new_owner_of_a_directory_keeps_both :
    (serial (directory_of (octal 6 7 5 5)) (Ask (Setattr (h 2) (record no_attributes { uid = Some 9 }) None) uid_0) (at 2) false).reply
    ≡ Success (SetattrDone (changed (before 4096 1 1) (record (shown_of (directory_shown 2 2 1) (octal 6 7 5 5) 9 70) { ctime = at 2 })))
new_owner_of_a_directory_keeps_both = simp evaluate refl

new_group_of_a_directory_keeps_both :
    (serial (directory_of (octal 6 7 5 5))
    (Ask (Setattr (h 2) (record no_attributes { gid = Some 71 }) None) (user 7 70 (71 ∷ []))) (at 2) false).reply
    ≡ Success (SetattrDone (changed (before 4096 1 1) (record (shown_of (directory_shown 2 2 1) (octal 6 7 5 5) 7 71) { ctime = at 2 })))
new_group_of_a_directory_keeps_both = simp evaluate refl

-- ---- WRITE: the set-id bits go

write_by_others_clears_both :
    (serial ((serial (file_of (octal 6 7 7 7)) (Ask (write_at 2 0 (6 ∷ [])) other) (at 2) false).server)
    (Ask (Getattr (h 2)) other) (at 3) false).reply
    ≡ Success (GetattrDone (shown_of (file_shown 2 1 4096 2 2) (octal 0 7 7 7) 7 70))
write_by_others_clears_both = simp evaluate refl

write_by_the_owner_clears_04000 :
    (serial ((serial (file_of (octal 4 7 5 5)) (Ask (write_at 2 0 (6 ∷ [])) owner) (at 2) false).server)
    (Ask (Getattr (h 2)) owner) (at 3) false).reply
    ≡ Success (GetattrDone (shown_of (file_shown 2 1 4096 2 2) (octal 0 7 5 5) 7 70))
write_by_the_owner_clears_04000 = simp evaluate refl

write_keeps_02000_where_the_group_has_no_x :
    (serial ((serial (file_of (octal 6 7 4 7)) (Ask (write_at 2 0 (6 ∷ [])) owner) (at 2) false).server)
    (Ask (Getattr (h 2)) owner) (at 3) false).reply
    ≡ Success (GetattrDone (shown_of (file_shown 2 1 4096 2 2) (octal 2 7 4 7) 7 70))
write_keeps_02000_where_the_group_has_no_x = simp evaluate refl

write_by_uid_0_keeps_both :
    (serial ((serial (file_of (octal 6 7 7 7)) (Ask (write_at 2 0 (6 ∷ [])) uid_0) (at 2) false).server)
    (Ask (Getattr (h 2)) other) (at 3) false).reply
    ≡ Success (GetattrDone (shown_of (file_shown 2 1 4096 2 2) (octal 6 7 7 7) 7 70))
write_by_uid_0_keeps_both = simp evaluate refl

write_of_nothing_keeps_both :
    (serial ((serial (file_of (octal 6 7 7 7)) (Ask (write_at 2 0 []) other) (at 2) false).server) (Ask (Getattr (h 2)) other) (at 3) false).reply
    ≡ Success (GetattrDone (shown_of (file_shown 2 1 4096 1 1) (octal 6 7 7 7) 7 70))
write_of_nothing_keeps_both = simp evaluate refl

write_that_is_refused_keeps_both :
    (serial ((serial (file_of (octal 6 7 7 5)) (Ask (write_at 2 0 (6 ∷ [])) other) (at 2) false).server)
    (Ask (Getattr (h 2)) other) (at 3) false).reply
    ≡ Success (GetattrDone (shown_of (file_shown 2 1 4096 1 1) (octal 6 7 7 5) 7 70))
write_that_is_refused_keeps_both = simp evaluate refl

-- ---- CREATE: whose the new file is

another_uid_is_not_taken :
    (serial (tree_of (octal 0 7 7 7) 8) (Ask (Create (h 2) a (Guarded (record no_attributes { uid = Some 8 }))) other) (at 2) false).reply
    ≡ Success (MadeDone (h 4) (record (shown_of (file_shown 4 0 0 2 2) (octal 0 6 4 4) 9 90) { atime = at 2 })
    (directory_changed 2 (octal 0 7 7 7) 2))
another_uid_is_not_taken = simp evaluate refl

uid_0_is_not_taken :
    (serial (tree_of (octal 0 7 7 7) 8) (Ask (Create (h 2) a (Guarded (record no_attributes { uid = Some 0 }))) other) (at 2) false).reply
    ≡ Success (MadeDone (h 4) (record (shown_of (file_shown 4 0 0 2 2) (octal 0 6 4 4) 9 90) { atime = at 2 })
    (directory_changed 2 (octal 0 7 7 7) 2))
uid_0_is_not_taken = simp evaluate refl

own_uid_is_taken :
    (serial (tree_of (octal 0 7 7 7) 8) (Ask (Create (h 2) a (Guarded (record no_attributes { uid = Some 9 }))) other) (at 2) false).reply
    ≡ Success (MadeDone (h 4) (record (shown_of (file_shown 4 0 0 2 2) (octal 0 6 4 4) 9 90) { atime = at 2 })
    (directory_changed 2 (octal 0 7 7 7) 2))
own_uid_is_taken = simp evaluate refl

uid_0_gives_another_uid :
    (serial (tree_of (octal 0 7 7 7) 8) (Ask (Create (h 2) a (Guarded (record no_attributes { uid = Some 8 }))) uid_0) (at 2) false).reply
    ≡ Success (MadeDone (h 4) (record (shown_of (file_shown 4 0 0 2 2) (octal 0 6 4 4) 8 0) { atime = at 2 }) (directory_changed 2 (octal 0 7 7 7) 2))
uid_0_gives_another_uid = simp evaluate refl

foreign_gid_is_not_taken :
    (serial (tree_of (octal 0 7 7 7) 8) (Ask (Create (h 2) a (Guarded (record no_attributes { gid = Some 70 }))) other) (at 2) false).reply
    ≡ Success (MadeDone (h 4) (record (shown_of (file_shown 4 0 0 2 2) (octal 0 6 4 4) 9 90) { atime = at 2 })
    (directory_changed 2 (octal 0 7 7 7) 2))
foreign_gid_is_not_taken = simp evaluate refl

further_gid_is_taken :
    (serial (tree_of (octal 0 7 7 7) 8) (Ask (Create (h 2) a (Guarded (record no_attributes { gid = Some 70 }))) further) (at 2) false).reply
    ≡ Success (MadeDone (h 4) (record (shown_of (file_shown 4 0 0 2 2) (octal 0 6 4 4) 9 70) { atime = at 2 })
    (directory_changed 2 (octal 0 7 7 7) 2))
further_gid_is_taken = simp evaluate refl

uid_0_gives_any_gid :
    (serial (tree_of (octal 0 7 7 7) 8) (Ask (Create (h 2) a (Guarded (record no_attributes { gid = Some 80 }))) uid_0) (at 2) false).reply
    ≡ Success (MadeDone (h 4) (record (shown_of (file_shown 4 0 0 2 2) (octal 0 6 4 4) 0 80) { atime = at 2 })
    (directory_changed 2 (octal 0 7 7 7) 2))
uid_0_gives_any_gid = simp evaluate refl

file_in_a_directory_with_02000_has_its_group :
    (serial (tree_of (octal 2 7 7 7) 8) (Ask (Create (h 2) a (Guarded no_attributes)) other) (at 2) false).reply
    ≡ Success (MadeDone (h 4) (record (shown_of (file_shown 4 0 0 2 2) (octal 0 6 4 4) 9 70) { atime = at 2 })
    (directory_changed 2 (octal 2 7 7 7) 2))
file_in_a_directory_with_02000_has_its_group = simp evaluate refl

file_of_uid_0_in_a_directory_with_02000_has_its_group :
    (serial (tree_of (octal 2 7 7 7) 8) (Ask (Create (h 2) a (Guarded no_attributes)) uid_0) (at 2) false).reply
    ≡ Success (MadeDone (h 4) (record (shown_of (file_shown 4 0 0 2 2) (octal 0 6 4 4) 0 70) { atime = at 2 })
    (directory_changed 2 (octal 2 7 7 7) 2))
file_of_uid_0_in_a_directory_with_02000_has_its_group = simp evaluate refl

foreign_gid_in_a_directory_with_02000_is_not_taken :
    (serial (tree_of (octal 2 7 7 7) 8) (Ask (Create (h 2) a (Guarded (record no_attributes { gid = Some 80 }))) other) (at 2) false).reply
    ≡ Success (MadeDone (h 4) (record (shown_of (file_shown 4 0 0 2 2) (octal 0 6 4 4) 9 70) { atime = at 2 })
    (directory_changed 2 (octal 2 7 7 7) 2))
foreign_gid_in_a_directory_with_02000_is_not_taken = simp evaluate refl

own_gid_in_a_directory_with_02000_is_taken :
    (serial (tree_of (octal 2 7 7 7) 8) (Ask (Create (h 2) a (Guarded (record no_attributes { gid = Some 90 }))) other) (at 2) false).reply
    ≡ Success (MadeDone (h 4) (record (shown_of (file_shown 4 0 0 2 2) (octal 0 6 4 4) 9 90) { atime = at 2 })
    (directory_changed 2 (octal 2 7 7 7) 2))
own_gid_in_a_directory_with_02000_is_taken = simp evaluate refl

exclusive_file_in_a_directory_with_02000_has_its_group :
    (serial (tree_of (octal 2 7 7 7) 8) (Ask (Create (h 2) a (Exclusive (replicate 8 1))) other) (at 2) false).reply
    ≡ Success (MadeDone (h 4) (record (shown_of (file_shown 4 0 0 2 2) (octal 0 6 4 4) 9 70) { atime = at 2 })
    (directory_changed 2 (octal 2 7 7 7) 2))
exclusive_file_in_a_directory_with_02000_has_its_group = simp evaluate refl

file_with_02000_of_its_own_group :
    (serial (tree_of (octal 0 7 7 7) 8)
    (Ask (Create (h 2) a (Guarded (record no_attributes { mode = Some (octal 6 7 5 5) }))) other) (at 2) false).reply
    ≡ Success (MadeDone (h 4) (record (shown_of (file_shown 4 0 0 2 2) (octal 6 7 5 5) 9 90) { atime = at 2 })
    (directory_changed 2 (octal 0 7 7 7) 2))
file_with_02000_of_its_own_group = simp evaluate refl

file_of_a_foreign_group_has_no_02000 :
    (serial (tree_of (octal 2 7 7 7) 8)
    (Ask (Create (h 2) a (Guarded (record no_attributes { mode = Some (octal 6 7 5 5) }))) other) (at 2) false).reply
    ≡ Success (MadeDone (h 4) (record (shown_of (file_shown 4 0 0 2 2) (octal 4 7 5 5) 9 70) { atime = at 2 })
    (directory_changed 2 (octal 2 7 7 7) 2))
file_of_a_foreign_group_has_no_02000 = simp evaluate refl

file_of_a_further_group_has_02000 :
    (serial (tree_of (octal 2 7 7 7) 8)
    (Ask (Create (h 2) a (Guarded (record no_attributes { mode = Some (octal 6 7 5 5) }))) further) (at 2) false).reply
    ≡ Success (MadeDone (h 4) (record (shown_of (file_shown 4 0 0 2 2) (octal 6 7 5 5) 9 70) { atime = at 2 })
    (directory_changed 2 (octal 2 7 7 7) 2))
file_of_a_further_group_has_02000 = simp evaluate refl

file_of_uid_0_of_a_foreign_group_has_02000 :
    (serial (tree_of (octal 2 7 7 7) 8)
    (Ask (Create (h 2) a (Guarded (record no_attributes { mode = Some (octal 6 7 5 5) }))) uid_0) (at 2) false).reply
    ≡ Success (MadeDone (h 4) (record (shown_of (file_shown 4 0 0 2 2) (octal 6 7 5 5) 0 70) { atime = at 2 })
    (directory_changed 2 (octal 2 7 7 7) 2))
file_of_uid_0_of_a_foreign_group_has_02000 = simp evaluate refl

times_of_the_client_are_taken :
    (serial (tree_of (octal 0 7 7 7) 8)
    (Ask (Create (h 2) a (Guarded (record no_attributes { atime = ClientTime (at 5); mtime = ClientTime (at 6) }))) other) (at 2) false).reply
    ≡ Success (MadeDone (h 4) (record (shown_of (file_shown 4 0 0 2 2) (octal 0 6 4 4) 9 90) { atime = at 5; mtime = at 6 })
    (directory_changed 2 (octal 0 7 7 7) 2))
times_of_the_client_are_taken = simp evaluate refl

unchecked_creation_of_a_new_file_takes_its_mode :
    (serial (tree_of (octal 0 7 7 7) 8)
    (Ask (Create (h 2) a (Unchecked (record no_attributes { mode = Some (octal 0 6 0 0); size = Some 3 }))) other) (at 2) false).reply
    ≡ Success (MadeDone (h 4) (record (shown_of (file_shown 4 3 0 2 2) (octal 0 6 0 0) 9 90) { atime = at 2 })
    (directory_changed 2 (octal 0 7 7 7) 2))
unchecked_creation_of_a_new_file_takes_its_mode = simp evaluate refl

-- ---- MKDIR: whose the new directory is

directory_of_another_uid_and_gid :
    (serial (tree_of (octal 0 7 7 7) 8) (Ask (Mkdir (h 2) a (record no_attributes { uid = Some 8; gid = Some 70 })) other) (at 2) false).reply
    ≡ Success (MadeDone (h 4) (shown_of (directory_shown 4 2 2) (octal 0 7 5 5) 9 90) (directory_changed 2 (octal 0 7 7 7) 3))
directory_of_another_uid_and_gid = simp evaluate refl

directory_of_another_uid_and_gid_by_uid_0 :
    (serial (tree_of (octal 0 7 7 7) 8) (Ask (Mkdir (h 2) a (record no_attributes { uid = Some 8; gid = Some 80 })) uid_0) (at 2) false).reply
    ≡ Success (MadeDone (h 4) (shown_of (directory_shown 4 2 2) (octal 0 7 5 5) 8 80) (directory_changed 2 (octal 0 7 7 7) 3))
directory_of_another_uid_and_gid_by_uid_0 = simp evaluate refl

directory_in_one_with_02000_has_its_group_and_the_bit :
    (serial (tree_of (octal 2 7 7 7) 8) (Ask (Mkdir (h 2) a no_attributes) other) (at 2) false).reply
    ≡ Success (MadeDone (h 4) (shown_of (directory_shown 4 2 2) (octal 2 7 5 5) 9 70) (directory_changed 2 (octal 2 7 7 7) 3))
directory_in_one_with_02000_has_its_group_and_the_bit = simp evaluate refl

directory_in_one_with_02000_has_the_bit_whatever_its_mode :
    (serial (tree_of (octal 2 7 7 7) 8) (Ask (Mkdir (h 2) a (record no_attributes { mode = Some (octal 0 7 0 0) })) other) (at 2) false).reply
    ≡ Success (MadeDone (h 4) (shown_of (directory_shown 4 2 2) (octal 2 7 0 0) 9 70) (directory_changed 2 (octal 2 7 7 7) 3))
directory_in_one_with_02000_has_the_bit_whatever_its_mode = simp evaluate refl

directory_with_02000_in_one_with_the_bit :
    (serial (tree_of (octal 2 7 7 7) 8) (Ask (Mkdir (h 2) a (record no_attributes { mode = Some (octal 2 7 0 0) })) other) (at 2) false).reply
    ≡ Success (MadeDone (h 4) (shown_of (directory_shown 4 2 2) (octal 2 7 0 0) 9 70) (directory_changed 2 (octal 2 7 7 7) 3))
directory_with_02000_in_one_with_the_bit = simp evaluate refl

directory_of_another_group_in_one_with_02000_has_the_bit :
    (serial (tree_of (octal 2 7 7 7) 8) (Ask (Mkdir (h 2) a (record no_attributes { gid = Some 90 })) other) (at 2) false).reply
    ≡ Success (MadeDone (h 4) (shown_of (directory_shown 4 2 2) (octal 2 7 5 5) 9 90) (directory_changed 2 (octal 2 7 7 7) 3))
directory_of_another_group_in_one_with_02000_has_the_bit = simp evaluate refl

directory_with_02000_of_its_own_group :
    (serial (tree_of (octal 0 7 7 7) 8) (Ask (Mkdir (h 2) a (record no_attributes { mode = Some (octal 2 7 5 5) })) other) (at 2) false).reply
    ≡ Success (MadeDone (h 4) (shown_of (directory_shown 4 2 2) (octal 2 7 5 5) 9 90) (directory_changed 2 (octal 0 7 7 7) 3))
directory_with_02000_of_its_own_group = simp evaluate refl

directory_in_one_without_02000_has_no_bit :
    (serial (tree_of (octal 5 7 7 7) 8) (Ask (Mkdir (h 2) a no_attributes) other) (at 2) false).reply
    ≡ Success (MadeDone (h 4) (shown_of (directory_shown 4 2 2) (octal 0 7 5 5) 9 90) (directory_changed 2 (octal 5 7 7 7) 3))
directory_in_one_without_02000_has_no_bit = simp evaluate refl

-- ---- CREATE over a file that is there: what UNCHECKED sets is its size, by w

creation_over_a_file_without_w_tells :
    (serial (holding 4 ((1, root_with 4 (entry 3 d 2 ∷ [])) ∷
    ((2, owned_directory (octal 0 0 0 1) 7 70 4 (entry 3 f 3 ∷ [])) ∷ ((3, owned_file (octal 0 6 0 0) 8 70) ∷ []))))
    (Ask (Create (h 2) f (Unchecked no_attributes)) other) (at 2) false).reply
    ≡ Success (MadeDone (h 3) (shown_of (file_shown 3 1 4096 1 1) (octal 0 6 0 0) 8 70) (directory_kept 2 (octal 0 0 0 1) 2))
creation_over_a_file_without_w_tells = simp evaluate refl

creation_over_a_file_without_a_size_changes_nothing :
    (serial ((serial (holding 4 ((1, root_with 4 (entry 3 d 2 ∷ [])) ∷
    ((2, owned_directory (octal 0 0 0 1) 7 70 4 (entry 3 f 3 ∷ [])) ∷ ((3, owned_file (octal 0 6 0 0) 8 70) ∷ []))))
    (Ask (Create (h 2) f (Unchecked (record no_attributes { mode = Some (octal 0 7 7 7); mtime = ClientTime (at 9) }))) other) (at 2) false).server)
    (Ask (Getattr (h 3)) other) (at 3) false).reply
    ≡ Success (GetattrDone (shown_of (file_shown 3 1 4096 1 1) (octal 0 6 0 0) 8 70))
creation_over_a_file_without_a_size_changes_nothing = simp evaluate refl

creation_over_a_file_with_a_size_without_w :
    (serial (holding 4 ((1, root_with 4 (entry 3 d 2 ∷ [])) ∷
    ((2, owned_directory (octal 0 0 0 1) 7 70 4 (entry 3 f 3 ∷ [])) ∷ ((3, owned_file (octal 0 7 5 5) 8 70) ∷ []))))
    (Ask (Create (h 2) f (Unchecked (record no_attributes { size = Some 0 }))) other) (at 2) false).reply
    ≡ fails Access 2
creation_over_a_file_with_a_size_without_w = simp evaluate refl

creation_over_a_file_with_a_size_by_w :
    (serial (holding 4 ((1, root_with 4 (entry 3 d 2 ∷ [])) ∷
    ((2, owned_directory (octal 0 0 0 1) 7 70 4 (entry 3 f 3 ∷ [])) ∷ ((3, owned_file (octal 0 0 0 2) 8 70) ∷ []))))
    (Ask (Create (h 2) f (Unchecked (record no_attributes { size = Some 0 }))) other) (at 2) false).reply
    ≡ Success (MadeDone (h 3) (record (shown_of (file_shown 3 1 4096 1 2) (octal 0 0 0 2) 8 70) { size = 0; used = 0; mtime = at 2 })
    (directory_kept 2 (octal 0 0 0 1) 2))
creation_over_a_file_with_a_size_by_w = simp evaluate refl

creation_over_a_file_with_a_size_by_its_owner :
    (serial (holding 4 ((1, root_with 4 (entry 3 d 2 ∷ [])) ∷
    ((2, owned_directory (octal 0 0 0 1) 7 70 4 (entry 3 f 3 ∷ [])) ∷ ((3, owned_file (octal 0 0 0 0) 8 70) ∷ []))))
    (Ask (Create (h 2) f (Unchecked (record no_attributes { size = Some 0 }))) (user 8 80 [])) (at 2) false).reply
    ≡ Success (MadeDone (h 3) (record (shown_of (file_shown 3 1 4096 1 2) (octal 0 0 0 0) 8 70) { size = 0; used = 0; mtime = at 2 })
    (directory_kept 2 (octal 0 0 0 1) 2))
creation_over_a_file_with_a_size_by_its_owner = simp evaluate refl

creation_over_a_file_with_a_size_by_uid_0 :
    (serial (holding 4 ((1, root_with 4 (entry 3 d 2 ∷ [])) ∷
    ((2, owned_directory (octal 0 0 0 1) 7 70 4 (entry 3 f 3 ∷ [])) ∷ ((3, owned_file (octal 0 0 0 0) 8 70) ∷ []))))
    (Ask (Create (h 2) f (Unchecked (record no_attributes { size = Some 0 }))) uid_0) (at 2) false).reply
    ≡ Success (MadeDone (h 3) (record (shown_of (file_shown 3 1 4096 1 2) (octal 0 0 0 0) 8 70) { size = 0; used = 0; mtime = at 2 })
    (directory_kept 2 (octal 0 0 0 1) 2))
creation_over_a_file_with_a_size_by_uid_0 = simp evaluate refl

creation_over_a_file_sets_no_mode_and_times :
    (serial (holding 4 ((1, root_with 4 (entry 3 d 2 ∷ [])) ∷
    ((2, owned_directory (octal 0 0 0 1) 7 70 4 (entry 3 f 3 ∷ [])) ∷ ((3, owned_file (octal 0 6 0 2) 8 70) ∷ []))))
    (Ask (Create (h 2) f (Unchecked (record no_attributes {
      mode = Some
          (octal 0 7 7 7);
      uid = Some 9;
      gid = Some 90;
      size = Some 0;
      atime = ClientTime (at 5);
      mtime = ClientTime (at 6);
    }))) other) (at 2) false).reply
    ≡ Success (MadeDone (h 3) (record (shown_of (file_shown 3 1 4096 1 2) (octal 0 6 0 2) 8 70) { size = 0; used = 0; mtime = at 2 })
    (directory_kept 2 (octal 0 0 0 1) 2))
creation_over_a_file_sets_no_mode_and_times = simp evaluate refl

creation_over_a_file_by_its_owner_sets_no_mode :
    (serial (holding 4 ((1, root_with 4 (entry 3 d 2 ∷ [])) ∷
    ((2, owned_directory (octal 0 0 0 1) 7 70 4 (entry 3 f 3 ∷ [])) ∷ ((3, owned_file (octal 0 6 0 0) 8 70) ∷ []))))
    (Ask (Create (h 2) f (Unchecked (record no_attributes { mode = Some (octal 0 7 7 7) }))) (user 8 80 [])) (at 2) false).reply
    ≡ Success (MadeDone (h 3) (shown_of (file_shown 3 1 4096 1 1) (octal 0 6 0 0) 8 70) (directory_kept 2 (octal 0 0 0 1) 2))
creation_over_a_file_by_its_owner_sets_no_mode = simp evaluate refl

creation_over_a_file_looks_at_no_time :
    (serial (holding 4 ((1, root_with 4 (entry 3 d 2 ∷ [])) ∷
    ((2, owned_directory (octal 0 0 0 1) 7 70 4 (entry 3 f 3 ∷ [])) ∷ ((3, owned_file (octal 0 0 0 2) 8 70) ∷ []))))
    (Ask (Create (h 2) f (Unchecked (record no_attributes { atime = ClientTime (record { seconds = 1; nanoseconds = 1000000000 }) }))) other)
    (at 2) false).reply
    ≡ Success (MadeDone (h 3) (shown_of (file_shown 3 1 4096 1 1) (octal 0 0 0 2) 8 70) (directory_kept 2 (octal 0 0 0 1) 2))
creation_over_a_file_looks_at_no_time = simp evaluate refl

creation_over_a_file_clears_both_bits :
    (serial (holding 4 ((1, root_with 4 (entry 3 d 2 ∷ [])) ∷
    ((2, owned_directory (octal 0 0 0 1) 7 70 4 (entry 3 f 3 ∷ [])) ∷ ((3, owned_file (octal 6 7 7 7) 8 70) ∷ []))))
    (Ask (Create (h 2) f (Unchecked (record no_attributes { size = Some 0 }))) other) (at 2) false).reply
    ≡ Success (MadeDone (h 3) (record (shown_of (file_shown 3 1 4096 1 2) (octal 0 7 7 7) 8 70) { size = 0; used = 0; mtime = at 2 })
    (directory_kept 2 (octal 0 0 0 1) 2))
creation_over_a_file_clears_both_bits = simp evaluate refl

creation_over_a_file_by_uid_0_keeps_both_bits :
    (serial (holding 4 ((1, root_with 4 (entry 3 d 2 ∷ [])) ∷
    ((2, owned_directory (octal 0 0 0 1) 7 70 4 (entry 3 f 3 ∷ [])) ∷ ((3, owned_file (octal 6 7 7 7) 8 70) ∷ []))))
    (Ask (Create (h 2) f (Unchecked (record no_attributes { size = Some 0 }))) uid_0) (at 2) false).reply
    ≡ Success (MadeDone (h 3) (record (shown_of (file_shown 3 1 4096 1 2) (octal 6 7 7 7) 8 70) { size = 0; used = 0; mtime = at 2 })
    (directory_kept 2 (octal 0 0 0 1) 2))
creation_over_a_file_by_uid_0_keeps_both_bits = simp evaluate refl

guarded_creation_over_a_file_without_w :
    (serial (holding 4 ((1, root_with 4 (entry 3 d 2 ∷ [])) ∷
    ((2, owned_directory (octal 0 0 0 1) 7 70 4 (entry 3 f 3 ∷ [])) ∷ ((3, owned_file (octal 0 6 0 0) 8 70) ∷ []))))
    (Ask (Create (h 2) f (Guarded (record no_attributes { size = Some 0 }))) other) (at 2) false).reply
    ≡ fails Exists 2
guarded_creation_over_a_file_without_w = simp evaluate refl

exclusive_creation_over_a_file_without_w :
    (serial (holding 4 ((1, root_with 4 (entry 3 d 2 ∷ [])) ∷
    ((2, owned_directory (octal 0 0 0 1) 7 70 4 (entry 3 f 3 ∷ [])) ∷ ((3, owned_file (octal 0 6 0 0) 8 70) ∷ []))))
    (Ask (Create (h 2) f (Exclusive (replicate 8 1))) other) (at 2) false).reply
    ≡ fails Exists 2
exclusive_creation_over_a_file_without_w = simp evaluate refl

exclusive_creation_again_by_another_tells :
    (serial (with_file (File (record {
      attributes = owned (octal 0 6 0 0) 8 70;
      bytes = [];
      filled = no_blocks;
      touch = None;
      verifier = Some (replicate 8 1);
      links = 1;
    })))
    (Ask (Create root a (Exclusive (replicate 8 1))) other) (at 2) false).reply
    ≡ Success (MadeDone (h 2) (shown_of (file_shown 2 0 0 1 1) (octal 0 6 0 0) 8 70) (changed (before 4096 1 1) (root_shown 2 1)))
exclusive_creation_again_by_another_tells = simp evaluate refl

creation_over_a_file_past_the_largest_without_w :
    (serial (narrow (owned_file (octal 0 7 7 5) 7 70))
    (Ask (Create root a (Unchecked (record no_attributes { size = Some 9 }))) other) (at 2) false).reply
    ≡ fails Access 2
creation_over_a_file_past_the_largest_without_w = simp evaluate refl

creation_over_a_file_past_the_largest_with_w :
    (serial (narrow (owned_file (octal 0 0 0 2) 7 70))
    (Ask (Create root a (Unchecked (record no_attributes { size = Some 9 }))) other) (at 2) false).reply
    ≡ fails TooBig 2
creation_over_a_file_past_the_largest_with_w = simp evaluate refl
