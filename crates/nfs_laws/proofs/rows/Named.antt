-- CREATE, MKDIR, REMOVE, RMDIR and RENAME by the owner, the groups and the mode of directories (RFC 1813 sections 2.5, 3.3.8, 3.3.9 and
-- 3.3.12 to 3.3.14; POSIX, S_ISVTX).
use Rattle.std.proofs.Common.{◌≡◌, false, [], ◌∷◌, replicate, Some, refl}
use Rattle.nfs_model.specs.Types.{ClientTime, Unchecked, Guarded, Exclusive, Create, Mkdir, Remove, Rmdir, Rename, Ask, Success, MadeDone}
use Rattle.nfs_model.specs.Types.{GoneDone, RenameDone, Access, NoEntry, Exists, NotDirectory, IsDirectory, Invalid, NameTooLong, Stale}
use Rattle.nfs_model.specs.Server.{Directory}
use Rattle.nfs_model.specs.Serial.Create.{no_attributes}
use Rattle.nfs_model.specs.Serial.Step.{serial}
use Rattle.nfs_laws.specs.lemmas.Evaluate.{evaluate}
use Rattle.nfs_laws.proofs.rows.Cases.{at, h, fails, a, b, e, f, x, directory_shown, file_shown, before, changed}
use Rattle.nfs_laws.proofs.rows.Checked.{octal, owner, member, further, sixteenth, other, uid_0, owned, owned_file, file_of, tree_of, nest_of}
use Rattle.nfs_laws.proofs.rows.Checked.{pair_of, shown_of, directory_changed, directory_kept}

-- ---- CREATE of a new name: by w and x of the directory

owner_creates_by_its_w_and_x :
    (serial (tree_of (octal 0 3 0 0) 8) (Ask (Create (h 2) a (Guarded no_attributes)) owner) (at 2) false).reply
    ≡ Success (MadeDone (h 4) (record (shown_of (file_shown 4 0 0 2 2) (octal 0 6 4 4) 7 70) { atime = at 2 })
    (directory_changed 2 (octal 0 3 0 0) 2))
owner_creates_by_its_w_and_x = simp evaluate refl

owner_without_w_does_not_create :
    (serial (tree_of (octal 0 5 7 7) 8) (Ask (Create (h 2) a (Guarded no_attributes)) owner) (at 2) false).reply
    ≡ fails Access 2
owner_without_w_does_not_create = simp evaluate refl

owner_without_x_does_not_create :
    (serial (tree_of (octal 0 6 7 7) 8) (Ask (Create (h 2) a (Guarded no_attributes)) owner) (at 2) false).reply
    ≡ fails Access 2
owner_without_x_does_not_create = simp evaluate refl

member_creates_by_its_w_and_x :
    (serial (tree_of (octal 0 0 3 0) 8) (Ask (Create (h 2) a (Guarded no_attributes)) member) (at 2) false).reply
    ≡ Success (MadeDone (h 4) (record (shown_of (file_shown 4 0 0 2 2) (octal 0 6 4 4) 8 70) { atime = at 2 })
    (directory_changed 2 (octal 0 0 3 0) 2))
member_creates_by_its_w_and_x = simp evaluate refl

member_without_w_does_not_create :
    (serial (tree_of (octal 0 7 5 7) 8) (Ask (Create (h 2) a (Guarded no_attributes)) member) (at 2) false).reply
    ≡ fails Access 2
member_without_w_does_not_create = simp evaluate refl

further_group_creates_by_its_w_and_x :
    (serial (tree_of (octal 0 0 3 0) 8) (Ask (Create (h 2) a (Guarded no_attributes)) further) (at 2) false).reply
    ≡ Success (MadeDone (h 4) (record (shown_of (file_shown 4 0 0 2 2) (octal 0 6 4 4) 9 90) { atime = at 2 })
    (directory_changed 2 (octal 0 0 3 0) 2))
further_group_creates_by_its_w_and_x = simp evaluate refl

further_group_without_w_does_not_create :
    (serial (tree_of (octal 0 7 5 7) 8) (Ask (Create (h 2) a (Guarded no_attributes)) further) (at 2) false).reply
    ≡ fails Access 2
further_group_without_w_does_not_create = simp evaluate refl

sixteenth_further_group_creates_by_its_w_and_x :
    (serial (tree_of (octal 0 0 3 0) 8) (Ask (Create (h 2) a (Guarded no_attributes)) sixteenth) (at 2) false).reply
    ≡ Success (MadeDone (h 4) (record (shown_of (file_shown 4 0 0 2 2) (octal 0 6 4 4) 9 90) { atime = at 2 })
    (directory_changed 2 (octal 0 0 3 0) 2))
sixteenth_further_group_creates_by_its_w_and_x = simp evaluate refl

sixteenth_further_group_without_w_does_not_create :
    (serial (tree_of (octal 0 7 5 7) 8) (Ask (Create (h 2) a (Guarded no_attributes)) sixteenth) (at 2) false).reply
    ≡ fails Access 2
sixteenth_further_group_without_w_does_not_create = simp evaluate refl

others_create_by_their_w_and_x :
    (serial (tree_of (octal 0 0 0 3) 8) (Ask (Create (h 2) a (Guarded no_attributes)) other) (at 2) false).reply
    ≡ Success (MadeDone (h 4) (record (shown_of (file_shown 4 0 0 2 2) (octal 0 6 4 4) 9 90) { atime = at 2 })
    (directory_changed 2 (octal 0 0 0 3) 2))
others_create_by_their_w_and_x = simp evaluate refl

others_without_w_do_not_create :
    (serial (tree_of (octal 0 7 7 5) 8) (Ask (Create (h 2) a (Guarded no_attributes)) other) (at 2) false).reply
    ≡ fails Access 2
others_without_w_do_not_create = simp evaluate refl

others_without_x_do_not_create :
    (serial (tree_of (octal 0 7 7 6) 8) (Ask (Create (h 2) a (Guarded no_attributes)) other) (at 2) false).reply
    ≡ fails Access 2
others_without_x_do_not_create = simp evaluate refl

uid_0_creates_whatever_the_mode :
    (serial (tree_of (octal 0 0 0 0) 8) (Ask (Create (h 2) a (Guarded no_attributes)) uid_0) (at 2) false).reply
    ≡ Success (MadeDone (h 4) (record (shown_of (file_shown 4 0 0 2 2) (octal 0 6 4 4) 0 0) { atime = at 2 }) (directory_changed 2 (octal 0 0 0 0) 2))
uid_0_creates_whatever_the_mode = simp evaluate refl

-- STALE, NOTDIR, ACCES (x), NAMETOOLONG, EXIST, ACCES (w) and INVAL come in this order
create_in_an_absent_directory :
    (serial (tree_of (octal 0 0 0 0) 8) (Ask (Create (h 9) (replicate 256 97) (Guarded no_attributes)) other) (at 2) false).reply
    ≡ fails Stale 2
create_in_an_absent_directory = simp evaluate refl

create_in_a_file :
    (serial (file_of (octal 0 0 0 0)) (Ask (Create (h 2) (replicate 256 97) (Guarded no_attributes)) other) (at 2) false).reply
    ≡ fails NotDirectory 2
create_in_a_file = simp evaluate refl

create_of_a_long_name_without_x :
    (serial (tree_of (octal 0 7 7 6) 8) (Ask (Create (h 2) (replicate 256 97) (Guarded no_attributes)) other) (at 2) false).reply
    ≡ fails Access 2
create_of_a_long_name_without_x = simp evaluate refl

create_of_a_long_name_with_x :
    (serial (tree_of (octal 0 0 0 1) 8) (Ask (Create (h 2) (replicate 256 97) (Guarded no_attributes)) other) (at 2) false).reply
    ≡ fails NameTooLong 2
create_of_a_long_name_with_x = simp evaluate refl

create_of_a_name_that_is_there_without_x :
    (serial (tree_of (octal 0 7 7 6) 8) (Ask (Create (h 2) f (Guarded no_attributes)) other) (at 2) false).reply
    ≡ fails Access 2
create_of_a_name_that_is_there_without_x = simp evaluate refl

create_of_a_name_that_is_there_with_x :
    (serial (tree_of (octal 0 0 0 1) 8) (Ask (Create (h 2) f (Guarded no_attributes)) other) (at 2) false).reply
    ≡ fails Exists 2
create_of_a_name_that_is_there_with_x = simp evaluate refl

create_of_dot_without_x :
    (serial (tree_of (octal 0 7 7 6) 8) (Ask (Create (h 2) (46 ∷ []) (Guarded no_attributes)) other) (at 2) false).reply
    ≡ fails Access 2
create_of_dot_without_x = simp evaluate refl

create_of_dot_with_x :
    (serial (tree_of (octal 0 0 0 1) 8) (Ask (Create (h 2) (46 ∷ []) (Guarded no_attributes)) other) (at 2) false).reply
    ≡ fails Exists 2
create_of_dot_with_x = simp evaluate refl

create_of_dot_dot_with_x :
    (serial (tree_of (octal 0 0 0 1) 8) (Ask (Create (h 2) (46 ∷ (46 ∷ [])) (Guarded no_attributes)) other) (at 2) false).reply
    ≡ fails Exists 2
create_of_dot_dot_with_x = simp evaluate refl

create_with_a_bad_time_without_w :
    (serial (tree_of (octal 0 7 7 5) 8)
    (Ask (Create (h 2) a (Guarded (record no_attributes { atime = ClientTime (record { seconds = 1; nanoseconds = 1000000000 }) }))) other)
    (at 2) false).reply
    ≡ fails Access 2
create_with_a_bad_time_without_w = simp evaluate refl

create_with_a_bad_time_with_w :
    (serial (tree_of (octal 0 0 0 3) 8)
    (Ask (Create (h 2) a (Guarded (record no_attributes { atime = ClientTime (record { seconds = 1; nanoseconds = 1000000000 }) }))) other)
    (at 2) false).reply
    ≡ fails Invalid 2
create_with_a_bad_time_with_w = simp evaluate refl

unchecked_creation_without_w :
    (serial (tree_of (octal 0 7 7 5) 8) (Ask (Create (h 2) a (Unchecked no_attributes)) other) (at 2) false).reply
    ≡ fails Access 2
unchecked_creation_without_w = simp evaluate refl

exclusive_creation_without_w :
    (serial (tree_of (octal 0 7 7 5) 8) (Ask (Create (h 2) a (Exclusive (replicate 8 1))) other) (at 2) false).reply
    ≡ fails Access 2
exclusive_creation_without_w = simp evaluate refl

unchecked_creation_over_a_directory_with_x :
    (serial (nest_of (octal 0 0 0 1) 8) (Ask (Create (h 2) e (Unchecked no_attributes)) other) (at 2) false).reply
    ≡ fails Exists 2
unchecked_creation_over_a_directory_with_x = simp evaluate refl

-- ---- MKDIR of a new name: by w and x of the directory

others_make_a_directory_by_their_w_and_x :
    (serial (tree_of (octal 0 0 0 3) 8) (Ask (Mkdir (h 2) a no_attributes) other) (at 2) false).reply
    ≡ Success (MadeDone (h 4) (shown_of (directory_shown 4 2 2) (octal 0 7 5 5) 9 90) (directory_changed 2 (octal 0 0 0 3) 3))
others_make_a_directory_by_their_w_and_x = simp evaluate refl

others_without_w_make_no_directory :
    (serial (tree_of (octal 0 7 7 5) 8) (Ask (Mkdir (h 2) a no_attributes) other) (at 2) false).reply
    ≡ fails Access 2
others_without_w_make_no_directory = simp evaluate refl

others_without_x_make_no_directory :
    (serial (tree_of (octal 0 7 7 6) 8) (Ask (Mkdir (h 2) a no_attributes) other) (at 2) false).reply
    ≡ fails Access 2
others_without_x_make_no_directory = simp evaluate refl

owner_without_w_makes_no_directory :
    (serial (tree_of (octal 0 5 7 7) 8) (Ask (Mkdir (h 2) a no_attributes) owner) (at 2) false).reply
    ≡ fails Access 2
owner_without_w_makes_no_directory = simp evaluate refl

uid_0_makes_a_directory_whatever_the_mode :
    (serial (tree_of (octal 0 0 0 0) 8) (Ask (Mkdir (h 2) a no_attributes) uid_0) (at 2) false).reply
    ≡ Success (MadeDone (h 4) (shown_of (directory_shown 4 2 2) (octal 0 7 5 5) 0 0) (directory_changed 2 (octal 0 0 0 0) 3))
uid_0_makes_a_directory_whatever_the_mode = simp evaluate refl

mkdir_in_an_absent_directory :
    (serial (tree_of (octal 0 0 0 0) 8) (Ask (Mkdir (h 9) (replicate 256 97) no_attributes) other) (at 2) false).reply
    ≡ fails Stale 2
mkdir_in_an_absent_directory = simp evaluate refl

mkdir_in_a_file :
    (serial (file_of (octal 0 0 0 0)) (Ask (Mkdir (h 2) (replicate 256 97) no_attributes) other) (at 2) false).reply
    ≡ fails NotDirectory 2
mkdir_in_a_file = simp evaluate refl

mkdir_of_a_long_name_without_x :
    (serial (tree_of (octal 0 7 7 6) 8) (Ask (Mkdir (h 2) (replicate 256 97) no_attributes) other) (at 2) false).reply
    ≡ fails Access 2
mkdir_of_a_long_name_without_x = simp evaluate refl

mkdir_of_a_long_name_with_x :
    (serial (tree_of (octal 0 0 0 1) 8) (Ask (Mkdir (h 2) (replicate 256 97) no_attributes) other) (at 2) false).reply
    ≡ fails NameTooLong 2
mkdir_of_a_long_name_with_x = simp evaluate refl

mkdir_of_a_name_that_is_there_without_x :
    (serial (tree_of (octal 0 7 7 6) 8) (Ask (Mkdir (h 2) f no_attributes) other) (at 2) false).reply
    ≡ fails Access 2
mkdir_of_a_name_that_is_there_without_x = simp evaluate refl

mkdir_of_a_name_that_is_there_with_x :
    (serial (tree_of (octal 0 0 0 1) 8) (Ask (Mkdir (h 2) f no_attributes) other) (at 2) false).reply
    ≡ fails Exists 2
mkdir_of_a_name_that_is_there_with_x = simp evaluate refl

mkdir_of_dot_with_x :
    (serial (tree_of (octal 0 0 0 1) 8) (Ask (Mkdir (h 2) (46 ∷ []) no_attributes) other) (at 2) false).reply
    ≡ fails Exists 2
mkdir_of_dot_with_x = simp evaluate refl

mkdir_with_a_size_without_w :
    (serial (tree_of (octal 0 7 7 5) 8) (Ask (Mkdir (h 2) a (record no_attributes { size = Some 0 })) other) (at 2) false).reply
    ≡ fails Access 2
mkdir_with_a_size_without_w = simp evaluate refl

mkdir_with_a_size_with_w :
    (serial (tree_of (octal 0 0 0 3) 8) (Ask (Mkdir (h 2) a (record no_attributes { size = Some 0 })) other) (at 2) false).reply
    ≡ fails Invalid 2
mkdir_with_a_size_with_w = simp evaluate refl

-- ---- REMOVE: by w and x of the directory

owner_removes_by_its_w_and_x :
    (serial (tree_of (octal 0 3 0 0) 8) (Ask (Remove (h 2) f) owner) (at 2) false).reply
    ≡ Success (GoneDone (directory_changed 2 (octal 0 3 0 0) 2))
owner_removes_by_its_w_and_x = simp evaluate refl

owner_without_w_does_not_remove :
    (serial (tree_of (octal 0 5 7 7) 8) (Ask (Remove (h 2) f) owner) (at 2) false).reply
    ≡ fails Access 2
owner_without_w_does_not_remove = simp evaluate refl

member_removes_by_its_w_and_x :
    (serial (tree_of (octal 0 0 3 0) 7) (Ask (Remove (h 2) f) member) (at 2) false).reply
    ≡ Success (GoneDone (directory_changed 2 (octal 0 0 3 0) 2))
member_removes_by_its_w_and_x = simp evaluate refl

others_remove_by_their_w_and_x :
    (serial (tree_of (octal 0 0 0 3) 8) (Ask (Remove (h 2) f) other) (at 2) false).reply
    ≡ Success (GoneDone (directory_changed 2 (octal 0 0 0 3) 2))
others_remove_by_their_w_and_x = simp evaluate refl

others_without_w_do_not_remove :
    (serial (tree_of (octal 0 7 7 5) 8) (Ask (Remove (h 2) f) other) (at 2) false).reply
    ≡ fails Access 2
others_without_w_do_not_remove = simp evaluate refl

others_without_x_do_not_remove :
    (serial (tree_of (octal 0 7 7 6) 8) (Ask (Remove (h 2) f) other) (at 2) false).reply
    ≡ fails Access 2
others_without_x_do_not_remove = simp evaluate refl

owner_of_a_file_alone_does_not_remove_it :
    (serial (tree_of (octal 0 7 7 5) 9) (Ask (Remove (h 2) f) other) (at 2) false).reply
    ≡ fails Access 2
owner_of_a_file_alone_does_not_remove_it = simp evaluate refl

uid_0_removes_whatever_the_mode :
    (serial (tree_of (octal 0 0 0 0) 8) (Ask (Remove (h 2) f) uid_0) (at 2) false).reply
    ≡ Success (GoneDone (directory_changed 2 (octal 0 0 0 0) 2))
uid_0_removes_whatever_the_mode = simp evaluate refl

-- STALE, NOTDIR, ACCES (x), NAMETOOLONG, INVAL, NOENT, ACCES (w) and ISDIR come in this order
remove_in_an_absent_directory :
    (serial (tree_of (octal 0 0 0 0) 8) (Ask (Remove (h 9) (replicate 256 97)) other) (at 2) false).reply
    ≡ fails Stale 2
remove_in_an_absent_directory = simp evaluate refl

remove_in_a_file :
    (serial (file_of (octal 0 0 0 0)) (Ask (Remove (h 2) (replicate 256 97)) other) (at 2) false).reply
    ≡ fails NotDirectory 2
remove_in_a_file = simp evaluate refl

remove_of_a_long_name_without_x :
    (serial (tree_of (octal 0 7 7 6) 8) (Ask (Remove (h 2) (replicate 256 97)) other) (at 2) false).reply
    ≡ fails Access 2
remove_of_a_long_name_without_x = simp evaluate refl

remove_of_a_long_name_with_x :
    (serial (tree_of (octal 0 0 0 1) 8) (Ask (Remove (h 2) (replicate 256 97)) other) (at 2) false).reply
    ≡ fails NameTooLong 2
remove_of_a_long_name_with_x = simp evaluate refl

remove_of_dot_without_x :
    (serial (tree_of (octal 0 7 7 6) 8) (Ask (Remove (h 2) (46 ∷ [])) other) (at 2) false).reply
    ≡ fails Access 2
remove_of_dot_without_x = simp evaluate refl

remove_of_dot_with_x :
    (serial (tree_of (octal 0 0 0 1) 8) (Ask (Remove (h 2) (46 ∷ [])) other) (at 2) false).reply
    ≡ fails Invalid 2
remove_of_dot_with_x = simp evaluate refl

remove_of_what_is_not_there_without_x :
    (serial (tree_of (octal 0 7 7 6) 8) (Ask (Remove (h 2) b) other) (at 2) false).reply
    ≡ fails Access 2
remove_of_what_is_not_there_without_x = simp evaluate refl

remove_of_what_is_not_there_without_w :
    (serial (tree_of (octal 0 7 7 5) 8) (Ask (Remove (h 2) b) other) (at 2) false).reply
    ≡ fails NoEntry 2
remove_of_what_is_not_there_without_w = simp evaluate refl

remove_of_a_directory_without_w :
    (serial (nest_of (octal 0 7 7 5) 8) (Ask (Remove (h 2) e) other) (at 2) false).reply
    ≡ fails Access 2
remove_of_a_directory_without_w = simp evaluate refl

remove_of_a_directory_with_w :
    (serial (nest_of (octal 0 0 0 3) 8) (Ask (Remove (h 2) e) other) (at 2) false).reply
    ≡ fails IsDirectory 2
remove_of_a_directory_with_w = simp evaluate refl

-- from a sticky directory
others_do_not_remove_from_a_sticky_directory :
    (serial (tree_of (octal 1 7 7 7) 8) (Ask (Remove (h 2) f) other) (at 2) false).reply
    ≡ fails Access 2
others_do_not_remove_from_a_sticky_directory = simp evaluate refl

member_does_not_remove_from_a_sticky_directory :
    (serial (tree_of (octal 1 7 7 7) 9) (Ask (Remove (h 2) f) member) (at 2) false).reply
    ≡ fails Access 2
member_does_not_remove_from_a_sticky_directory = simp evaluate refl

owner_of_a_file_removes_it_from_a_sticky_directory :
    (serial (tree_of (octal 1 7 7 7) 9) (Ask (Remove (h 2) f) other) (at 2) false).reply
    ≡ Success (GoneDone (directory_changed 2 (octal 1 7 7 7) 2))
owner_of_a_file_removes_it_from_a_sticky_directory = simp evaluate refl

owner_of_a_sticky_directory_removes_from_it :
    (serial (tree_of (octal 1 7 7 7) 8) (Ask (Remove (h 2) f) owner) (at 2) false).reply
    ≡ Success (GoneDone (directory_changed 2 (octal 1 7 7 7) 2))
owner_of_a_sticky_directory_removes_from_it = simp evaluate refl

uid_0_removes_from_a_sticky_directory :
    (serial (tree_of (octal 1 7 7 7) 8) (Ask (Remove (h 2) f) uid_0) (at 2) false).reply
    ≡ Success (GoneDone (directory_changed 2 (octal 1 7 7 7) 2))
uid_0_removes_from_a_sticky_directory = simp evaluate refl

owner_of_a_file_needs_w_of_a_sticky_directory :
    (serial (tree_of (octal 1 7 7 5) 9) (Ask (Remove (h 2) f) other) (at 2) false).reply
    ≡ fails Access 2
owner_of_a_file_needs_w_of_a_sticky_directory = simp evaluate refl

others_do_not_remove_a_directory_from_a_sticky_one :
    (serial (nest_of (octal 1 7 7 7) 8) (Ask (Remove (h 2) e) other) (at 2) false).reply
    ≡ fails Access 2
others_do_not_remove_a_directory_from_a_sticky_one = simp evaluate refl

-- ---- RMDIR: by w and x of the directory

others_remove_a_directory_by_their_w_and_x :
    (serial (nest_of (octal 0 0 0 3) 8) (Ask (Rmdir (h 2) e) other) (at 2) false).reply
    ≡ Success (GoneDone (directory_changed 2 (octal 0 0 0 3) 2))
others_remove_a_directory_by_their_w_and_x = simp evaluate refl

others_without_w_remove_no_directory :
    (serial (nest_of (octal 0 7 7 5) 8) (Ask (Rmdir (h 2) e) other) (at 2) false).reply
    ≡ fails Access 2
others_without_w_remove_no_directory = simp evaluate refl

others_without_x_remove_no_directory :
    (serial (nest_of (octal 0 7 7 6) 8) (Ask (Rmdir (h 2) e) other) (at 2) false).reply
    ≡ fails Access 2
others_without_x_remove_no_directory = simp evaluate refl

uid_0_removes_a_directory_whatever_the_mode :
    (serial (nest_of (octal 0 0 0 0) 8) (Ask (Rmdir (h 2) e) uid_0) (at 2) false).reply
    ≡ Success (GoneDone (directory_changed 2 (octal 0 0 0 0) 2))
uid_0_removes_a_directory_whatever_the_mode = simp evaluate refl

rmdir_in_an_absent_directory :
    (serial (tree_of (octal 0 0 0 0) 8) (Ask (Rmdir (h 9) (replicate 256 97)) other) (at 2) false).reply
    ≡ fails Stale 2
rmdir_in_an_absent_directory = simp evaluate refl

rmdir_in_a_file :
    (serial (file_of (octal 0 0 0 0)) (Ask (Rmdir (h 2) (replicate 256 97)) other) (at 2) false).reply
    ≡ fails NotDirectory 2
rmdir_in_a_file = simp evaluate refl

rmdir_of_a_long_name_without_x :
    (serial (nest_of (octal 0 7 7 6) 8) (Ask (Rmdir (h 2) (replicate 256 97)) other) (at 2) false).reply
    ≡ fails Access 2
rmdir_of_a_long_name_without_x = simp evaluate refl

rmdir_of_a_long_name_with_x :
    (serial (nest_of (octal 0 0 0 1) 8) (Ask (Rmdir (h 2) (replicate 256 97)) other) (at 2) false).reply
    ≡ fails NameTooLong 2
rmdir_of_a_long_name_with_x = simp evaluate refl

rmdir_of_dot_with_x :
    (serial (nest_of (octal 0 0 0 1) 8) (Ask (Rmdir (h 2) (46 ∷ [])) other) (at 2) false).reply
    ≡ fails Invalid 2
rmdir_of_dot_with_x = simp evaluate refl

rmdir_of_dot_dot_with_x :
    (serial (nest_of (octal 0 0 0 1) 8) (Ask (Rmdir (h 2) (46 ∷ (46 ∷ []))) other) (at 2) false).reply
    ≡ fails Exists 2
rmdir_of_dot_dot_with_x = simp evaluate refl

rmdir_of_what_is_not_there_without_w :
    (serial (nest_of (octal 0 7 7 5) 8) (Ask (Rmdir (h 2) b) other) (at 2) false).reply
    ≡ fails NoEntry 2
rmdir_of_what_is_not_there_without_w = simp evaluate refl

rmdir_of_a_file_without_w :
    (serial (tree_of (octal 0 7 7 5) 8) (Ask (Rmdir (h 2) f) other) (at 2) false).reply
    ≡ fails Access 2
rmdir_of_a_file_without_w = simp evaluate refl

rmdir_of_a_file_with_w :
    (serial (tree_of (octal 0 0 0 3) 8) (Ask (Rmdir (h 2) f) other) (at 2) false).reply
    ≡ fails NotDirectory 2
rmdir_of_a_file_with_w = simp evaluate refl

others_do_not_remove_a_directory_by_name_from_a_sticky_one :
    (serial (nest_of (octal 1 7 7 7) 8) (Ask (Rmdir (h 2) e) other) (at 2) false).reply
    ≡ fails Access 2
others_do_not_remove_a_directory_by_name_from_a_sticky_one = simp evaluate refl

owner_of_a_directory_removes_it_from_a_sticky_one :
    (serial (nest_of (octal 1 7 7 7) 9) (Ask (Rmdir (h 2) e) other) (at 2) false).reply
    ≡ Success (GoneDone (directory_changed 2 (octal 1 7 7 7) 2))
owner_of_a_directory_removes_it_from_a_sticky_one = simp evaluate refl

owner_of_a_sticky_directory_removes_a_directory :
    (serial (nest_of (octal 1 7 7 7) 8) (Ask (Rmdir (h 2) e) owner) (at 2) false).reply
    ≡ Success (GoneDone (directory_changed 2 (octal 1 7 7 7) 2))
owner_of_a_sticky_directory_removes_a_directory = simp evaluate refl

uid_0_removes_a_directory_from_a_sticky_one :
    (serial (nest_of (octal 1 7 7 7) 8) (Ask (Rmdir (h 2) e) uid_0) (at 2) false).reply
    ≡ Success (GoneDone (directory_changed 2 (octal 1 7 7 7) 2))
uid_0_removes_a_directory_from_a_sticky_one = simp evaluate refl

-- ---- RENAME: by w and x of both directories

others_rename_by_w_and_x_of_both :
    (serial (pair_of (octal 0 0 0 3) (octal 0 0 0 3) (owned_file (octal 0 6 4 4) 8 70) 8) (Ask (Rename (h 2) a (h 3) a) other) (at 2) false).reply
    ≡ Success (RenameDone (directory_changed 2 (octal 0 0 0 3) 2) (directory_changed 3 (octal 0 0 0 3) 2))
others_rename_by_w_and_x_of_both = simp evaluate refl

owner_renames_by_w_and_x_of_both :
    (serial (pair_of (octal 0 3 0 0) (octal 0 3 0 0) (owned_file (octal 0 6 4 4) 8 70) 8) (Ask (Rename (h 2) a (h 3) a) owner) (at 2) false).reply
    ≡ Success (RenameDone (directory_changed 2 (octal 0 3 0 0) 2) (directory_changed 3 (octal 0 3 0 0) 2))
owner_renames_by_w_and_x_of_both = simp evaluate refl

others_do_not_rename_without_w_of_the_first :
    (serial (pair_of (octal 0 7 7 5) (octal 0 0 0 3) (owned_file (octal 0 6 4 4) 8 70) 8) (Ask (Rename (h 2) a (h 3) a) other) (at 2) false).reply
    ≡ fails Access 4
others_do_not_rename_without_w_of_the_first = simp evaluate refl

others_do_not_rename_without_x_of_the_first :
    (serial (pair_of (octal 0 7 7 6) (octal 0 0 0 3) (owned_file (octal 0 6 4 4) 8 70) 8) (Ask (Rename (h 2) a (h 3) a) other) (at 2) false).reply
    ≡ fails Access 4
others_do_not_rename_without_x_of_the_first = simp evaluate refl

others_do_not_rename_without_w_of_the_second :
    (serial (pair_of (octal 0 0 0 3) (octal 0 7 7 5) (owned_file (octal 0 6 4 4) 8 70) 8) (Ask (Rename (h 2) a (h 3) a) other) (at 2) false).reply
    ≡ fails Access 4
others_do_not_rename_without_w_of_the_second = simp evaluate refl

others_do_not_rename_without_x_of_the_second :
    (serial (pair_of (octal 0 0 0 3) (octal 0 7 7 6) (owned_file (octal 0 6 4 4) 8 70) 8) (Ask (Rename (h 2) a (h 3) a) other) (at 2) false).reply
    ≡ fails Access 4
others_do_not_rename_without_x_of_the_second = simp evaluate refl

others_do_not_rename_over_a_file_without_w_of_the_second :
    (serial (pair_of (octal 0 0 0 3) (octal 0 7 7 5) (owned_file (octal 0 6 4 4) 8 70) 8) (Ask (Rename (h 2) a (h 3) b) other) (at 2) false).reply
    ≡ fails Access 4
others_do_not_rename_over_a_file_without_w_of_the_second = simp evaluate refl

others_rename_over_a_file_by_w_and_x_of_both :
    (serial (pair_of (octal 0 0 0 3) (octal 0 0 0 3) (owned_file (octal 0 6 4 4) 8 70) 8) (Ask (Rename (h 2) a (h 3) b) other) (at 2) false).reply
    ≡ Success (RenameDone (directory_changed 2 (octal 0 0 0 3) 2) (directory_changed 3 (octal 0 0 0 3) 2))
others_rename_over_a_file_by_w_and_x_of_both = simp evaluate refl

uid_0_renames_whatever_the_modes :
    (serial (pair_of (octal 0 0 0 0) (octal 0 0 0 0) (owned_file (octal 0 6 4 4) 8 70) 8) (Ask (Rename (h 2) a (h 3) b) uid_0) (at 2) false).reply
    ≡ Success (RenameDone (directory_changed 2 (octal 0 0 0 0) 2) (directory_changed 3 (octal 0 0 0 0) 2))
uid_0_renames_whatever_the_modes = simp evaluate refl

-- STALE and NOTDIR of both, ACCES (x) of both, NAMETOOLONG, INVAL, NOENT, ACCES (w) and EXIST come in this order
rename_in_an_absent_directory :
    (serial (pair_of (octal 0 0 0 0) (octal 0 0 0 0) (owned_file (octal 0 6 4 4) 8 70) 8)
    (Ask (Rename (h 9) (replicate 256 97) (h 3) a) other) (at 2) false).reply
    ≡ fails Stale 4
rename_in_an_absent_directory = simp evaluate refl

rename_into_an_absent_directory_without_x :
    (serial (pair_of (octal 0 0 0 0) (octal 0 0 0 0) (owned_file (octal 0 6 4 4) 8 70) 8)
    (Ask (Rename (h 2) (replicate 256 97) (h 9) a) other) (at 2) false).reply
    ≡ fails Stale 4
rename_into_an_absent_directory_without_x = simp evaluate refl

rename_in_a_file :
    (serial (pair_of (octal 0 0 0 0) (octal 0 0 0 0) (owned_file (octal 0 6 4 4) 8 70) 8)
    (Ask (Rename (h 4) (replicate 256 97) (h 3) a) other) (at 2) false).reply
    ≡ fails NotDirectory 4
rename_in_a_file = simp evaluate refl

rename_into_a_file_without_x :
    (serial (pair_of (octal 0 0 0 0) (octal 0 0 0 0) (owned_file (octal 0 6 4 4) 8 70) 8)
    (Ask (Rename (h 2) (replicate 256 97) (h 4) a) other) (at 2) false).reply
    ≡ fails NotDirectory 4
rename_into_a_file_without_x = simp evaluate refl

rename_of_a_long_name_without_x_of_the_first :
    (serial (pair_of (octal 0 7 7 6) (octal 0 0 0 1) (owned_file (octal 0 6 4 4) 8 70) 8)
    (Ask (Rename (h 2) (replicate 256 97) (h 3) a) other) (at 2) false).reply
    ≡ fails Access 4
rename_of_a_long_name_without_x_of_the_first = simp evaluate refl

rename_of_a_long_name_without_x_of_the_second :
    (serial (pair_of (octal 0 0 0 1) (octal 0 7 7 6) (owned_file (octal 0 6 4 4) 8 70) 8)
    (Ask (Rename (h 2) (replicate 256 97) (h 3) a) other) (at 2) false).reply
    ≡ fails Access 4
rename_of_a_long_name_without_x_of_the_second = simp evaluate refl

rename_of_a_long_name_with_x_of_both :
    (serial (pair_of (octal 0 0 0 1) (octal 0 0 0 1) (owned_file (octal 0 6 4 4) 8 70) 8)
    (Ask (Rename (h 2) (replicate 256 97) (h 3) a) other) (at 2) false).reply
    ≡ fails NameTooLong 4
rename_of_a_long_name_with_x_of_both = simp evaluate refl

rename_to_a_long_name_with_x_of_both :
    (serial (pair_of (octal 0 0 0 1) (octal 0 0 0 1) (owned_file (octal 0 6 4 4) 8 70) 8)
    (Ask (Rename (h 2) a (h 3) (replicate 256 97)) other) (at 2) false).reply
    ≡ fails NameTooLong 4
rename_to_a_long_name_with_x_of_both = simp evaluate refl

rename_of_dot_with_x_of_both :
    (serial (pair_of (octal 0 0 0 1) (octal 0 0 0 1) (owned_file (octal 0 6 4 4) 8 70) 8)
    (Ask (Rename (h 2) (46 ∷ []) (h 3) a) other) (at 2) false).reply
    ≡ fails Invalid 4
rename_of_dot_with_x_of_both = simp evaluate refl

rename_to_dot_with_x_of_both :
    (serial (pair_of (octal 0 0 0 1) (octal 0 0 0 1) (owned_file (octal 0 6 4 4) 8 70) 8)
    (Ask (Rename (h 2) a (h 3) (46 ∷ [])) other) (at 2) false).reply
    ≡ fails Invalid 4
rename_to_dot_with_x_of_both = simp evaluate refl

rename_of_what_is_not_there_without_x_of_the_second :
    (serial (pair_of (octal 0 0 0 1) (octal 0 7 7 6) (owned_file (octal 0 6 4 4) 8 70) 8) (Ask (Rename (h 2) x (h 3) a) other) (at 2) false).reply
    ≡ fails Access 4
rename_of_what_is_not_there_without_x_of_the_second = simp evaluate refl

rename_of_what_is_not_there_without_w :
    (serial (pair_of (octal 0 7 7 5) (octal 0 7 7 5) (owned_file (octal 0 6 4 4) 8 70) 8) (Ask (Rename (h 2) x (h 3) a) other) (at 2) false).reply
    ≡ fails NoEntry 4
rename_of_what_is_not_there_without_w = simp evaluate refl

rename_of_a_directory_over_a_file_without_w :
    (serial (pair_of (octal 0 7 7 5) (octal 0 0 0 3) (Directory
    (record { attributes = owned (octal 0 7 7 7) 8 70; parent = 2; next = 3; list = [] })) 8)
    (Ask (Rename (h 2) a (h 3) b) other) (at 2) false).reply
    ≡ fails Access 4
rename_of_a_directory_over_a_file_without_w = simp evaluate refl

rename_of_a_directory_over_a_file_with_w :
    (serial (pair_of (octal 0 0 0 3) (octal 0 0 0 3) (Directory
    (record { attributes = owned (octal 0 7 7 7) 8 70; parent = 2; next = 3; list = [] })) 8)
    (Ask (Rename (h 2) a (h 3) b) other) (at 2) false).reply
    ≡ fails Exists 4
rename_of_a_directory_over_a_file_with_w = simp evaluate refl

rename_of_a_directory_below_itself_without_w :
    (serial (pair_of (octal 0 7 7 5) (octal 0 0 0 3) (Directory
    (record { attributes = owned (octal 0 7 7 7) 8 70; parent = 2; next = 3; list = [] })) 8)
    (Ask (Rename (h 2) a (h 4) a) other) (at 2) false).reply
    ≡ fails Access 4
rename_of_a_directory_below_itself_without_w = simp evaluate refl

rename_of_a_directory_below_itself_with_w :
    (serial (pair_of (octal 0 0 0 3) (octal 0 0 0 3) (Directory
    (record { attributes = owned (octal 0 7 7 7) 8 70; parent = 2; next = 3; list = [] })) 8)
    (Ask (Rename (h 2) a (h 4) a) other) (at 2) false).reply
    ≡ fails Invalid 4
rename_of_a_directory_below_itself_with_w = simp evaluate refl

-- both names of one entry need x alone
rename_onto_itself_without_w :
    (serial (pair_of (octal 0 0 0 1) (octal 0 0 0 0) (owned_file (octal 0 6 4 4) 8 70) 8) (Ask (Rename (h 2) a (h 2) a) other) (at 2) false).reply
    ≡ Success (RenameDone (directory_kept 2 (octal 0 0 0 1) 2) (directory_kept 2 (octal 0 0 0 1) 2))
rename_onto_itself_without_w = simp evaluate refl

rename_onto_itself_without_x :
    (serial (pair_of (octal 0 7 7 6) (octal 0 0 0 0) (owned_file (octal 0 6 4 4) 8 70) 8) (Ask (Rename (h 2) a (h 2) a) other) (at 2) false).reply
    ≡ fails Access 4
rename_onto_itself_without_x = simp evaluate refl

rename_to_the_same_name_elsewhere_without_w :
    (serial (pair_of (octal 0 0 0 1) (octal 0 0 0 3) (owned_file (octal 0 6 4 4) 8 70) 8) (Ask (Rename (h 2) a (h 3) a) other) (at 2) false).reply
    ≡ fails Access 4
rename_to_the_same_name_elsewhere_without_w = simp evaluate refl

rename_to_another_name_without_w :
    (serial (pair_of (octal 0 0 0 1) (octal 0 0 0 3) (owned_file (octal 0 6 4 4) 8 70) 8) (Ask (Rename (h 2) a (h 2) x) other) (at 2) false).reply
    ≡ fails Access 4
rename_to_another_name_without_w = simp evaluate refl

-- from a sticky directory
others_do_not_rename_from_a_sticky_directory :
    (serial (pair_of (octal 1 7 7 7) (octal 0 7 7 7) (owned_file (octal 0 6 4 4) 8 70) 8) (Ask (Rename (h 2) a (h 3) a) other) (at 2) false).reply
    ≡ fails Access 4
others_do_not_rename_from_a_sticky_directory = simp evaluate refl

owner_of_a_file_renames_it_from_a_sticky_directory :
    (serial (pair_of (octal 1 7 7 7) (octal 0 7 7 7) (owned_file (octal 0 6 4 4) 9 70) 8) (Ask (Rename (h 2) a (h 3) a) other) (at 2) false).reply
    ≡ Success (RenameDone (directory_changed 2 (octal 1 7 7 7) 2) (directory_changed 3 (octal 0 7 7 7) 2))
owner_of_a_file_renames_it_from_a_sticky_directory = simp evaluate refl

owner_of_a_sticky_directory_renames_from_it :
    (serial (pair_of (octal 1 7 7 7) (octal 0 7 7 7) (owned_file (octal 0 6 4 4) 8 70) 8) (Ask (Rename (h 2) a (h 3) a) owner) (at 2) false).reply
    ≡ Success (RenameDone (directory_changed 2 (octal 1 7 7 7) 2) (directory_changed 3 (octal 0 7 7 7) 2))
owner_of_a_sticky_directory_renames_from_it = simp evaluate refl

uid_0_renames_from_a_sticky_directory :
    (serial (pair_of (octal 1 7 7 7) (octal 0 7 7 7) (owned_file (octal 0 6 4 4) 8 70) 8) (Ask (Rename (h 2) a (h 3) a) uid_0) (at 2) false).reply
    ≡ Success (RenameDone (directory_changed 2 (octal 1 7 7 7) 2) (directory_changed 3 (octal 0 7 7 7) 2))
uid_0_renames_from_a_sticky_directory = simp evaluate refl

others_do_not_rename_within_a_sticky_directory :
    (serial (pair_of (octal 1 7 7 7) (octal 0 7 7 7) (owned_file (octal 0 6 4 4) 8 70) 8) (Ask (Rename (h 2) a (h 2) x) other) (at 2) false).reply
    ≡ fails Access 4
others_do_not_rename_within_a_sticky_directory = simp evaluate refl

-- into a sticky directory
others_rename_to_a_new_name_in_a_sticky_directory :
    (serial (pair_of (octal 0 7 7 7) (octal 1 7 7 7) (owned_file (octal 0 6 4 4) 8 70) 8) (Ask (Rename (h 2) a (h 3) a) other) (at 2) false).reply
    ≡ Success (RenameDone (directory_changed 2 (octal 0 7 7 7) 2) (directory_changed 3 (octal 1 7 7 7) 2))
others_rename_to_a_new_name_in_a_sticky_directory = simp evaluate refl

others_do_not_rename_over_a_file_in_a_sticky_directory :
    (serial (pair_of (octal 0 7 7 7) (octal 1 7 7 7) (owned_file (octal 0 6 4 4) 8 70) 8) (Ask (Rename (h 2) a (h 3) b) other) (at 2) false).reply
    ≡ fails Access 4
others_do_not_rename_over_a_file_in_a_sticky_directory = simp evaluate refl

owner_of_a_file_renames_over_it_in_a_sticky_directory :
    (serial (pair_of (octal 0 7 7 7) (octal 1 7 7 7) (owned_file (octal 0 6 4 4) 8 70) 9) (Ask (Rename (h 2) a (h 3) b) other) (at 2) false).reply
    ≡ Success (RenameDone (directory_changed 2 (octal 0 7 7 7) 2) (directory_changed 3 (octal 1 7 7 7) 2))
owner_of_a_file_renames_over_it_in_a_sticky_directory = simp evaluate refl

owner_of_a_sticky_directory_renames_over_a_file_in_it :
    (serial (pair_of (octal 0 7 7 7) (octal 1 7 7 7) (owned_file (octal 0 6 4 4) 8 70) 8) (Ask (Rename (h 2) a (h 3) b) owner) (at 2) false).reply
    ≡ Success (RenameDone (directory_changed 2 (octal 0 7 7 7) 2) (directory_changed 3 (octal 1 7 7 7) 2))
owner_of_a_sticky_directory_renames_over_a_file_in_it = simp evaluate refl

uid_0_renames_over_a_file_in_a_sticky_directory :
    (serial (pair_of (octal 0 7 7 7) (octal 1 7 7 7) (owned_file (octal 0 6 4 4) 8 70) 8) (Ask (Rename (h 2) a (h 3) b) uid_0) (at 2) false).reply
    ≡ Success (RenameDone (directory_changed 2 (octal 0 7 7 7) 2) (directory_changed 3 (octal 1 7 7 7) 2))
uid_0_renames_over_a_file_in_a_sticky_directory = simp evaluate refl

-- a directory that moves
directory_that_moves_to_another_needs_w_of_itself :
    (serial (pair_of (octal 0 0 0 3) (octal 0 0 0 3) (Directory
    (record { attributes = owned (octal 0 7 7 5) 8 70; parent = 2; next = 3; list = [] })) 8)
    (Ask (Rename (h 2) a (h 3) a) other) (at 2) false).reply
    ≡ fails Access 4
directory_that_moves_to_another_needs_w_of_itself = simp evaluate refl

directory_with_w_of_itself_moves_to_another :
    (serial (pair_of (octal 0 0 0 3) (octal 0 0 0 3) (Directory
    (record { attributes = owned (octal 0 0 0 2) 8 70; parent = 2; next = 3; list = [] })) 8)
    (Ask (Rename (h 2) a (h 3) a) other) (at 2) false).reply
    ≡ Success (RenameDone (changed (before 4096 1 1) (record (shown_of (directory_shown 2 2 2) (octal 0 0 0 3) 7 70) { atime = at 1 }))
    (changed (before 4096 1 1) (record (shown_of (directory_shown 3 3 2) (octal 0 0 0 3) 7 70) { atime = at 1 })))
directory_with_w_of_itself_moves_to_another = simp evaluate refl

owner_without_w_of_a_directory_does_not_move_it :
    (serial (pair_of (octal 0 3 0 0) (octal 0 3 0 0) (Directory
    (record { attributes = owned (octal 0 5 7 7) 7 70; parent = 2; next = 3; list = [] })) 8)
    (Ask (Rename (h 2) a (h 3) a) owner) (at 2) false).reply
    ≡ fails Access 4
owner_without_w_of_a_directory_does_not_move_it = simp evaluate refl

uid_0_moves_a_directory_to_another :
    (serial (pair_of (octal 0 0 0 3) (octal 0 0 0 3) (Directory
    (record { attributes = owned (octal 0 0 0 0) 8 70; parent = 2; next = 3; list = [] })) 8)
    (Ask (Rename (h 2) a (h 3) a) uid_0) (at 2) false).reply
    ≡ Success (RenameDone (changed (before 4096 1 1) (record (shown_of (directory_shown 2 2 2) (octal 0 0 0 3) 7 70) { atime = at 1 }))
    (changed (before 4096 1 1) (record (shown_of (directory_shown 3 3 2) (octal 0 0 0 3) 7 70) { atime = at 1 })))
uid_0_moves_a_directory_to_another = simp evaluate refl

directory_that_stays_needs_no_w_of_itself :
    (serial (pair_of (octal 0 0 0 3) (octal 0 0 0 3) (Directory
    (record { attributes = owned (octal 0 0 0 0) 8 70; parent = 2; next = 3; list = [] })) 8)
    (Ask (Rename (h 2) a (h 2) x) other) (at 2) false).reply
    ≡ Success (RenameDone (directory_changed 2 (octal 0 0 0 3) 3) (directory_changed 2 (octal 0 0 0 3) 3))
directory_that_stays_needs_no_w_of_itself = simp evaluate refl

file_that_moves_to_another_needs_no_w_of_itself :
    (serial (pair_of (octal 0 0 0 3) (octal 0 0 0 3) (owned_file (octal 0 0 0 0) 8 70) 8) (Ask (Rename (h 2) a (h 3) a) other) (at 2) false).reply
    ≡ Success (RenameDone (directory_changed 2 (octal 0 0 0 3) 2) (directory_changed 3 (octal 0 0 0 3) 2))
file_that_moves_to_another_needs_no_w_of_itself = simp evaluate refl
