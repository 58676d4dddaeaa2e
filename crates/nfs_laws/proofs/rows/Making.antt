-- LOOKUP, CREATE and MKDIR (RFC 1813 sections 3.3.3, 3.3.8 and 3.3.9).
use Rattle.std.proofs.Common.{◌≡◌, ℕ, true, false, [], ◌∷◌, replicate, Some, None, refl}
use Rattle.nfs_model.specs.Types.{ServerTime, ClientTime, Unchecked, Guarded, Exclusive, Setattr, Lookup, Create, Mkdir, Remove, Ask, Success, LookupDone}
use Rattle.nfs_model.specs.Types.{MadeDone, NoEntry, Access, Exists, NotDirectory, Invalid, TooBig, NoSpace, NameTooLong, Stale, BadHandle}
use Rattle.nfs_model.specs.Server.{VolumeState}
use Rattle.nfs_model.specs.Types.{Status}
use Rattle.std.specs.Prelude.{Bool, Option, nat_le, nat_lt, if◌then◌else◌}
use Rattle.std.specs.FinMap.{len}
use Rattle.std.proofs.Common.{ap}
use Rattle.nfs_model.specs.Serial.Create.{no_attributes, is_full, create_fault}
use Rattle.nfs_model.specs.Serial.Mkdir.{mkdir_fault}
use Rattle.nfs_model.specs.Serial.Step.{serial}
use Rattle.nfs_laws.specs.lemmas.Evaluate.{evaluate}
use Rattle.nfs_laws.proofs.rows.Cases.{start, at, nobody, h, root, fails, a, b, d, e, f, no_blocks, block_0, file, exclusive_file, small, with_file, narrow}
use Rattle.nfs_laws.proofs.rows.Cases.{with_tree, root_shown, directory_shown, file_shown, before, changed}

-- ---- LOOKUP

lookup_below_a_bad_handle :
    (serial start (Ask (Lookup (replicate 11 0) a) nobody) (at 1) false).reply
    ≡ fails BadHandle 1
lookup_below_a_bad_handle = refl

lookup_in_an_absent_directory :
    (serial start (Ask (Lookup (h 2) a) nobody) (at 1) false).reply
    ≡ fails Stale 1
lookup_in_an_absent_directory = simp evaluate refl

lookup_in_a_file :
    (serial (with_file (file [] no_blocks)) (Ask (Lookup (h 2) (replicate 256 97)) nobody) (at 1) false).reply
    ≡ fails NotDirectory 1
lookup_in_a_file = simp evaluate refl

lookup_of_256_bytes :
    (serial start (Ask (Lookup root (replicate 256 47)) nobody) (at 1) false).reply
    ≡ fails NameTooLong 1
lookup_of_256_bytes = simp evaluate refl

lookup_of_no_bytes :
    (serial start (Ask (Lookup root []) nobody) (at 1) false).reply
    ≡ fails Access 1
lookup_of_no_bytes = simp evaluate refl

lookup_of_a_slash :
    (serial start (Ask (Lookup root (97 ∷ (47 ∷ []))) nobody) (at 1) false).reply
    ≡ fails Access 1
lookup_of_a_slash = simp evaluate refl

lookup_of_a_zero_byte :
    (serial start (Ask (Lookup root (97 ∷ (0 ∷ []))) nobody) (at 1) false).reply
    ≡ fails Access 1
lookup_of_a_zero_byte = simp evaluate refl

lookup_of_255_bytes :
    (serial start (Ask (Lookup root (replicate 255 97)) nobody) (at 1) false).reply
    ≡ fails NoEntry 1
lookup_of_255_bytes = simp evaluate refl

lookup_of_a_name_that_is_not_there :
    (serial (with_file (file [] no_blocks)) (Ask (Lookup root b) nobody) (at 1) false).reply
    ≡ fails NoEntry 1
lookup_of_a_name_that_is_not_there = simp evaluate refl

lookup_of_a_file :
    (serial (with_file (file [] no_blocks)) (Ask (Lookup root a) nobody) (at 1) false).reply
    ≡ Success (LookupDone (h 2) (file_shown 2 0 0 1 1) (root_shown 2 1))
lookup_of_a_file = simp evaluate refl

lookup_of_a_beginning :
    (serial (with_file (file [] no_blocks)) (Ask (Lookup root (97 ∷ (97 ∷ []))) nobody) (at 1) false).reply
    ≡ fails NoEntry 1
lookup_of_a_beginning = simp evaluate refl

lookup_of_dot :
    (serial with_tree (Ask (Lookup (h 2) (46 ∷ [])) nobody) (at 1) false).reply
    ≡ Success (LookupDone (h 2) (directory_shown 2 2 1) (directory_shown 2 2 1))
lookup_of_dot = simp evaluate refl

lookup_of_dot_dot :
    (serial with_tree (Ask (Lookup (h 2) (46 ∷ (46 ∷ []))) nobody) (at 1) false).reply
    ≡ Success (LookupDone (h 1) (root_shown 3 1) (directory_shown 2 2 1))
lookup_of_dot_dot = simp evaluate refl

lookup_of_the_parent_of_the_root :
    (serial start (Ask (Lookup root (46 ∷ (46 ∷ []))) nobody) (at 1) false).reply
    ≡ Success (LookupDone (h 1) (root_shown 2 0) (root_shown 2 0))
lookup_of_the_parent_of_the_root = simp evaluate refl

-- ---- CREATE: checks in order

create_below_a_bad_handle :
    (serial start (Ask (Create (replicate 11 0) a (Unchecked no_attributes)) nobody) (at 1) false).reply
    ≡ fails BadHandle 2
create_below_a_bad_handle = refl

create_in_an_absent_directory :
    (serial start (Ask (Create (h 2) a (Unchecked no_attributes)) nobody) (at 1) false).reply
    ≡ fails Stale 2
create_in_an_absent_directory = simp evaluate refl

create_in_a_file :
    (serial (with_file (file [] no_blocks)) (Ask (Create (h 2) (replicate 256 97) (Unchecked no_attributes)) nobody) (at 1) false).reply
    ≡ fails NotDirectory 2
create_in_a_file = simp evaluate refl

create_of_256_bytes :
    (serial start (Ask (Create root (replicate 256 47) (Unchecked no_attributes)) nobody) (at 1) false).reply
    ≡ fails NameTooLong 2
create_of_256_bytes = simp evaluate refl

create_of_no_bytes :
    (serial start (Ask (Create root [] (Unchecked no_attributes)) nobody) (at 1) false).reply
    ≡ fails Access 2
create_of_no_bytes = simp evaluate refl

create_of_a_slash :
    (serial start (Ask (Create root (97 ∷ (47 ∷ [])) (Unchecked no_attributes)) nobody) (at 1) false).reply
    ≡ fails Access 2
create_of_a_slash = simp evaluate refl

create_of_a_zero_byte :
    (serial start (Ask (Create root (97 ∷ (0 ∷ [])) (Unchecked no_attributes)) nobody) (at 1) false).reply
    ≡ fails Access 2
create_of_a_zero_byte = simp evaluate refl

create_of_dot :
    (serial start (Ask (Create (h 1) (46 ∷ []) (Unchecked no_attributes)) nobody) (at 1) false).reply
    ≡ fails Exists 2
create_of_dot = simp evaluate refl

create_of_dot_dot :
    (serial start (Ask (Create (h 1) (46 ∷ (46 ∷ [])) (Unchecked no_attributes)) nobody) (at 1) false).reply
    ≡ fails Exists 2
create_of_dot_dot = simp evaluate refl

guarded_creation_of_a_name_that_is_there :
    (serial (with_file (file [] no_blocks)) (Ask
    (Create (h 1) a (Guarded (record no_attributes { atime = ClientTime (record { seconds = 1; nanoseconds = 1000000000 }) }))) nobody) (at 2) false).reply
    ≡ fails Exists 2
guarded_creation_of_a_name_that_is_there = simp evaluate refl

exclusive_creation_over_a_file_without_a_verifier :
    (serial (with_file (file [] no_blocks)) (Ask (Create (h 1) a (Exclusive (replicate 8 1))) nobody) (at 2) false).reply
    ≡ fails Exists 2
exclusive_creation_over_a_file_without_a_verifier = simp evaluate refl

exclusive_creation_by_another_verifier :
    (serial (with_file (exclusive_file 2)) (Ask (Create (h 1) a (Exclusive (replicate 8 1))) nobody) (at 2) false).reply
    ≡ fails Exists 2
exclusive_creation_by_another_verifier = simp evaluate refl

exclusive_creation_again :
    (serial (with_file (exclusive_file 1)) (Ask (Create (h 1) a (Exclusive (replicate 8 1))) nobody) (at 2) false).reply
    ≡ Success (MadeDone (h 2) (file_shown 2 0 0 1 1) (changed (before 4096 1 1) (root_shown 2 1)))
exclusive_creation_again = simp evaluate refl

exclusive_creation_over_a_directory :
    (serial with_tree (Ask (Create (h 1) d (Exclusive (replicate 8 1))) nobody) (at 2) false).reply
    ≡ fails Exists 2
exclusive_creation_over_a_directory = simp evaluate refl

unchecked_creation_over_a_directory :
    (serial with_tree (Ask (Create (h 1) d (Unchecked no_attributes)) nobody) (at 2) false).reply
    ≡ fails Exists 2
unchecked_creation_over_a_directory = simp evaluate refl

unchecked_creation_over_a_file_settles :
    (serial (with_file (file [] no_blocks)) (Ask (Create (h 1) a (Unchecked no_attributes)) nobody) (at 2) false).reply
    ≡ Success (MadeDone (h 2) (file_shown 2 0 0 1 2) (changed (before 4096 1 1) (root_shown 2 1)))
unchecked_creation_over_a_file_settles = simp evaluate refl

unchecked_creation_cuts :
    (serial (with_file (file (1 ∷ (2 ∷ (3 ∷ []))) block_0)) (Ask (Create (h 1) a (Unchecked (record no_attributes { size = Some 0 }))) nobody)
    (at 2) false).reply
    ≡ Success (MadeDone (h 2) (file_shown 2 0 0 2 2) (changed (before 4096 1 1) (root_shown 2 1)))
unchecked_creation_cuts = simp evaluate refl

unchecked_creation_over_a_file_with_a_bad_time :
    (serial (with_file (file (1 ∷ (2 ∷ (3 ∷ []))) block_0))
    (Ask (Create (h 1) a (Unchecked (record no_attributes { mtime = ClientTime (record { seconds = 1; nanoseconds = 1000000000 }) }))) nobody)
    (at 2) false).reply
    ≡ fails Invalid 2
unchecked_creation_over_a_file_with_a_bad_time = simp evaluate refl

unchecked_creation_over_a_file_past_the_largest :
    (serial (narrow (file [] no_blocks)) (Ask (Create (h 1) a (Unchecked (record no_attributes { size = Some 9 }))) nobody) (at 2) false).reply
    ≡ fails TooBig 2
unchecked_creation_over_a_file_past_the_largest = simp evaluate refl

creation_with_a_bad_time :
    (serial (narrow (file [] no_blocks)) (Ask
    (Create (h 1) b (Unchecked (record no_attributes { size = Some 9; atime = ClientTime (record { seconds = 1; nanoseconds = 1000000000 }) }))) nobody)
    (at 2) false).reply
    ≡ fails Invalid 2
creation_with_a_bad_time = simp evaluate refl

creation_past_the_largest :
    (serial (narrow (file [] no_blocks)) (Ask (Create (h 1) b (Guarded (record no_attributes { size = Some 9 }))) nobody) (at 2) false).reply
    ≡ fails TooBig 2
creation_past_the_largest = simp evaluate refl

-- ---- CREATE: what it makes

file_by_default :
    (serial (with_file (file [] no_blocks)) (Ask (Create (h 1) b (Guarded no_attributes)) nobody) (at 2) false).reply
    ≡ Success (MadeDone (h 3) (record (file_shown 3 0 0 2 2) { atime = at 2 }) (changed (before 4096 1 1) (root_shown 2 2)))
file_by_default = simp evaluate refl

file_as_given :
    (serial (narrow (file [] no_blocks)) (Ask
    (Create (h 1) b (Unchecked (record no_attributes {
      mode = Some 65535;
      uid = Some 7;
      gid = Some 8;
      size = Some 8;
      atime = ClientTime
          (at 5);
      mtime = ClientTime (at 6);
    }))) nobody) (at 2) false).reply
    ≡ Success (MadeDone (h 3) (record (file_shown 3 8 0 6 2) { mode = 4095; uid = 7; gid = 8; atime = at 5 }) (changed (before 4096 1 1) (root_shown 2 2)))
file_as_given = simp evaluate refl

file_of_an_exclusive_creation :
    (serial start (Ask (Create (h 1) f (Exclusive (replicate 8 17))) nobody) (at 7) false).reply
    ≡ Success (MadeDone (h 2) (record (file_shown 2 0 0 7 7) { atime = at 7 }) (changed (before 4096 0 0) (root_shown 2 7)))
file_of_an_exclusive_creation = simp evaluate refl

verifier_lives_through_setattr :
    (serial (serial (serial start (Ask (Create (h 1) f (Exclusive (replicate 8 17))) nobody) (at 7) false).server
    (Ask (Setattr (h 2) no_attributes None) nobody) (at 8) false).server (Ask (Create (h 1) f (Exclusive (replicate 8 17))) nobody) (at 9) false).reply
    ≡ Success (MadeDone (h 2) (record (file_shown 2 0 0 7 8) { atime = at 7 }) (changed (before 4096 7 7) (root_shown 2 7)))
verifier_lives_through_setattr = simp evaluate refl

file_below_a_directory :
    (serial with_tree (Ask (Create (h 2) a (Unchecked no_attributes)) nobody) (at 2) false).reply
    ≡ Success (MadeDone (h 4) (record (file_shown 4 0 0 2 2) { atime = at 2 }) (changed (before 4096 1 1) (record (directory_shown 2 2 2) { atime = at 1 })))
file_below_a_directory = simp evaluate refl

fileids_are_not_used_again :
    (serial (serial (with_file (file [] no_blocks)) (Ask (Remove root a) nobody) (at 2) false).server (Ask (Create (h 1) a (Unchecked no_attributes)) nobody)
    (at 3) false).reply
    ≡ Success (MadeDone (h 3) (record (file_shown 3 0 0 3 3) { atime = at 3 }) (changed (before 4096 2 2) (root_shown 2 3)))
fileids_are_not_used_again = simp evaluate refl

-- ---- MKDIR

mkdir_below_a_bad_handle :
    (serial start (Ask (Mkdir (replicate 11 0) a no_attributes) nobody) (at 1) false).reply
    ≡ fails BadHandle 2
mkdir_below_a_bad_handle = refl

mkdir_in_an_absent_directory :
    (serial start (Ask (Mkdir (h 2) a no_attributes) nobody) (at 1) false).reply
    ≡ fails Stale 2
mkdir_in_an_absent_directory = simp evaluate refl

mkdir_in_a_file :
    (serial (with_file (file [] no_blocks)) (Ask (Mkdir (h 2) (replicate 256 97) no_attributes) nobody) (at 1) false).reply
    ≡ fails NotDirectory 2
mkdir_in_a_file = simp evaluate refl

mkdir_of_256_bytes :
    (serial start (Ask (Mkdir root (replicate 256 47) no_attributes) nobody) (at 1) false).reply
    ≡ fails NameTooLong 2
mkdir_of_256_bytes = simp evaluate refl

mkdir_of_no_bytes :
    (serial start (Ask (Mkdir root [] no_attributes) nobody) (at 1) false).reply
    ≡ fails Access 2
mkdir_of_no_bytes = simp evaluate refl

mkdir_of_a_slash :
    (serial start (Ask (Mkdir root (97 ∷ (47 ∷ [])) no_attributes) nobody) (at 1) false).reply
    ≡ fails Access 2
mkdir_of_a_slash = simp evaluate refl

mkdir_of_a_zero_byte :
    (serial start (Ask (Mkdir root (97 ∷ (0 ∷ [])) no_attributes) nobody) (at 1) false).reply
    ≡ fails Access 2
mkdir_of_a_zero_byte = simp evaluate refl

mkdir_of_dot :
    (serial start (Ask (Mkdir (h 1) (46 ∷ []) no_attributes) nobody) (at 1) false).reply
    ≡ fails Exists 2
mkdir_of_dot = simp evaluate refl

mkdir_of_dot_dot :
    (serial start (Ask (Mkdir (h 1) (46 ∷ (46 ∷ [])) no_attributes) nobody) (at 1) false).reply
    ≡ fails Exists 2
mkdir_of_dot_dot = simp evaluate refl

mkdir_of_a_name_that_is_there :
    (serial (with_file (file [] no_blocks)) (Ask (Mkdir (h 1) a (record no_attributes { size = Some 0 })) nobody) (at 2) false).reply
    ≡ fails Exists 2
mkdir_of_a_name_that_is_there = simp evaluate refl

mkdir_with_a_bad_time :
    (serial start (Ask (Mkdir (h 1) a (record no_attributes { mtime = ClientTime (record { seconds = 1; nanoseconds = 1000000000 }) })) nobody)
    (at 2) false).reply
    ≡ fails Invalid 2
mkdir_with_a_bad_time = simp evaluate refl

mkdir_with_a_size :
    (serial start (Ask (Mkdir (h 1) a (record no_attributes { size = Some 0 })) nobody) (at 2) false).reply
    ≡ fails Invalid 2
mkdir_with_a_size = simp evaluate refl

directory_by_default :
    (serial start (Ask (Mkdir (h 1) d no_attributes) nobody) (at 2) false).reply
    ≡ Success (MadeDone (h 2) (directory_shown 2 2 2) (changed (before 4096 0 0) (root_shown 3 2)))
directory_by_default = simp evaluate refl

directory_as_given :
    (serial start (Ask (Mkdir (h 1) d (record no_attributes {
      mode = Some 448;
      uid = Some 7;
      gid = Some 8;
      atime = ClientTime
          (at 5);
      mtime = ServerTime;
    })) nobody) (at 2) false).reply
    ≡ Success (MadeDone (h 2) (record (directory_shown 2 2 2) { mode = 448; uid = 7; gid = 8; atime = at 5 }) (changed (before 4096 0 0) (root_shown 3 2)))
directory_as_given = simp evaluate refl

parent_of_a_made_directory :
    (serial (serial (serial start (Ask (Mkdir (h 1) d no_attributes) nobody) (at 2) false).server (Ask (Mkdir (h 2) e no_attributes) nobody)
    (at 3) false).server (Ask (Lookup (h 3) (46 ∷ (46 ∷ []))) nobody) (at 4) false).reply
    ≡ Success (LookupDone (h 2) (record (directory_shown 2 3 3) { atime = at 2 }) (directory_shown 3 2 3))
parent_of_a_made_directory = simp evaluate refl

-- ---- the most inodes

volume_of_65536_inodes_is_full : (v : VolumeState) → v.most_inodes ≡ 65536 → len v.nodes ≡ 65536 → is_full v ≡ true
volume_of_65536_inodes_is_full v most same = λ j. nat_le (most j) (same j)

volume_of_65535_inodes_is_not : (v : VolumeState) → v.most_inodes ≡ 65536 → len v.nodes ≡ 65535 → is_full v ≡ false
volume_of_65535_inodes_is_not v most same = λ j. nat_le (most j) (same j)

-- another volume's limit
volume_of_more_inodes_is_not : (v : VolumeState) → v.most_inodes ≡ 65537 → len v.nodes ≡ 65536 → is_full v ≡ false
volume_of_more_inodes_is_not v most same = λ j. nat_le (most j) (same j)

abbrev if_full : Bool → Option Status
if_full full = if full then Some NoSpace else None

full_volume_has_no_space_for_a_file : (v : VolumeState) → is_full v ≡ true → create_fault v no_attributes ≡ Some NoSpace
full_volume_has_no_space_for_a_file v full = ap if_full full

full_volume_has_no_space_for_a_directory : (v : VolumeState) → is_full v ≡ true → mkdir_fault v no_attributes ≡ Some NoSpace
full_volume_has_no_space_for_a_directory v full = ap if_full full

times_come_before_the_inodes : (v : VolumeState)
    → create_fault v (record no_attributes { atime = ClientTime (record { seconds = 1; nanoseconds = 1000000000 }) }) ≡ Some Invalid
times_come_before_the_inodes v = refl

largest_size_comes_before_the_inodes : (v : VolumeState) → v.largest ≡ 8 → create_fault v (record no_attributes { size = Some 9 }) ≡ Some TooBig
largest_size_comes_before_the_inodes v small = ap (λ (n : ℕ). if nat_lt n 9 then Some TooBig else if_full (is_full v)) small
