-- REMOVE and RMDIR (RFC 1813 sections 3.3.12 and 3.3.13).
use Rattle.std.proofs.Common.{◌≡◌, false, [], ◌∷◌, replicate, refl}
use Rattle.nfs_model.specs.Types.{Getattr, Lookup, Remove, Rmdir, Fsstat, Ask, Success, GoneDone, FsstatDone, NoEntry, Access, Exists, NotDirectory}
use Rattle.nfs_model.specs.Types.{IsDirectory, Invalid, NameTooLong, NotEmpty, Stale, BadHandle}
use Rattle.nfs_model.specs.Serial.Step.{serial}
use Rattle.nfs_laws.specs.lemmas.Evaluate.{evaluate}
use Rattle.nfs_laws.proofs.rows.Cases.{start, at, nobody, h, root, fails, a, d, f, no_blocks, block_0, file, with_file, with_tree, root_shown, before, changed}

-- ---- REMOVE

remove_below_a_bad_handle :
    (serial start (Ask (Remove (replicate 11 0) a) nobody) (at 1) false).reply
    ≡ fails BadHandle 2
remove_below_a_bad_handle = refl

remove_in_an_absent_directory :
    (serial start (Ask (Remove (h 2) a) nobody) (at 1) false).reply
    ≡ fails Stale 2
remove_in_an_absent_directory = simp evaluate refl

remove_in_a_file :
    (serial (with_file (file [] no_blocks)) (Ask (Remove (h 2) (replicate 256 97)) nobody) (at 1) false).reply
    ≡ fails NotDirectory 2
remove_in_a_file = simp evaluate refl

remove_of_256_bytes :
    (serial start (Ask (Remove root (replicate 256 47)) nobody) (at 1) false).reply
    ≡ fails NameTooLong 2
remove_of_256_bytes = simp evaluate refl

remove_of_no_bytes :
    (serial start (Ask (Remove root []) nobody) (at 1) false).reply
    ≡ fails Access 2
remove_of_no_bytes = simp evaluate refl

remove_of_a_slash :
    (serial start (Ask (Remove root (97 ∷ (47 ∷ []))) nobody) (at 1) false).reply
    ≡ fails Access 2
remove_of_a_slash = simp evaluate refl

remove_of_a_zero_byte :
    (serial start (Ask (Remove root (97 ∷ (0 ∷ []))) nobody) (at 1) false).reply
    ≡ fails Access 2
remove_of_a_zero_byte = simp evaluate refl

remove_of_dot :
    (serial start (Ask (Remove root (46 ∷ [])) nobody) (at 1) false).reply
    ≡ fails Invalid 2
remove_of_dot = simp evaluate refl

remove_of_dot_dot :
    (serial start (Ask (Remove root (46 ∷ (46 ∷ []))) nobody) (at 1) false).reply
    ≡ fails Invalid 2
remove_of_dot_dot = simp evaluate refl

remove_of_a_name_that_is_not_there :
    (serial start (Ask (Remove root a) nobody) (at 1) false).reply
    ≡ fails NoEntry 2
remove_of_a_name_that_is_not_there = simp evaluate refl

remove_of_a_directory :
    (serial with_tree (Ask (Remove root d) nobody) (at 1) false).reply
    ≡ fails IsDirectory 2
remove_of_a_directory = simp evaluate refl

removed_file :
    (serial (with_file (file (1 ∷ (2 ∷ (3 ∷ []))) block_0)) (Ask (Remove root a) nobody) (at 2) false).reply
    ≡ Success (GoneDone (changed (before 4096 1 1) (root_shown 2 2)))
removed_file = simp evaluate refl

removed_file_is_stale :
    (serial (serial (with_file (file (1 ∷ (2 ∷ (3 ∷ []))) block_0)) (Ask (Remove root a) nobody) (at 2) false).server (Ask (Getattr (h 2)) nobody)
    (at 3) false).reply
    ≡ fails Stale 0
removed_file_is_stale = simp evaluate refl

removed_name_is_gone :
    (serial (serial (with_file (file (1 ∷ (2 ∷ (3 ∷ []))) block_0)) (Ask (Remove root a) nobody) (at 2) false).server (Ask (Lookup root a) nobody)
    (at 3) false).reply
    ≡ fails NoEntry 1
removed_name_is_gone = simp evaluate refl

removed_blocks_are_space :
    (serial (serial (with_file (file (1 ∷ (2 ∷ (3 ∷ []))) block_0)) (Ask (Remove root a) nobody) (at 2) false).server (Ask (Fsstat root) nobody)
    (at 3) false).reply
    ≡ Success (FsstatDone (root_shown 2 2) (record { total_bytes = 4194304; free_bytes = 4194304; inodes = 65536; free_inodes = 65535 }))
removed_blocks_are_space = simp evaluate refl

-- ---- RMDIR

rmdir_below_a_bad_handle :
    (serial start (Ask (Rmdir (replicate 11 0) a) nobody) (at 1) false).reply
    ≡ fails BadHandle 2
rmdir_below_a_bad_handle = refl

rmdir_in_an_absent_directory :
    (serial start (Ask (Rmdir (h 2) a) nobody) (at 1) false).reply
    ≡ fails Stale 2
rmdir_in_an_absent_directory = simp evaluate refl

rmdir_in_a_file :
    (serial (with_file (file [] no_blocks)) (Ask (Rmdir (h 2) (replicate 256 97)) nobody) (at 1) false).reply
    ≡ fails NotDirectory 2
rmdir_in_a_file = simp evaluate refl

rmdir_of_256_bytes :
    (serial start (Ask (Rmdir root (replicate 256 47)) nobody) (at 1) false).reply
    ≡ fails NameTooLong 2
rmdir_of_256_bytes = simp evaluate refl

rmdir_of_no_bytes :
    (serial start (Ask (Rmdir root []) nobody) (at 1) false).reply
    ≡ fails Access 2
rmdir_of_no_bytes = simp evaluate refl

rmdir_of_a_slash :
    (serial start (Ask (Rmdir root (97 ∷ (47 ∷ []))) nobody) (at 1) false).reply
    ≡ fails Access 2
rmdir_of_a_slash = simp evaluate refl

rmdir_of_a_zero_byte :
    (serial start (Ask (Rmdir root (97 ∷ (0 ∷ []))) nobody) (at 1) false).reply
    ≡ fails Access 2
rmdir_of_a_zero_byte = simp evaluate refl

rmdir_of_dot :
    (serial start (Ask (Rmdir root (46 ∷ [])) nobody) (at 1) false).reply
    ≡ fails Invalid 2
rmdir_of_dot = simp evaluate refl

rmdir_of_dot_dot :
    (serial start (Ask (Rmdir root (46 ∷ (46 ∷ []))) nobody) (at 1) false).reply
    ≡ fails Exists 2
rmdir_of_dot_dot = simp evaluate refl

rmdir_of_a_name_that_is_not_there :
    (serial start (Ask (Rmdir root a) nobody) (at 1) false).reply
    ≡ fails NoEntry 2
rmdir_of_a_name_that_is_not_there = simp evaluate refl

rmdir_of_a_file :
    (serial (with_file (file [] no_blocks)) (Ask (Rmdir root a) nobody) (at 1) false).reply
    ≡ fails NotDirectory 2
rmdir_of_a_file = simp evaluate refl

rmdir_of_a_full_directory :
    (serial with_tree (Ask (Rmdir root d) nobody) (at 1) false).reply
    ≡ fails NotEmpty 2
rmdir_of_a_full_directory = simp evaluate refl

removed_directory :
    (serial (serial with_tree (Ask (Remove (h 2) f) nobody) (at 2) false).server (Ask (Rmdir root d) nobody) (at 3) false).reply
    ≡ Success (GoneDone (changed (before 4096 1 1) (root_shown 2 3)))
removed_directory = simp evaluate refl

removed_directory_is_stale :
    (serial (serial (serial with_tree (Ask (Remove (h 2) f) nobody) (at 2) false).server (Ask (Rmdir root d) nobody) (at 3) false).server
    (Ask (Getattr (h 2)) nobody) (at 4) false).reply
    ≡ fails Stale 0
removed_directory_is_stale = simp evaluate refl
