-- RENAME (RFC 1813 section 3.3.14).
use Rattle.std.proofs.Common.{◌≡◌, true, false, [], ◌∷◌, replicate, refl}
use Rattle.nfs_model.specs.Types.{Unchecked, Exclusive, Getattr, Lookup, Create, Mkdir, Rename, Readdir, Ask, Success, GetattrDone, LookupDone, MadeDone}
use Rattle.nfs_model.specs.Types.{RenameDone, ReaddirDone, NoEntry, Access, Exists, CrossVolume, NotDirectory, Invalid, NameTooLong, Stale, BadHandle}
use Rattle.nfs_model.specs.Server.{handle_bytes}
use Rattle.nfs_model.specs.Serial.Create.{no_attributes}
use Rattle.nfs_model.specs.Serial.Step.{serial}
use Rattle.nfs_laws.specs.lemmas.Evaluate.{evaluate}
use Rattle.nfs_laws.proofs.rows.Cases.{start, deep, at, nobody, h, root, fails, a, b, d, e, f, x, entry, block_0, touched_file, exclusive_file, file, no_blocks, with_file, with_four, with_two_directories}
use Rattle.nfs_laws.proofs.rows.Cases.{root_shown, directory_shown, file_shown, before, changed}

-- ---- checks in order

rename_from_a_bad_handle :
    (serial start (Ask (Rename (replicate 11 0) a root b) nobody) (at 1) false).reply
    ≡ fails BadHandle 4
rename_from_a_bad_handle = refl

rename_to_a_bad_handle :
    (serial start (Ask (Rename root a (replicate 11 0) b) nobody) (at 1) false).reply
    ≡ fails BadHandle 4
rename_to_a_bad_handle = refl

rename_over_volumes :
    (serial start (Ask (Rename (h 9) a (handle_bytes 1 1) b) nobody) (at 1) false).reply
    ≡ fails CrossVolume 4
rename_over_volumes = refl

rename_from_an_absent_directory :
    (serial start (Ask (Rename (h 9) a root b) nobody) (at 1) false).reply
    ≡ fails Stale 4
rename_from_an_absent_directory = simp evaluate refl

rename_to_an_absent_directory :
    (serial start (Ask (Rename root a (h 9) b) nobody) (at 1) false).reply
    ≡ fails Stale 4
rename_to_an_absent_directory = simp evaluate refl

rename_from_a_file_to_an_absent_directory :
    (serial with_four (Ask (Rename (h 2) a (h 9) b) nobody) (at 1) false).reply
    ≡ fails NotDirectory 4
rename_from_a_file_to_an_absent_directory = simp evaluate refl

rename_to_a_file :
    (serial with_four (Ask (Rename root [] (h 2) b) nobody) (at 1) false).reply
    ≡ fails NotDirectory 4
rename_to_a_file = simp evaluate refl

rename_from_a_long_name :
    (serial with_four (Ask (Rename root (replicate 256 97) root []) nobody) (at 1) false).reply
    ≡ fails NameTooLong 4
rename_from_a_long_name = simp evaluate refl

rename_from_no_name :
    (serial with_four (Ask (Rename root [] root (replicate 256 97)) nobody) (at 1) false).reply
    ≡ fails Access 4
rename_from_no_name = simp evaluate refl

rename_to_a_long_name :
    (serial with_four (Ask (Rename root (46 ∷ []) root (replicate 256 97)) nobody) (at 1) false).reply
    ≡ fails NameTooLong 4
rename_to_a_long_name = simp evaluate refl

rename_to_a_slash :
    (serial with_four (Ask (Rename root a root (47 ∷ [])) nobody) (at 1) false).reply
    ≡ fails Access 4
rename_to_a_slash = simp evaluate refl

rename_of_dot :
    (serial with_four (Ask (Rename root (46 ∷ []) root x) nobody) (at 1) false).reply
    ≡ fails Invalid 4
rename_of_dot = simp evaluate refl

rename_of_dot_dot :
    (serial with_four (Ask (Rename (h 4) (46 ∷ (46 ∷ [])) root x) nobody) (at 1) false).reply
    ≡ fails Invalid 4
rename_of_dot_dot = simp evaluate refl

rename_to_dot :
    (serial with_four (Ask (Rename root x root (46 ∷ [])) nobody) (at 1) false).reply
    ≡ fails Invalid 4
rename_to_dot = simp evaluate refl

rename_to_dot_dot :
    (serial with_four (Ask (Rename root x (h 4) (46 ∷ (46 ∷ []))) nobody) (at 1) false).reply
    ≡ fails Invalid 4
rename_to_dot_dot = simp evaluate refl

rename_of_a_name_that_is_not_there :
    (serial with_four (Ask (Rename root x root b) nobody) (at 1) false).reply
    ≡ fails NoEntry 4
rename_of_a_name_that_is_not_there = simp evaluate refl

rename_to_the_same_entry :
    (serial with_four (Ask (Rename root b root b) nobody) (at 2) false).reply
    ≡ Success (RenameDone (changed (before 4096 1 1) (root_shown 3 1)) (changed (before 4096 1 1) (root_shown 3 1)))
rename_to_the_same_entry = simp evaluate refl

rename_of_a_directory_to_the_same_entry :
    (serial with_four (Ask (Rename root d root d) nobody) (at 2) false).reply
    ≡ Success (RenameDone (changed (before 4096 1 1) (root_shown 3 1)) (changed (before 4096 1 1) (root_shown 3 1)))
rename_of_a_directory_to_the_same_entry = simp evaluate refl

rename_into_itself :
    (serial with_four (Ask (Rename root d (h 4) x) nobody) (at 2) false).reply
    ≡ fails Invalid 4
rename_into_itself = simp evaluate refl

rename_below_itself :
    (serial with_four (Ask (Rename root d (h 5) x) nobody) (at 2) false).reply
    ≡ fails Invalid 4
rename_below_itself = simp evaluate refl

rename_as_deep_as_the_steps_lead :
    (serial (deep 3) (Ask (Rename root x (h 5) x) nobody) (at 2) false).reply
    ≡ Success (RenameDone (changed (before 4096 1 1) (root_shown 3 2)) (changed (before 4096 1 1) (record (directory_shown 5 4 2) { atime = at 1 })))
rename_as_deep_as_the_steps_lead = simp evaluate refl

rename_up_to_the_root_looks_at_it :
    (serial (deep 1) (Ask (Rename (h 4) e root a) nobody) (at 2) false).reply
    ≡ fails Exists 4
rename_up_to_the_root_looks_at_it = simp evaluate refl

rename_up_to_the_root_without_a_look :
    (serial (deep 0) (Ask (Rename (h 4) e root a) nobody) (at 2) false).reply
    ≡ fails NameTooLong 4
rename_up_to_the_root_without_a_look = simp evaluate refl

absent_name_comes_before_too_deep :
    (serial (deep 0) (Ask (Rename root b (h 5) x) nobody) (at 2) false).reply
    ≡ fails NoEntry 4
absent_name_comes_before_too_deep = simp evaluate refl

rename_deeper_than_the_steps_lead :
    (serial (deep 2) (Ask (Rename root x (h 5) x) nobody) (at 2) false).reply
    ≡ fails NameTooLong 4
rename_deeper_than_the_steps_lead = simp evaluate refl

too_deep_comes_before_a_target_that_may_not_go :
    (serial (deep 2) (Ask (Rename root x (h 5) b) nobody) (at 2) false).reply
    ≡ fails NameTooLong 4
too_deep_comes_before_a_target_that_may_not_go = simp evaluate refl

target_that_may_not_go_in_reach :
    (serial (deep 3) (Ask (Rename root x (h 5) b) nobody) (at 2) false).reply
    ≡ fails Exists 4
target_that_may_not_go_in_reach = simp evaluate refl

rename_below_itself_in_reach :
    (serial (deep 1) (Ask (Rename root d (h 5) x) nobody) (at 2) false).reply
    ≡ fails Invalid 4
rename_below_itself_in_reach = simp evaluate refl

rename_below_itself_out_of_reach :
    (serial (deep 0) (Ask (Rename root d (h 5) x) nobody) (at 2) false).reply
    ≡ fails NameTooLong 4
rename_below_itself_out_of_reach = simp evaluate refl

rename_into_itself_takes_no_step :
    (serial (deep 0) (Ask (Rename root d (h 4) x) nobody) (at 2) false).reply
    ≡ fails Invalid 4
rename_into_itself_takes_no_step = simp evaluate refl

rename_of_a_file_takes_no_step :
    (serial (deep 0) (Ask (Rename root a (h 5) x) nobody) (at 2) false).reply
    ≡ Success (RenameDone (changed (before 4096 1 1) (root_shown 4 2)) (changed (before 4096 1 1) (record (directory_shown 5 3 2) { atime = at 1 })))
rename_of_a_file_takes_no_step = simp evaluate refl

rename_in_one_directory_takes_no_step :
    (serial (deep 0) (Ask (Rename (h 5) f (h 5) x) nobody) (at 2) false).reply
    ≡ Success (RenameDone (changed (before 4096 1 1) (record (directory_shown 5 3 2) { atime = at 1 }))
    (changed (before 4096 1 1) (record (directory_shown 5 3 2) { atime = at 1 })))
rename_in_one_directory_takes_no_step = simp evaluate refl

rename_of_a_file_over_a_directory :
    (serial with_four (Ask (Rename root b root d) nobody) (at 2) false).reply
    ≡ fails Exists 4
rename_of_a_file_over_a_directory = simp evaluate refl

rename_of_a_directory_over_a_file :
    (serial with_four (Ask (Rename root d root b) nobody) (at 2) false).reply
    ≡ fails Exists 4
rename_of_a_directory_over_a_file = simp evaluate refl

rename_of_a_directory_over_a_full_one :
    (serial (serial with_four (Ask (Mkdir root x no_attributes) nobody) (at 2) false).server (Ask (Rename root x root d) nobody) (at 3) false).reply
    ≡ fails Exists 4
rename_of_a_directory_over_a_full_one = simp evaluate refl

-- ---- what it does

rename_over_a_file :
    (serial with_four (Ask (Rename root a root b) nobody) (at 2) false).reply
    ≡ Success (RenameDone (changed (before 4096 1 1) (root_shown 3 2)) (changed (before 4096 1 1) (root_shown 3 2)))
rename_over_a_file = simp evaluate refl

renamed_file_is_there :
    (serial (serial with_four (Ask (Rename root a root b) nobody) (at 2) false).server (Ask (Lookup root b) nobody) (at 3) false).reply
    ≡ Success (LookupDone (h 2) (file_shown 2 0 0 1 2) (root_shown 3 2))
renamed_file_is_there = simp evaluate refl

renamed_name_is_gone :
    (serial (serial with_four (Ask (Rename root a root b) nobody) (at 2) false).server (Ask (Lookup root a) nobody) (at 3) false).reply
    ≡ fails NoEntry 1
renamed_name_is_gone = simp evaluate refl

replaced_file_is_stale :
    (serial (serial with_four (Ask (Rename root a root b) nobody) (at 2) false).server (Ask (Getattr (h 3)) nobody) (at 3) false).reply
    ≡ fails Stale 0
replaced_file_is_stale = simp evaluate refl

rename_takes_a_new_cookie :
    (serial (serial with_four (Ask (Rename root a root b) nobody) (at 2) false).server (Ask (Readdir root 3 (replicate 8 0) 512) nobody) (at 3) false).reply
    ≡ Success (ReaddirDone (root_shown 3 2) (entry 5 d 4 ∷ (entry 6 b 2 ∷ [])) true)
rename_takes_a_new_cookie = simp evaluate refl

cookie_of_a_rename_is_not_used_again :
    (serial (serial (serial (with_file (file [] no_blocks)) (Ask (Rename root a root x) nobody) (at 2) false).server
    (Ask (Create root a (Unchecked no_attributes)) nobody) (at 3) false).server (Ask (Readdir root 3 (replicate 8 0) 512) nobody) (at 4) false).reply
    ≡ Success (ReaddirDone (root_shown 2 3) (entry 4 x 2 ∷ (entry 5 a 3 ∷ [])) true)
cookie_of_a_rename_is_not_used_again = simp evaluate refl

rename_settles_the_file :
    (serial (serial (with_file (touched_file 9 (1 ∷ []) block_0)) (Ask (Rename root a root b) nobody) (at 10) false).server (Ask (Getattr (h 2)) nobody)
    (at 11) false).reply
    ≡ Success (GetattrDone (file_shown 2 1 4096 9 10))
rename_settles_the_file = simp evaluate refl

rename_out_of_a_directory :
    (serial with_four (Ask (Rename (h 4) e root x) nobody) (at 2) false).reply
    ≡ Success (RenameDone (changed (before 4096 1 1) (record (directory_shown 4 2 2) { atime = at 1 })) (changed (before 4096 1 1) (root_shown 4 2)))
rename_out_of_a_directory = simp evaluate refl

rename_changes_the_parent :
    (serial (serial with_four (Ask (Rename (h 4) e root x) nobody) (at 2) false).server (Ask (Lookup (h 5) (46 ∷ (46 ∷ []))) nobody) (at 3) false).reply
    ≡ Success (LookupDone (h 1) (root_shown 4 2) (record (directory_shown 5 2 1) { ctime = at 2 }))
rename_changes_the_parent = simp evaluate refl

rename_into_a_directory :
    (serial with_four (Ask (Rename root a (h 4) x) nobody) (at 2) false).reply
    ≡ Success (RenameDone (changed (before 4096 1 1) (root_shown 3 2)) (changed (before 4096 1 1) (record (directory_shown 4 3 2) { atime = at 1 })))
rename_into_a_directory = simp evaluate refl

rename_over_an_empty_directory :
    (serial (serial with_two_directories (Ask (Mkdir (h 2) e no_attributes) nobody) (at 2) false).server (Ask (Rename (h 2) e root x) nobody) (at 3) false).reply
    ≡ Success (RenameDone (changed (before 4096 2 2) (record (directory_shown 2 2 3) { atime = at 1 })) (changed (before 4096 1 1) (root_shown 4 3)))
rename_over_an_empty_directory = simp evaluate refl

replaced_directory_is_stale :
    (serial (serial with_two_directories (Ask (Rename root d root x) nobody) (at 3) false).server (Ask (Getattr (h 3)) nobody) (at 4) false).reply
    ≡ fails Stale 0
replaced_directory_is_stale = simp evaluate refl

verifier_lives_through_rename :
    (serial (serial (with_file (exclusive_file 1)) (Ask (Rename root a root b) nobody) (at 2) false).server
    (Ask (Create root b (Exclusive (replicate 8 1))) nobody) (at 3) false).reply
    ≡ Success (MadeDone (h 2) (file_shown 2 0 0 1 2) (changed (before 4096 2 2) (root_shown 2 2)))
verifier_lives_through_rename = simp evaluate refl
