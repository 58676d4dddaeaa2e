-- READ and WRITE (RFC 1813 sections 3.3.6 and 3.3.7).
use Rattle.std.proofs.Common.{◌≡◌, true, false, [], ◌∷◌, replicate, Some, None, refl}
use Rattle.nfs_model.specs.Types.{Getattr, Read, Write, Ask, Success, GetattrDone, ReadDone, WriteDone, Invalid, TooBig, NoSpace, Stale, BadHandle}
use Rattle.nfs_model.specs.Shown.{touched}
use Rattle.nfs_model.specs.Serial.Write.{blocks_met, write_fault}
use Rattle.nfs_model.specs.Serial.Step.{serial}
use Rattle.nfs_laws.specs.lemmas.Evaluate.{evaluate}
use Rattle.nfs_laws.proofs.rows.Cases.{verifier, start, at, nobody, h, root, fails, a, write_at, entry, no_blocks, block_0, file, touched_file, root_with}
use Rattle.nfs_laws.proofs.rows.Cases.{volume_with, small, with_file, narrow, tight, file_shown}

-- ---- READ

read_of_a_bad_handle :
    (serial start (Ask (Read (replicate 11 0) 0 1) nobody) (at 1) false).reply
    ≡ fails BadHandle 1
read_of_a_bad_handle = refl

read_of_an_absent_node :
    (serial start (Ask (Read (h 2) 0 1) nobody) (at 1) false).reply
    ≡ fails Stale 1
read_of_an_absent_node = simp evaluate refl

read_of_a_directory :
    (serial start (Ask (Read root 0 1) nobody) (at 1) false).reply
    ≡ fails Invalid 1
read_of_a_directory = simp evaluate refl

read_of_all :
    (serial (with_file (file (1 ∷ (2 ∷ (3 ∷ []))) block_0)) (Ask (Read (h 2) 0 3) nobody) (at 1) false).reply
    ≡ Success (ReadDone 3 true (1 ∷ (2 ∷ (3 ∷ []))))
read_of_all = simp evaluate refl

read_that_ends_before :
    (serial (with_file (file (1 ∷ (2 ∷ (3 ∷ []))) block_0)) (Ask (Read (h 2) 0 2) nobody) (at 1) false).reply
    ≡ Success (ReadDone 2 false (1 ∷ (2 ∷ [])))
read_that_ends_before = simp evaluate refl

read_past_the_end :
    (serial (with_file (file (1 ∷ (2 ∷ (3 ∷ []))) block_0)) (Ask (Read (h 2) 2 9) nobody) (at 1) false).reply
    ≡ Success (ReadDone 1 true (3 ∷ []))
read_past_the_end = simp evaluate refl

read_at_the_end :
    (serial (with_file (file (1 ∷ (2 ∷ (3 ∷ []))) block_0)) (Ask (Read (h 2) 3 9) nobody) (at 1) false).reply
    ≡ Success (ReadDone 0 true [])
read_at_the_end = simp evaluate refl

read_far_past_the_end :
    (serial (with_file (file (1 ∷ (2 ∷ (3 ∷ []))) block_0)) (Ask (Read (h 2) 18446744073709551615 2) nobody) (at 1) false).reply
    ≡ Success (ReadDone 0 true [])
read_far_past_the_end = simp evaluate refl

read_of_nothing_before_the_end :
    (serial (with_file (file (1 ∷ (2 ∷ (3 ∷ []))) block_0)) (Ask (Read (h 2) 2 0) nobody) (at 1) false).reply
    ≡ Success (ReadDone 0 false [])
read_of_nothing_before_the_end = simp evaluate refl

read_of_nothing_at_the_end :
    (serial (with_file (file (1 ∷ (2 ∷ (3 ∷ []))) block_0)) (Ask (Read (h 2) 3 0) nobody) (at 1) false).reply
    ≡ Success (ReadDone 0 true [])
read_of_nothing_at_the_end = simp evaluate refl

read_of_an_empty_file :
    (serial (with_file (file [] no_blocks)) (Ask (Read (h 2) 0 0) nobody) (at 1) false).reply
    ≡ Success (ReadDone 0 true [])
read_of_an_empty_file = simp evaluate refl

read_leaves_atime :
    (serial (serial (with_file (file (1 ∷ (2 ∷ (3 ∷ []))) block_0)) (Ask (Read (h 2) 0 3) nobody) (at 5) false).server (Ask (Getattr (h 2)) nobody)
    (at 6) false).reply
    ≡ Success (GetattrDone (file_shown 2 3 4096 1 1))
read_leaves_atime = simp evaluate refl

larger_count_of_a_read_is_cut :
    (serial (with_file (file (replicate 65537 7) block_0)) (Ask (Read (h 2) 0 4294967295) nobody) (at 1) false).reply
    ≡ Success (ReadDone 65536 false (replicate 65536 7))
larger_count_of_a_read_is_cut = simp evaluate refl

-- ---- WRITE: checks in order

write_of_a_bad_handle :
    (serial start (Ask (Write (replicate 11 0) 0 2 []) nobody) (at 1) false).reply
    ≡ fails BadHandle 2
write_of_a_bad_handle = refl

write_of_an_absent_node :
    (serial start (Ask (Write (h 2) 0 2 []) nobody) (at 1) false).reply
    ≡ fails Stale 2
write_of_an_absent_node = simp evaluate refl

write_of_a_directory :
    (serial start (Ask (Write (h 1) 0 2 []) nobody) (at 1) false).reply
    ≡ fails Invalid 2
write_of_a_directory = simp evaluate refl

count_less_than_the_data :
    (serial (with_file (file [] no_blocks)) (Ask (Write (h 2) 0 3 (1 ∷ (2 ∷ (3 ∷ (4 ∷ []))))) nobody) (at 1) false).reply
    ≡ fails Invalid 2
count_less_than_the_data = simp evaluate refl

count_more_than_the_data :
    (serial (with_file (file [] no_blocks)) (Ask (Write (h 2) 0 2 (1 ∷ [])) nobody) (at 1) false).reply
    ≡ fails Invalid 2
count_more_than_the_data = simp evaluate refl

count_0_with_data :
    (serial (with_file (file [] no_blocks)) (Ask (Write (h 2) 16777216 0 (1 ∷ [])) nobody) (at 1) false).reply
    ≡ fails Invalid 2
count_0_with_data = simp evaluate refl

write_of_nothing_past_the_largest :
    (serial (narrow (file [] no_blocks)) (Ask (write_at 2 9 []) nobody) (at 1) false).reply
    ≡ Success (WriteDone 0 verifier)
write_of_nothing_past_the_largest = simp evaluate refl

write_of_nothing_changes_nothing :
    (serial (serial (with_file (file [] no_blocks)) (Ask (write_at 2 5 []) nobody) (at 9) false).server (Ask (Getattr (h 2)) nobody) (at 10) false).reply
    ≡ Success (GetattrDone (file_shown 2 0 0 1 1))
write_of_nothing_changes_nothing = simp evaluate refl

write_past_the_largest :
    (serial (narrow (file [] no_blocks)) (Ask (write_at 2 8 (7 ∷ [])) nobody) (at 1) false).reply
    ≡ fails TooBig 2
write_past_the_largest = simp evaluate refl

write_up_to_the_largest :
    (serial (serial (narrow (file [] no_blocks)) (Ask (write_at 2 7 (7 ∷ [])) nobody) (at 9) false).server (Ask (Getattr (h 2)) nobody) (at 10) false).reply
    ≡ Success (GetattrDone (file_shown 2 8 4096 9 9))
write_up_to_the_largest = simp evaluate refl

write_at_16777216 :
    (serial (with_file (file [] no_blocks)) (Ask (write_at 2 16777216 (7 ∷ [])) nobody) (at 9) false).reply
    ≡ fails TooBig 2
write_at_16777216 = simp evaluate refl

largest_size_comes_before_space :
    (serial (tight (file (1 ∷ []) block_0) (file (1 ∷ []) block_0)) (Ask (write_at 2 16777216 (7 ∷ [])) nobody) (at 9) false).reply
    ≡ fails TooBig 2
largest_size_comes_before_space = simp evaluate refl

write_past_the_total :
    (serial (tight (file (1 ∷ []) block_0) (file (1 ∷ []) block_0)) (Ask (write_at 2 4096 (7 ∷ [])) nobody) (at 9) false).reply
    ≡ fails NoSpace 2
write_past_the_total = simp evaluate refl

write_up_to_the_total :
    (serial (tight (file (1 ∷ []) block_0) (file [] no_blocks)) (Ask (write_at 3 0 (7 ∷ [])) nobody) (at 9) false).reply
    ≡ Success (WriteDone 1 verifier)
write_up_to_the_total = simp evaluate refl

write_over_two_blocks_with_one_left :
    (serial (tight (file (1 ∷ []) block_0) (file [] no_blocks)) (Ask (write_at 3 4095 (7 ∷ (8 ∷ []))) nobody) (at 9) false).reply
    ≡ fails NoSpace 2
write_over_two_blocks_with_one_left = simp evaluate refl

write_over_two_blocks_with_two_left :
    (serial (serial (tight (file [] no_blocks) (file [] no_blocks)) (Ask (write_at 3 4095 (7 ∷ (8 ∷ []))) nobody) (at 9) false).server
    (Ask (Getattr (h 3)) nobody) (at 10) false).reply
    ≡ Success (GetattrDone (file_shown 3 4097 8192 9 9))
write_over_two_blocks_with_two_left = simp evaluate refl

write_over_two_blocks_of_which_one_is_filled :
    (serial (serial (tight (file (1 ∷ []) block_0) (file [] no_blocks)) (Ask (write_at 2 4095 (7 ∷ (8 ∷ []))) nobody) (at 9) false).server
    (Ask (Getattr (h 2)) nobody) (at 10) false).reply
    ≡ Success (GetattrDone (file_shown 2 4097 8192 9 9))
write_over_two_blocks_of_which_one_is_filled = simp evaluate refl

overwrite_needs_no_space :
    (serial (tight (file (1 ∷ []) block_0) (file (1 ∷ []) block_0)) (Ask (write_at 2 0 (7 ∷ [])) nobody) (at 9) false).reply
    ≡ Success (WriteDone 1 verifier)
overwrite_needs_no_space = simp evaluate refl

refused_write_changes_nothing :
    (serial (serial (tight (file (1 ∷ []) block_0) (file (1 ∷ []) block_0)) (Ask (write_at 2 4096 (7 ∷ [])) nobody) (at 9) false).server
    (Ask (Getattr (h 2)) nobody) (at 10) false).reply
    ≡ Success (GetattrDone (file_shown 2 1 4096 1 1))
refused_write_changes_nothing = simp evaluate refl

-- ---- WRITE: what it does

written_bytes_are_read :
    (serial (serial (with_file (file (1 ∷ (2 ∷ (3 ∷ []))) block_0)) (Ask (write_at 2 1 (7 ∷ [])) nobody) (at 9) false).server (Ask (Read (h 2) 0 9) nobody)
    (at 10) false).reply
    ≡ Success (ReadDone 3 true (1 ∷ (7 ∷ (3 ∷ []))))
written_bytes_are_read = simp evaluate refl

write_past_the_end_leaves_a_hole :
    (serial (serial (with_file (file (1 ∷ (2 ∷ (3 ∷ []))) block_0)) (Ask (write_at 2 5 (7 ∷ [])) nobody) (at 9) false).server (Ask (Read (h 2) 0 9) nobody)
    (at 10) false).reply
    ≡ Success (ReadDone 6 true (1 ∷ (2 ∷ (3 ∷ (0 ∷ (0 ∷ (7 ∷ [])))))))
write_past_the_end_leaves_a_hole = simp evaluate refl

write_sets_mtime_and_ctime :
    (serial (serial (with_file (file (1 ∷ (2 ∷ (3 ∷ []))) block_0)) (Ask (write_at 2 1 (7 ∷ [])) nobody) (at 9) false).server (Ask (Getattr (h 2)) nobody)
    (at 10) false).reply
    ≡ Success (GetattrDone (file_shown 2 3 4096 9 9))
write_sets_mtime_and_ctime = simp evaluate refl

hole_uses_no_block :
    (serial (serial (with_file (file [] no_blocks)) (Ask (write_at 2 8192 (7 ∷ [])) nobody) (at 9) false).server (Ask (Getattr (h 2)) nobody)
    (at 10) false).reply
    ≡ Success (GetattrDone (file_shown 2 8193 4096 9 9))
hole_uses_no_block = simp evaluate refl

later_touch_stands :
    (serial (serial (with_file (touched_file 9 (1 ∷ []) block_0)) (Ask (write_at 2 0 (7 ∷ [])) nobody) (at 5) false).server (Ask (Getattr (h 2)) nobody)
    (at 10) false).reply
    ≡ Success (GetattrDone (file_shown 2 1 4096 9 9))
later_touch_stands = simp evaluate refl

earlier_touch_goes :
    (serial (serial (with_file (touched_file 9 (1 ∷ []) block_0)) (Ask (write_at 2 0 (7 ∷ [])) nobody) (at 10) false).server (Ask (Getattr (h 2)) nobody)
    (at 10) false).reply
    ≡ Success (GetattrDone (file_shown 2 1 4096 10 10))
earlier_touch_goes = simp evaluate refl

first_touch_may_be_earlier_than_the_stored_times :
    (serial (serial (with_file (file (1 ∷ (2 ∷ (3 ∷ []))) block_0)) (Ask (write_at 2 0 (7 ∷ [])) nobody) (at 0) false).server (Ask (Getattr (h 2)) nobody)
    (at 10) false).reply
    ≡ Success (GetattrDone (file_shown 2 3 4096 0 0))
first_touch_may_be_earlier_than_the_stored_times = simp evaluate refl

count_over_65536_is_cut :
    (serial (small 1024 65536 3 ((1, root_with 4 (entry 3 a 2 ∷ [])) ∷ ((2, file [] no_blocks) ∷ []))) (Ask (Write (h 2) 0 70000 (replicate 70000 7)) nobody)
    (at 9) false).reply
    ≡ Success (WriteDone 65536 verifier)
count_over_65536_is_cut = simp evaluate refl

cut_count_is_what_has_to_fit :
    (serial (small 1024 65536 3 ((1, root_with 4 (entry 3 a 2 ∷ [])) ∷ ((2, file [] no_blocks) ∷ []))) (Ask (Write (h 2) 1 70000 (replicate 70000 7)) nobody)
    (at 9) false).reply
    ≡ fails TooBig 2
cut_count_is_what_has_to_fit = simp evaluate refl

-- ---- the largest size of a file

write_at_16777215_fits : write_fault (volume_with 1024 16777216 3 []) 16777215 1 ≡ None
write_at_16777215_fits = refl

write_at_16777215_meets_the_last_block : blocks_met 16777215 1 ≡ 4095 ∷ []
write_at_16777215_meets_the_last_block = refl

nothing_meets_no_block : blocks_met 4096 0 ≡ []
nothing_meets_no_block = refl

last_byte_of_a_block_and_the_next_meet_two : blocks_met 4095 2 ≡ 0 ∷ (1 ∷ [])
last_byte_of_a_block_and_the_next_meet_two = refl

-- ---- the later of two moments

same_second_goes_by_nanoseconds : touched (Some (record { seconds = 9; nanoseconds = 5 })) (record { seconds = 9; nanoseconds = 3 })
    ≡ record { seconds = 9; nanoseconds = 5 }
same_second_goes_by_nanoseconds = refl

later_nanosecond_stands : touched (Some (record { seconds = 9; nanoseconds = 3 })) (record { seconds = 9; nanoseconds = 5 })
    ≡ record { seconds = 9; nanoseconds = 5 }
later_nanosecond_stands = refl

later_second_stands : touched (Some (record { seconds = 9; nanoseconds = 5 })) (record { seconds = 10; nanoseconds = 3 })
    ≡ record { seconds = 10; nanoseconds = 3 }
later_second_stands = refl
