-- GETATTR, SETATTR, COMMIT and FSSTAT (RFC 1813 sections 3.3.1, 3.3.2, 3.3.21 and 3.3.18).
use Rattle.std.proofs.Common.{◌≡◌, true, false, [], ◌∷◌, ◌++◌, replicate, Some, None, refl}
use Rattle.nfs_model.specs.Types.{ServerTime, ClientTime, Null, Getattr, Setattr, Read, Write, Fsstat, Commit, Ask, Success, NullDone, GetattrDone}
use Rattle.nfs_model.specs.Types.{SetattrDone, ReadDone, FsstatDone, CommitDone, Invalid, TooBig, Stale, BadHandle, NotSynchronous}
use Rattle.nfs_model.specs.Server.{handle_bytes}
use Rattle.nfs_model.specs.Serial.Create.{no_attributes}
use Rattle.std.specs.FinSet as sets
use Rattle.nfs_model.specs.Serial.Step.{serial}
use Rattle.nfs_laws.specs.lemmas.Evaluate.{evaluate}
use Rattle.nfs_laws.proofs.rows.Cases.{verifier, start, at, nobody, h, root, fails, no_blocks, block_0, file, touched_file, with_file, narrow, root_shown}
use Rattle.nfs_laws.proofs.rows.Cases.{file_shown, before, changed}

-- ---- handles

null_is_done :
    (serial start (Ask (Null) nobody) (at 1) false).reply
    ≡ Success NullDone
null_is_done = refl

handle_of_11_bytes :
    (serial start (Ask (Getattr (replicate 11 0)) nobody) (at 1) false).reply
    ≡ fails BadHandle 0
handle_of_11_bytes = refl

handle_of_13_bytes :
    (serial start (Ask (Getattr (root ++ 0 ∷ [])) nobody) (at 1) false).reply
    ≡ fails BadHandle 0
handle_of_13_bytes = refl

handle_of_no_volume :
    (serial start (Ask (Getattr (handle_bytes 2 1)) nobody) (at 1) false).reply
    ≡ fails BadHandle 0
handle_of_no_volume = refl

handle_of_the_last_volume :
    (serial start (Ask (Getattr (handle_bytes 1 1)) nobody) (at 1) false).reply
    ≡ Success (GetattrDone (record (root_shown 2 0) { fsid = 1 }))
handle_of_the_last_volume = simp evaluate refl

root_as_it_begins :
    (serial start (Ask (Getattr root) nobody) (at 1) false).reply
    ≡ Success (GetattrDone (root_shown 2 0))
root_as_it_begins = simp evaluate refl

absent_fileid_is_stale :
    (serial start (Ask (Getattr (h 2)) nobody) (at 1) false).reply
    ≡ fails Stale 0
absent_fileid_is_stale = simp evaluate refl

-- ---- SETATTR: checks in order

setattr_of_a_bad_handle :
    (serial start (Ask (Setattr (replicate 11 0) no_attributes None) nobody) (at 1) false).reply
    ≡ fails BadHandle 2
setattr_of_a_bad_handle = refl

setattr_of_an_absent_node :
    (serial start (Ask (Setattr (h 2) no_attributes None) nobody) (at 1) false).reply
    ≡ fails Stale 2
setattr_of_an_absent_node = simp evaluate refl

guard_of_another_ctime :
    (serial (with_file (file [] no_blocks)) (Ask (Setattr (h 2) no_attributes (Some (at 5))) nobody) (at 2) false).reply
    ≡ fails NotSynchronous 2
guard_of_another_ctime = simp evaluate refl

guard_of_another_nanosecond :
    (serial (with_file (file [] no_blocks)) (Ask (Setattr (h 2) no_attributes (Some (record { seconds = 1; nanoseconds = 1 }))) nobody) (at 2) false).reply
    ≡ fails NotSynchronous 2
guard_of_another_nanosecond = simp evaluate refl

guard_of_the_stored_ctime_where_there_is_a_touch :
    (serial (with_file (touched_file 9 (1 ∷ []) block_0)) (Ask (Setattr (h 2) no_attributes (Some (at 1))) nobody) (at 11) false).reply
    ≡ fails NotSynchronous 2
guard_of_the_stored_ctime_where_there_is_a_touch = simp evaluate refl

guard_of_the_touch :
    (serial (with_file (touched_file 9 (1 ∷ []) block_0)) (Ask (Setattr (h 2) no_attributes (Some (at 9))) nobody) (at 11) false).reply
    ≡ Success (SetattrDone (changed (before 1 9 9) (file_shown 2 1 4096 9 11)))
guard_of_the_touch = simp evaluate refl

guard_comes_before_times :
    (serial (with_file (file [] no_blocks)) (Ask
    (Setattr (h 2) (record no_attributes { atime = ClientTime (record { seconds = 1; nanoseconds = 1000000000 }) }) (Some (at 5))) nobody) (at 2) false).reply
    ≡ fails NotSynchronous 2
guard_comes_before_times = simp evaluate refl

atime_of_a_whole_second :
    (serial (with_file (file [] no_blocks)) (Ask
    (Setattr (h 2) (record no_attributes { atime = ClientTime (record { seconds = 1; nanoseconds = 1000000000 }) }) None) nobody) (at 2) false).reply
    ≡ fails Invalid 2
atime_of_a_whole_second = simp evaluate refl

mtime_of_a_whole_second :
    (serial (with_file (file [] no_blocks)) (Ask
    (Setattr (h 2) (record no_attributes { mtime = ClientTime (record { seconds = 1; nanoseconds = 1000000000 }) }) None) nobody) (at 2) false).reply
    ≡ fails Invalid 2
mtime_of_a_whole_second = simp evaluate refl

times_come_before_the_largest_size :
    (serial (narrow (file [] no_blocks)) (Ask
    (Setattr (h 2) (record no_attributes { size = Some 9; mtime = ClientTime (record { seconds = 1; nanoseconds = 1000000000 }) }) None) nobody)
    (at 2) false).reply
    ≡ fails Invalid 2
times_come_before_the_largest_size = simp evaluate refl

size_of_a_directory :
    (serial start (Ask (Setattr (h 1) (record no_attributes { size = Some 0 }) None) nobody) (at 2) false).reply
    ≡ fails Invalid 2
size_of_a_directory = simp evaluate refl

directory_comes_before_the_largest_size :
    (serial start (Ask (Setattr (h 1) (record no_attributes { size = Some 16777217 }) None) nobody) (at 2) false).reply
    ≡ fails Invalid 2
directory_comes_before_the_largest_size = simp evaluate refl

size_over_the_largest :
    (serial (narrow (file [] no_blocks)) (Ask (Setattr (h 2) (record no_attributes { size = Some 9 }) None) nobody) (at 2) false).reply
    ≡ fails TooBig 2
size_over_the_largest = simp evaluate refl

largest_size :
    (serial (narrow (file [] no_blocks)) (Ask (Setattr (h 2) (record no_attributes { size = Some 8 }) None) nobody) (at 2) false).reply
    ≡ Success (SetattrDone (changed (before 0 1 1) (file_shown 2 8 0 2 2)))
largest_size = simp evaluate refl

-- ---- SETATTR: what it sets

nothing_given_sets_ctime :
    (serial (with_file (file [] no_blocks)) (Ask (Setattr (h 2) no_attributes None) nobody) (at 2) false).reply
    ≡ Success (SetattrDone (changed (before 0 1 1) (file_shown 2 0 0 1 2)))
nothing_given_sets_ctime = simp evaluate refl

mode_keeps_12_bits :
    (serial (with_file (file [] no_blocks)) (Ask (Setattr (h 2) (record no_attributes { mode = Some 65535 }) None) nobody) (at 2) false).reply
    ≡ Success (SetattrDone (changed (before 0 1 1) (record (file_shown 2 0 0 1 2) { mode = 4095 })))
mode_keeps_12_bits = simp evaluate refl

owners_are_set :
    (serial (with_file (file [] no_blocks)) (Ask (Setattr (h 2) (record no_attributes { uid = Some 7; gid = Some 8 }) None) nobody) (at 2) false).reply
    ≡ Success (SetattrDone (changed (before 0 1 1) (record (file_shown 2 0 0 1 2) { uid = 7; gid = 8 })))
owners_are_set = simp evaluate refl

times_of_the_server :
    (serial (with_file (file [] no_blocks)) (Ask (Setattr (h 2) (record no_attributes { atime = ServerTime; mtime = ServerTime }) None) nobody)
    (at 2) false).reply
    ≡ Success (SetattrDone (changed (before 0 1 1) (record (file_shown 2 0 0 2 2) { atime = at 2 })))
times_of_the_server = simp evaluate refl

times_of_the_client :
    (serial (with_file (file [] no_blocks)) (Ask
    (Setattr (h 2) (record no_attributes { atime = ClientTime (at 7); mtime = ClientTime (record { seconds = 1; nanoseconds = 999999999 }) }) None) nobody)
    (at 2) false).reply
    ≡ Success (SetattrDone (changed (before 0 1 1) (record (file_shown 2 0 0 1 2) { atime = at 7; mtime = record { seconds = 1; nanoseconds = 999999999 } })))
times_of_the_client = simp evaluate refl

size_sets_mtime :
    (serial (with_file (file (1 ∷ (2 ∷ (3 ∷ []))) block_0)) (Ask (Setattr (h 2) (record no_attributes { size = Some 1 }) None) nobody) (at 2) false).reply
    ≡ Success (SetattrDone (changed (before 3 1 1) (file_shown 2 1 4096 2 2)))
size_sets_mtime = simp evaluate refl

size_as_it_is_sets_mtime :
    (serial (with_file (file (1 ∷ (2 ∷ (3 ∷ []))) block_0)) (Ask (Setattr (h 2) (record no_attributes { size = Some 3 }) None) nobody) (at 2) false).reply
    ≡ Success (SetattrDone (changed (before 3 1 1) (file_shown 2 3 4096 2 2)))
size_as_it_is_sets_mtime = simp evaluate refl

mtime_given_beside_a_size :
    (serial (with_file (file (1 ∷ (2 ∷ (3 ∷ []))) block_0))
    (Ask (Setattr (h 2) (record no_attributes { size = Some 1; mtime = ClientTime (at 7) }) None) nobody) (at 2) false).reply
    ≡ Success (SetattrDone (changed (before 3 1 1) (file_shown 2 1 4096 7 2)))
mtime_given_beside_a_size = simp evaluate refl

size_0_fills_nothing :
    (serial (with_file (file (1 ∷ (2 ∷ (3 ∷ []))) block_0)) (Ask (Setattr (h 2) (record no_attributes { size = Some 0 }) None) nobody) (at 2) false).reply
    ≡ Success (SetattrDone (changed (before 3 1 1) (file_shown 2 0 0 2 2)))
size_0_fills_nothing = simp evaluate refl

growing_fills_nothing :
    (serial (with_file (file (1 ∷ (2 ∷ (3 ∷ []))) block_0)) (Ask (Setattr (h 2) (record no_attributes { size = Some 9000 }) None) nobody) (at 2) false).reply
    ≡ Success (SetattrDone (changed (before 3 1 1) (file_shown 2 9000 4096 2 2)))
growing_fills_nothing = simp evaluate refl

cut_at_a_block_frees_the_next :
    (serial (with_file (file (replicate 5000 1) (sets.insert block_0 1))) (Ask (Setattr (h 2) (record no_attributes { size = Some 4096 }) None) nobody)
    (at 2) false).reply
    ≡ Success (SetattrDone (changed (before 5000 1 1) (file_shown 2 4096 4096 2 2)))
cut_at_a_block_frees_the_next = simp evaluate refl

cut_past_a_block_keeps_the_next :
    (serial (with_file (file (replicate 5000 1) (sets.insert block_0 1))) (Ask (Setattr (h 2) (record no_attributes { size = Some 4097 }) None) nobody)
    (at 2) false).reply
    ≡ Success (SetattrDone (changed (before 5000 1 1) (file_shown 2 4097 8192 2 2)))
cut_past_a_block_keeps_the_next = simp evaluate refl

cut_bytes_are_zero_after_growing :
    (serial (serial (serial (with_file (file (1 ∷ (2 ∷ (3 ∷ []))) block_0)) (Ask (Setattr (h 2) (record no_attributes { size = Some 1 }) None) nobody)
    (at 2) false).server (Ask (Setattr (h 2) (record no_attributes { size = Some 4 }) None) nobody) (at 3) false).server (Ask (Read (h 2) 0 9) nobody)
    (at 4) false).reply
    ≡ Success (ReadDone 4 true (1 ∷ replicate 3 0))
cut_bytes_are_zero_after_growing = simp evaluate refl

settling_ends_the_touch :
    (serial (serial (serial (with_file (touched_file 9 (1 ∷ []) block_0)) (Ask (Setattr (h 2) (record no_attributes { mode = Some 420 }) None) nobody)
    (at 11) false).server (Ask (Write (h 2) 0 1 (2 ∷ [])) nobody) (at 10) false).server (Ask (Getattr (h 2)) nobody) (at 12) false).reply
    ≡ Success (GetattrDone (file_shown 2 1 4096 10 10))
settling_ends_the_touch = simp evaluate refl

attributes_of_a_directory :
    (serial start (Ask (Setattr (h 1) (record no_attributes { mode = Some 448 }) None) nobody) (at 2) false).reply
    ≡ Success (SetattrDone (changed (before 4096 0 0) (record (root_shown 2 0) { mode = 448; ctime = at 2 })))
attributes_of_a_directory = simp evaluate refl

-- ---- COMMIT

commit_of_an_absent_node :
    (serial start (Ask (Commit (h 2)) nobody) (at 1) false).reply
    ≡ fails Stale 2
commit_of_an_absent_node = simp evaluate refl

commit_of_a_bad_handle :
    (serial start (Ask (Commit (replicate 11 0)) nobody) (at 1) false).reply
    ≡ fails BadHandle 2
commit_of_a_bad_handle = refl

commit_of_a_directory :
    (serial start (Ask (Commit root) nobody) (at 1) false).reply
    ≡ fails Invalid 2
commit_of_a_directory = simp evaluate refl

commit_changes_nothing :
    (serial (with_file (touched_file 9 (1 ∷ []) block_0)) (Ask (Commit (h 2)) nobody) (at 11) false).reply
    ≡ Success (CommitDone (changed (before 1 9 9) (file_shown 2 1 4096 9 9)) verifier)
commit_changes_nothing = simp evaluate refl

-- ---- FSSTAT

fsstat_of_an_absent_node :
    (serial start (Ask (Fsstat (h 2)) nobody) (at 1) false).reply
    ≡ fails Stale 1
fsstat_of_an_absent_node = simp evaluate refl

fsstat_of_a_bad_handle :
    (serial start (Ask (Fsstat (replicate 11 0)) nobody) (at 1) false).reply
    ≡ fails BadHandle 1
fsstat_of_a_bad_handle = refl

space_of_an_empty_volume :
    (serial start (Ask (Fsstat root) nobody) (at 1) false).reply
    ≡ Success (FsstatDone (root_shown 2 0) (record { total_bytes = 4194304; free_bytes = 4194304; inodes = 65536; free_inodes = 65535 }))
space_of_an_empty_volume = simp evaluate refl

space_beside_a_block :
    (serial (with_file (file (1 ∷ (2 ∷ (3 ∷ []))) block_0)) (Ask (Fsstat (h 2)) nobody) (at 1) false).reply
    ≡ Success (FsstatDone (file_shown 2 3 4096 1 1) (record { total_bytes = 4194304; free_bytes = 4190208; inodes = 65536; free_inodes = 65534 }))
space_beside_a_block = simp evaluate refl
