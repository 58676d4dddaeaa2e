-- The home of a call, exclusion, and which calls may lack memory (our profile).
use Rattle.std.proofs.Common.{◌≡◌, true, false, [], ◌∷◌, replicate, Some, None, refl}
use Rattle.nfs_model.specs.Types.{Unchecked, Guarded, Exclusive, Null, Getattr, Setattr, Lookup, Read, Write, Create, Mkdir, Remove}
use Rattle.nfs_model.specs.Types.{Rmdir, Rename, Readdir, Readdirplus, Readlink, Symlink, Mknod, Link, CheckAccess, Fsstat, Fsinfo}
use Rattle.nfs_model.specs.Types.{Pathconf, Commit, Regular, SpecialKind, Fifo, Census, Grow, Ask, Refused, SystemError, GarbageArguments}
use Rattle.nfs_model.specs.Tree.{Serial, Aggregate, Volume, Logical, Stripe, Vbn, Range, excludes}
use Rattle.nfs_model.specs.Home.{home, home_of_asked}
use Rattle.nfs_model.specs.Serial.Step.{serial}
use Rattle.nfs_model.specs.Serial.Starve.{may_starve_at_decoding, may_starve_later}
use Rattle.nfs_model.specs.Server.{handle_bytes}
use Rattle.nfs_model.specs.Serial.Create.{no_attributes}
use Rattle.nfs_laws.specs.lemmas.Evaluate.{evaluate}
use Rattle.nfs_laws.proofs.rows.Cases.{one_range, layout, start, at, nobody, h, root, a, b, d, x, write_at, sized, entry, no_blocks, block_0, file}
use Rattle.nfs_laws.proofs.rows.Cases.{exclusive_file}
use Rattle.nfs_laws.proofs.rows.Cases.{directory, root_with, holding, with_file, tight}

getattr_is_of_logical : home layout (Getattr root) ≡ Some (Logical 0)
getattr_is_of_logical = refl

setattr_is_of_logical : home layout (Setattr root no_attributes None) ≡ Some (Logical 0)
setattr_is_of_logical = refl

lookup_is_of_logical : home layout (Lookup root a) ≡ Some (Logical 0)
lookup_is_of_logical = refl

create_is_of_logical : home layout (Create root a (Unchecked no_attributes)) ≡ Some (Logical 0)
create_is_of_logical = refl

mkdir_is_of_logical : home layout (Mkdir root a no_attributes) ≡ Some (Logical 0)
mkdir_is_of_logical = refl

remove_is_of_logical : home layout (Remove root a) ≡ Some (Logical 0)
remove_is_of_logical = refl

rmdir_is_of_logical : home layout (Rmdir root a) ≡ Some (Logical 0)
rmdir_is_of_logical = refl

readdir_is_of_logical : home layout (Readdir root 0 (replicate 8 0) 512) ≡ Some (Logical 0)
readdir_is_of_logical = refl

readdirplus_is_of_logical : home layout (Readdirplus root 0 (replicate 8 0) 512 4096) ≡ Some (Logical 0)
readdirplus_is_of_logical = refl

access_is_of_logical : home layout (CheckAccess root 63) ≡ Some (Logical 0)
access_is_of_logical = refl

fsinfo_is_of_logical : home layout (Fsinfo (handle_bytes 1 1)) ≡ Some (Logical 1)
fsinfo_is_of_logical = refl

pathconf_is_of_logical : home layout (Pathconf root) ≡ Some (Logical 0)
pathconf_is_of_logical = refl

readlink_is_of_logical : home layout (Readlink root) ≡ Some (Logical 0)
readlink_is_of_logical = refl

symlink_is_of_logical : home layout (Symlink root a no_attributes b) ≡ Some (Logical 0)
symlink_is_of_logical = refl

mknod_is_of_logical : home layout (Mknod (handle_bytes 1 1) a Regular no_attributes) ≡ Some (Logical 1)
mknod_is_of_logical = refl

link_is_of_logical : home layout (Link (h 2) root a) ≡ Some (Logical 0)
link_is_of_logical = refl

link_over_two_volumes_has_no_home : home layout (Link (h 2) (handle_bytes 1 1) a) ≡ None
link_over_two_volumes_has_no_home = refl

commit_is_of_logical : home layout (Commit root) ≡ Some (Logical 0)
commit_is_of_logical = refl

rename_is_of_logical : home layout (Rename root a root b) ≡ Some (Logical 0)
rename_is_of_logical = refl

fsstat_is_of_the_volume : home layout (Fsstat (handle_bytes 1 1)) ≡ Some (Volume 1)
fsstat_is_of_the_volume = refl

grow_is_of_the_aggregate : home layout (Grow 1 1) ≡ Some (Aggregate 0)
grow_is_of_the_aggregate = refl

census_is_of_serial : home layout (Census) ≡ Some Serial
census_is_of_serial = refl

null_has_no_home : home layout (Null) ≡ None
null_has_no_home = refl

grow_of_no_volume_has_no_home : home layout (Grow 2 1) ≡ None
grow_of_no_volume_has_no_home = refl

getattr_of_a_bad_handle_has_no_home : home layout (Getattr (replicate 11 0)) ≡ None
getattr_of_a_bad_handle_has_no_home = refl

setattr_of_a_bad_handle_has_no_home : home layout (Setattr (handle_bytes 2 1) no_attributes None) ≡ None
setattr_of_a_bad_handle_has_no_home = refl

lookup_of_a_bad_handle_has_no_home : home layout (Lookup (handle_bytes 2 1) a) ≡ None
lookup_of_a_bad_handle_has_no_home = refl

read_of_a_bad_handle_has_no_home : home layout (Read (handle_bytes 2 1) 0 1) ≡ None
read_of_a_bad_handle_has_no_home = refl

write_of_a_bad_handle_has_no_home : home layout (Write (handle_bytes 2 1) 0 1 (1 ∷ [])) ≡ None
write_of_a_bad_handle_has_no_home = refl

create_of_a_bad_handle_has_no_home : home layout (Create (handle_bytes 2 1) a (Unchecked no_attributes)) ≡ None
create_of_a_bad_handle_has_no_home = refl

mkdir_of_a_bad_handle_has_no_home : home layout (Mkdir (handle_bytes 2 1) a no_attributes) ≡ None
mkdir_of_a_bad_handle_has_no_home = refl

remove_of_a_bad_handle_has_no_home : home layout (Remove (handle_bytes 2 1) a) ≡ None
remove_of_a_bad_handle_has_no_home = refl

rmdir_of_a_bad_handle_has_no_home : home layout (Rmdir (handle_bytes 2 1) a) ≡ None
rmdir_of_a_bad_handle_has_no_home = refl

readdir_of_a_bad_handle_has_no_home : home layout (Readdir (handle_bytes 2 1) 0 (replicate 8 0) 512) ≡ None
readdir_of_a_bad_handle_has_no_home = refl

fsstat_of_a_bad_handle_has_no_home : home layout (Fsstat (handle_bytes 2 1)) ≡ None
fsstat_of_a_bad_handle_has_no_home = refl

access_of_a_bad_handle_has_no_home : home layout (CheckAccess (handle_bytes 2 1) 63) ≡ None
access_of_a_bad_handle_has_no_home = refl

fsinfo_of_a_bad_handle_has_no_home : home layout (Fsinfo (handle_bytes 2 1)) ≡ None
fsinfo_of_a_bad_handle_has_no_home = refl

pathconf_of_a_bad_handle_has_no_home : home layout (Pathconf (handle_bytes 2 1)) ≡ None
pathconf_of_a_bad_handle_has_no_home = refl

commit_of_a_bad_handle_has_no_home : home layout (Commit (handle_bytes 2 1)) ≡ None
commit_of_a_bad_handle_has_no_home = refl

rename_of_a_bad_handle_has_no_home : home layout (Rename root a (handle_bytes 2 1) b) ≡ None
rename_of_a_bad_handle_has_no_home = refl

rename_over_volumes_has_no_home : home layout (Rename root a (handle_bytes 1 1) b) ≡ None
rename_over_volumes_has_no_home = refl

read_in_one_span : home layout (Read (h 2) 262140 4) ≡ Some (Stripe 0 2)
read_in_one_span = refl

read_of_the_next_span : home layout (Read (h 2) 262144 10) ≡ Some (Stripe 0 3)
read_of_the_next_span = refl

read_over_two_spans : home layout (Read (h 2) 262143 2) ≡ Some (Logical 0)
read_over_two_spans = refl

read_of_nothing_is_of_its_offset : home layout (Read (h 2) 262144 0) ≡ Some (Stripe 0 3)
read_of_nothing_is_of_its_offset = refl

spans_go_round : home layout (Read (h 7) 262144 1) ≡ Some (Stripe 0 0)
spans_go_round = refl

read_past_all_numbers : home layout (Read (h 2) 18446744073709551615 2) ≡ Some (Logical 0)
read_past_all_numbers = refl

write_over_two_spans : home layout (Write (h 2) 262142 4 (1 ∷ (2 ∷ (3 ∷ (4 ∷ []))))) ≡ Some (Logical 0)
write_over_two_spans = refl

home_goes_by_the_count_and_not_the_data : home layout (Write (h 2) 262143 1 (1 ∷ (2 ∷ []))) ≡ Some (Stripe 0 2)
home_goes_by_the_count_and_not_the_data = refl

write_of_70000_bytes_is_cut : home layout (Write (h 2) 0 70000 []) ≡ Some (Stripe 0 2)
write_of_70000_bytes_is_cut = refl

count_of_a_write_is_cut : home layout (Write (h 2) 196608 70000 []) ≡ Some (Stripe 0 2)
count_of_a_write_is_cut = refl

cut_count_ends_with_the_span : home layout (Read (h 2) 196608 4294967295) ≡ Some (Stripe 0 2)
cut_count_ends_with_the_span = refl

cut_count_ends_past_the_span : home layout (Read (h 2) 196609 4294967295) ≡ Some (Logical 0)
cut_count_ends_past_the_span = refl

sixteen_stripes_part_spans : home (record layout { volumes = record one_range { stripes = 16 } ∷ [] }) (Read (h 2) 2097152 1) ≡ Some (Stripe 0 10)
sixteen_stripes_part_spans = refl

refusal_has_no_home : home_of_asked layout (Refused GarbageArguments) ≡ None
refusal_has_no_home = refl

-- ---- exclusion

serial_excludes_a_range : excludes layout (Serial) (Range 1 0) ≡ true
serial_excludes_a_range = refl

aggregate_excludes_its_stripe : excludes layout (Stripe 1 2) (Aggregate 0) ≡ true
aggregate_excludes_its_stripe = refl

another_aggregate_does_not : excludes layout (Stripe 1 2) (Aggregate 1) ≡ false
another_aggregate_does_not = refl

volume_excludes_its_stripe : excludes layout (Stripe 0 2) (Volume 0) ≡ true
volume_excludes_its_stripe = refl

another_volume_does_not : excludes layout (Stripe 0 2) (Volume 1) ≡ false
another_volume_does_not = refl

logical_excludes_its_stripe : excludes layout (Logical 0) (Stripe 0 7) ≡ true
logical_excludes_its_stripe = refl

stripe_excludes_itself : excludes layout (Stripe 0 2) (Stripe 0 2) ≡ true
stripe_excludes_itself = refl

another_stripe_does_not : excludes layout (Stripe 0 2) (Stripe 0 3) ≡ false
another_stripe_does_not = refl

logical_does_not_exclude_vbn : excludes layout (Logical 0) (Vbn 0) ≡ false
logical_does_not_exclude_vbn = refl

vbn_excludes_its_range : excludes layout (Range 0 3) (Vbn 0) ≡ true
vbn_excludes_its_range = refl

logical_does_not_exclude_a_range : excludes layout (Logical 0) (Range 0 0) ≡ false
logical_does_not_exclude_a_range = refl

another_range_does_not_exclude : excludes layout (Range 0 0) (Range 0 1) ≡ false
another_range_does_not_exclude = refl

-- ---- want of memory: at the decoding, what has a name or data; later, what would else answer OK and takes memory

decoding_of_lookup : may_starve_at_decoding (Ask (Lookup root a) nobody) ≡ true
decoding_of_lookup = refl

decoding_of_write : may_starve_at_decoding (Ask (Write root 0 0 []) nobody) ≡ true
decoding_of_write = refl

decoding_of_create : may_starve_at_decoding (Ask (Create root a (Unchecked no_attributes)) nobody) ≡ true
decoding_of_create = refl

decoding_of_mkdir : may_starve_at_decoding (Ask (Mkdir root a no_attributes) nobody) ≡ true
decoding_of_mkdir = refl

decoding_of_remove : may_starve_at_decoding (Ask (Remove root a) nobody) ≡ true
decoding_of_remove = refl

decoding_of_rmdir : may_starve_at_decoding (Ask (Rmdir root a) nobody) ≡ true
decoding_of_rmdir = refl

decoding_of_rename : may_starve_at_decoding (Ask (Rename root a root b) nobody) ≡ true
decoding_of_rename = refl

decoding_of_null : may_starve_at_decoding (Ask (Null) nobody) ≡ false
decoding_of_null = refl

decoding_of_getattr : may_starve_at_decoding (Ask (Getattr root) nobody) ≡ false
decoding_of_getattr = refl

decoding_of_setattr : may_starve_at_decoding (Ask (Setattr root no_attributes None) nobody) ≡ false
decoding_of_setattr = refl

decoding_of_read : may_starve_at_decoding (Ask (Read root 0 1) nobody) ≡ false
decoding_of_read = refl

decoding_of_readdir : may_starve_at_decoding (Ask (Readdir root 0 (replicate 8 0) 512) nobody) ≡ false
decoding_of_readdir = refl

decoding_of_fsstat : may_starve_at_decoding (Ask (Fsstat root) nobody) ≡ false
decoding_of_fsstat = refl

decoding_of_access : may_starve_at_decoding (Ask (CheckAccess root 63) nobody) ≡ false
decoding_of_access = refl

decoding_of_fsinfo : may_starve_at_decoding (Ask (Fsinfo root) nobody) ≡ false
decoding_of_fsinfo = refl

decoding_of_pathconf : may_starve_at_decoding (Ask (Pathconf root) nobody) ≡ false
decoding_of_pathconf = refl

decoding_of_symlink : may_starve_at_decoding (Ask (Symlink root a no_attributes b) nobody) ≡ true
decoding_of_symlink = refl

decoding_of_readlink : may_starve_at_decoding (Ask (Readlink root) nobody) ≡ false
decoding_of_readlink = refl

decoding_of_mknod : may_starve_at_decoding (Ask (Mknod root a Regular no_attributes) nobody) ≡ true
decoding_of_mknod = refl

decoding_of_link : may_starve_at_decoding (Ask (Link (h 2) root a) nobody) ≡ true
decoding_of_link = refl

decoding_of_commit : may_starve_at_decoding (Ask (Commit root) nobody) ≡ false
decoding_of_commit = refl

decoding_of_census : may_starve_at_decoding (Ask (Census) nobody) ≡ false
decoding_of_census = refl

decoding_of_grow : may_starve_at_decoding (Ask (Grow 0 1) nobody) ≡ false
decoding_of_grow = refl

decoding_of_a_refusal : may_starve_at_decoding (Refused GarbageArguments) ≡ false
decoding_of_a_refusal = refl

read_that_gives_bytes_may_starve : may_starve_later (with_file (file (1 ∷ (2 ∷ (3 ∷ []))) block_0)) (Ask (Read (h 2) 0 1) nobody) (at 1) ≡ true
read_that_gives_bytes_may_starve = simp evaluate refl

read_that_gives_none_may_not : may_starve_later (with_file (file (1 ∷ (2 ∷ (3 ∷ []))) block_0)) (Ask (Read (h 2) 3 1) nobody) (at 1) ≡ false
read_that_gives_none_may_not = simp evaluate refl

read_that_fails_may_not : may_starve_later start (Ask (Read (h 2) 0 1) nobody) (at 1) ≡ false
read_that_fails_may_not = simp evaluate refl

readdir_may_starve : may_starve_later start (Ask (Readdir root 0 (replicate 8 0) 512) nobody) (at 1) ≡ true
readdir_may_starve = simp evaluate refl

readdir_without_an_entry_may_starve : may_starve_later start (Ask (Readdir root 2 (replicate 8 0) 512) nobody) (at 1) ≡ true
readdir_without_an_entry_may_starve = simp evaluate refl

readdir_that_fails_may_not : may_starve_later start (Ask (Readdir root 0 (replicate 8 0) 1) nobody) (at 1) ≡ false
readdir_that_fails_may_not = simp evaluate refl

census_may_starve : may_starve_later start (Ask (Census) nobody) (at 1) ≡ true
census_may_starve = refl

write_that_fills_may_starve : may_starve_later (with_file (file [] no_blocks)) (Ask (write_at 2 0 (1 ∷ [])) nobody) (at 1) ≡ true
write_that_fills_may_starve = simp evaluate refl

starved_write_is_a_system_error : serial (with_file (file [] no_blocks)) (Ask (write_at 2 0 (1 ∷ [])) nobody) (at 1) true
    ≡ record { reply = SystemError; server = with_file (file [] no_blocks) }
starved_write_is_a_system_error = refl

overwrite_may_not : may_starve_later (with_file (file (1 ∷ (2 ∷ (3 ∷ []))) block_0)) (Ask (write_at 2 0 (1 ∷ [])) nobody) (at 1) ≡ false
overwrite_may_not = simp evaluate refl

extending_write_that_fills_nothing_may_not : may_starve_later (with_file (file (1 ∷ (2 ∷ (3 ∷ []))) block_0)) (Ask (write_at 2 3 (1 ∷ [])) nobody) (at 1)
    ≡ false
extending_write_that_fills_nothing_may_not = simp evaluate refl

write_of_nothing_may_not : may_starve_later (with_file (file [] no_blocks)) (Ask (write_at 2 0 []) nobody) (at 1) ≡ false
write_of_nothing_may_not = simp evaluate refl

write_without_space_may_not : may_starve_later (tight (file (1 ∷ []) block_0) (file (1 ∷ []) block_0)) (Ask (write_at 2 4096 (1 ∷ [])) nobody) (at 1) ≡ false
write_without_space_may_not = simp evaluate refl

create_that_adds_may_starve : may_starve_later (with_file (file [] no_blocks)) (Ask (Create root b (Guarded no_attributes)) nobody) (at 1) ≡ true
create_that_adds_may_starve = simp evaluate refl

create_over_a_file_may_not : may_starve_later (with_file (file [] no_blocks)) (Ask (Create root a (Unchecked no_attributes)) nobody) (at 1) ≡ false
create_over_a_file_may_not = simp evaluate refl

exclusive_creation_again_may_not : may_starve_later (with_file (exclusive_file 1)) (Ask (Create root a (Exclusive (replicate 8 1))) nobody) (at 1) ≡ false
exclusive_creation_again_may_not = simp evaluate refl

create_that_fails_may_not : may_starve_later (with_file (file [] no_blocks)) (Ask (Create root a (Guarded no_attributes)) nobody) (at 1) ≡ false
create_that_fails_may_not = simp evaluate refl

mkdir_may_starve : may_starve_later start (Ask (Mkdir root d no_attributes) nobody) (at 1) ≡ true
mkdir_may_starve = simp evaluate refl

mkdir_that_fails_may_not : may_starve_later (with_file (file [] no_blocks)) (Ask (Mkdir root a no_attributes) nobody) (at 1) ≡ false
mkdir_that_fails_may_not = simp evaluate refl

rename_may_starve : may_starve_later (with_file (file [] no_blocks)) (Ask (Rename root a root b) nobody) (at 1) ≡ true
rename_may_starve = simp evaluate refl

rename_to_the_same_entry_may_not : may_starve_later (with_file (file [] no_blocks)) (Ask (Rename root a root a) nobody) (at 1) ≡ false
rename_to_the_same_entry_may_not = simp evaluate refl

rename_that_fails_may_not : may_starve_later (with_file (file [] no_blocks)) (Ask (Rename root x root b) nobody) (at 1) ≡ false
rename_that_fails_may_not = simp evaluate refl

getattr_may_not_starve : may_starve_later start (Ask (Getattr root) nobody) (at 1) ≡ false
getattr_may_not_starve = simp evaluate refl

setattr_may_not_starve : may_starve_later (with_file (file (1 ∷ (2 ∷ (3 ∷ []))) block_0)) (Ask (Setattr (h 2) (sized 0) None) nobody) (at 1) ≡ false
setattr_may_not_starve = simp evaluate refl

lookup_may_not_starve : may_starve_later (with_file (file [] no_blocks)) (Ask (Lookup root a) nobody) (at 1) ≡ false
lookup_may_not_starve = simp evaluate refl

remove_may_not_starve : may_starve_later (with_file (file (1 ∷ (2 ∷ (3 ∷ []))) block_0)) (Ask (Remove root a) nobody) (at 1) ≡ false
remove_may_not_starve = simp evaluate refl

rmdir_may_not_starve : may_starve_later (holding 3 ((1, root_with 4 (entry 3 d 2 ∷ [])) ∷ ((2, directory 1 3 []) ∷ []))) (Ask (Rmdir root d) nobody) (at 1)
    ≡ false
rmdir_may_not_starve = simp evaluate refl

fsstat_may_not_starve : may_starve_later start (Ask (Fsstat root) nobody) (at 1) ≡ false
fsstat_may_not_starve = simp evaluate refl

access_may_not_starve : may_starve_later start (Ask (CheckAccess root 63) nobody) (at 1) ≡ false
access_may_not_starve = simp evaluate refl

fsinfo_may_not_starve : may_starve_later start (Ask (Fsinfo root) nobody) (at 1) ≡ false
fsinfo_may_not_starve = simp evaluate refl

pathconf_may_not_starve : may_starve_later start (Ask (Pathconf root) nobody) (at 1) ≡ false
pathconf_may_not_starve = simp evaluate refl

link_may_starve : may_starve_later (with_file (file [] no_blocks)) (Ask (Link (h 2) root b) nobody) (at 1) ≡ true
link_may_starve = simp evaluate refl

failed_link_may_not_starve : may_starve_later (with_file (file [] no_blocks)) (Ask (Link (h 2) root a) nobody) (at 1) ≡ false
failed_link_may_not_starve = simp evaluate refl

symlink_may_starve : may_starve_later start (Ask (Symlink root a no_attributes b) nobody) (at 1) ≡ true
symlink_may_starve = simp evaluate refl

mknod_may_starve : may_starve_later start (Ask (Mknod root a (SpecialKind Fifo) no_attributes) nobody) (at 1) ≡ true
mknod_may_starve = simp evaluate refl

readlink_of_a_file_may_not_starve : may_starve_later (with_file (file [] no_blocks)) (Ask (Readlink (h 2)) nobody) (at 1) ≡ false
readlink_of_a_file_may_not_starve = simp evaluate refl

commit_may_not_starve : may_starve_later (with_file (file [] no_blocks)) (Ask (Commit (h 2)) nobody) (at 1) ≡ false
commit_may_not_starve = simp evaluate refl

grow_may_not_starve : may_starve_later start (Ask (Grow 0 1) nobody) (at 1) ≡ false
grow_may_not_starve = refl

null_may_not_starve : may_starve_later start (Ask (Null) nobody) (at 1) ≡ false
null_may_not_starve = refl
