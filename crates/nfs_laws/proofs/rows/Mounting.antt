-- MOUNT version 3 (RFC 1813 appendix I, sections 5.2.0 to 5.2.5), of two volumes.
use Rattle.std.proofs.Common.{◌≡◌, true, false, List, ℕ, [], ◌∷◌, ◌++◌, replicate, Some, None, refl}
use Rattle.nfs_model.specs.Types.{Mount, MountBelow, MountCall, Mnt, Dump, Exports, Unmount, Reply, Ask, Success, NullDone, MountDone, DumpDone, ExportsDone}
use Rattle.nfs_model.specs.Types.{NoEntry, Invalid, NameTooLong, Access, NotDirectory}
use Rattle.nfs_model.specs.Tree.{Logical}
use Rattle.nfs_model.specs.Serial.Mount.{mnt_call}
use Rattle.nfs_model.specs.Home.{home}
use Rattle.nfs_model.specs.Serial.Step.{serial}
use Rattle.nfs_model.specs.Serial.Starve.{may_starve_at_decoding, may_starve_later}
use Rattle.nfs_laws.specs.lemmas.Evaluate.{evaluate}
use Rattle.nfs_laws.proofs.rows.Cases.{layout, start, with_tree, with_four, at, nobody, h, root, fails, d, e, f, x}

-- what MOUNT answers at the start
abbrev mounting : MountCall → Reply
mounting call = (serial start (Ask (Mount call) nobody) (at 1) false).reply

-- `/vol0`, `/vol1`, `/vol2`
abbrev vol0 : List ℕ
vol0 = 0x2f ∷ 0x76 ∷ 0x6f ∷ 0x6c ∷ 0x30 ∷ []

abbrev vol1 : List ℕ
vol1 = 0x2f ∷ 0x76 ∷ 0x6f ∷ 0x6c ∷ 0x31 ∷ []

abbrev vol2 : List ℕ
vol2 = 0x2f ∷ 0x76 ∷ 0x6f ∷ 0x6c ∷ 0x32 ∷ []

-- the root of volume 1
abbrev root1 : List ℕ
root1 = 0 ∷ 0 ∷ 0 ∷ 1 ∷ 0 ∷ 0 ∷ 0 ∷ 0 ∷ 0 ∷ 0 ∷ 0 ∷ 1 ∷ []

mount_of_the_first : mounting (Mnt vol0) ≡ Success (MountDone root)
mount_of_the_first = refl

mount_of_the_second : mounting (Mnt vol1) ≡ Success (MountDone root1)
mount_of_the_second = refl

mount_of_the_root : mounting (Mnt (0x2f ∷ [])) ≡ Success (MountDone root)
mount_of_the_root = refl

mount_of_no_volume : mounting (Mnt vol2) ≡ fails NoEntry 0
mount_of_no_volume = refl

mount_with_a_slash_at_the_end : mounting (Mnt (vol0 ++ 0x2f ∷ [])) ≡ Success (MountDone root)
mount_with_a_slash_at_the_end = refl

mount_with_a_slash_more : mounting (Mnt (0x2f ∷ vol1)) ≡ Success (MountDone root1)
mount_with_a_slash_more = refl

mount_of_slashes_and_a_dot : mounting (Mnt (0x2f ∷ 0x2f ∷ 0x2e ∷ 0x2f ∷ [])) ≡ Success (MountDone root)
mount_of_slashes_and_a_dot = refl

mount_of_what_is_no_volume : mounting (Mnt (0x2f ∷ d)) ≡ fails NoEntry 0
mount_of_what_is_no_volume = refl

mount_of_a_parent : mounting (Mnt (0x2f ∷ 0x2e ∷ 0x2e ∷ [])) ≡ fails NoEntry 0
mount_of_a_parent = refl

mount_of_a_longer_name : mounting (Mnt (vol0 ++ 0x30 ∷ [])) ≡ fails NoEntry 0
mount_of_a_longer_name = refl

mount_of_a_path_that_begins_elsewhere : mounting (Mnt (0x76 ∷ 0x6f ∷ 0x6c ∷ 0x30 ∷ [])) ≡ fails Invalid 0
mount_of_a_path_that_begins_elsewhere = refl

mount_of_no_path : mounting (Mnt []) ≡ fails Invalid 0
mount_of_no_path = refl

mount_of_1024_characters : mounting (Mnt (replicate 1024 0x2f)) ≡ Success (MountDone root)
mount_of_1024_characters = refl

mount_of_1025_characters : mounting (Mnt (replicate 1025 0x2f)) ≡ fails NameTooLong 0
mount_of_1025_characters = refl

too_long_comes_before_not_absolute : mounting (Mnt (replicate 1025 0x76)) ≡ fails NameTooLong 0
too_long_comes_before_not_absolute = refl

no_mounts_are_listed : mounting Dump ≡ Success DumpDone
no_mounts_are_listed = refl

every_volume_is_exported : mounting Exports ≡ Success (ExportsDone (vol0 ∷ vol1 ∷ []))
every_volume_is_exported = refl

nothing_is_undone : mounting Unmount ≡ Success NullDone
nothing_is_undone = refl

mount_has_no_home : home layout (Mount (Mnt vol0)) ≡ None
mount_has_no_home = refl

mount_may_starve_at_its_path : may_starve_at_decoding (Ask (Mount (Mnt vol0)) nobody) ≡ true
mount_may_starve_at_its_path = refl

unmount_may_not_starve : may_starve_at_decoding (Ask (Mount Unmount) nobody) ≡ false
unmount_may_not_starve = refl

mount_may_not_starve_later : may_starve_later start (Ask (Mount (Mnt vol0)) nobody) (at 1) ≡ false
mount_may_not_starve_later = refl

-- ---- below a root: on the root with the directory `d`, in which the file `f` is

-- `/vol0/` and more, `/vol2/` and more
abbrev below : List ℕ → List ℕ
below path = vol0 ++ 0x2f ∷ path

abbrev below_vol2 : List ℕ → List ℕ
below_vol2 path = vol2 ++ 0x2f ∷ path

-- `d/f`
abbrev d_f : List ℕ
d_f = d ++ 0x2f ∷ f

mnt_of_a_root_is_at_once : mnt_call vol0 ≡ Mount (Mnt vol0)
mnt_of_a_root_is_at_once = refl

mnt_of_slashes_is_at_once : mnt_call (0x2f ∷ 0x2f ∷ []) ≡ Mount (Mnt (0x2f ∷ 0x2f ∷ []))
mnt_of_slashes_is_at_once = refl

mnt_of_no_path_is_at_once : mnt_call [] ≡ Mount (Mnt [])
mnt_of_no_path_is_at_once = refl

mnt_that_is_not_absolute_is_at_once : mnt_call (0x76 ∷ 0x6f ∷ 0x6c ∷ 0x30 ∷ 0x2f ∷ d) ≡ Mount (Mnt (0x76 ∷ 0x6f ∷ 0x6c ∷ 0x30 ∷ 0x2f ∷ d))
mnt_that_is_not_absolute_is_at_once = refl

mnt_below_an_eleventh_is_at_once : mnt_call (0x2f ∷ 0x76 ∷ 0x6f ∷ 0x6c ∷ 0x31 ∷ 0x30 ∷ 0x2f ∷ d)
    ≡ Mount (Mnt (0x2f ∷ 0x76 ∷ 0x6f ∷ 0x6c ∷ 0x31 ∷ 0x30 ∷ 0x2f ∷ d))
mnt_below_an_eleventh_is_at_once = refl

mnt_below_a_letter_is_at_once : mnt_call (0x2f ∷ 0x76 ∷ 0x6f ∷ 0x6c ∷ 0x3a ∷ 0x2f ∷ d) ≡ Mount (Mnt (0x2f ∷ 0x76 ∷ 0x6f ∷ 0x6c ∷ 0x3a ∷ 0x2f ∷ d))
mnt_below_a_letter_is_at_once = refl

mnt_of_a_parent_first_is_at_once : mnt_call (0x2f ∷ 0x2e ∷ 0x2e ∷ vol0) ≡ Mount (Mnt (0x2f ∷ 0x2e ∷ 0x2e ∷ vol0))
mnt_of_a_parent_first_is_at_once = refl

mnt_of_a_root_with_dots_is_at_once : mnt_call (below (0x2e ∷ 0x2f ∷ [])) ≡ Mount (Mnt (below (0x2e ∷ 0x2f ∷ [])))
mnt_of_a_root_with_dots_is_at_once = refl

mnt_of_no_volume_is_at_once : mnt_call (0x2f ∷ d_f) ≡ Mount (Mnt (0x2f ∷ d_f))
mnt_of_no_volume_is_at_once = refl

mnt_that_is_too_long_is_at_once : mnt_call (below (replicate 1019 0x61)) ≡ Mount (Mnt (below (replicate 1019 0x61)))
mnt_that_is_too_long_is_at_once = refl

mnt_with_more_slashes_and_dots_is_below :
    mnt_call (0x2f ∷ 0x2e ∷ below (0x2f ∷ 0x2e ∷ 0x2f ∷ d ++ 0x2f ∷ [])) ≡ MountBelow root (0x2f ∷ 0x2e ∷ below (0x2f ∷ 0x2e ∷ 0x2f ∷ d ++ 0x2f ∷ []))
mnt_with_more_slashes_and_dots_is_below = refl

mnt_below_a_root_has_its_handle : mnt_call (below d) ≡ MountBelow root (below d)
mnt_below_a_root_has_its_handle = refl

mnt_of_1024_characters_is_below : mnt_call (below (replicate 1018 0x61)) ≡ MountBelow root (below (replicate 1018 0x61))
mnt_of_1024_characters_is_below = refl

mnt_below_the_tenth : mnt_call (0x2f ∷ 0x76 ∷ 0x6f ∷ 0x6c ∷ 0x39 ∷ 0x2f ∷ d)
    ≡ MountBelow (0 ∷ 0 ∷ 0 ∷ 9 ∷ 0 ∷ 0 ∷ 0 ∷ 0 ∷ 0 ∷ 0 ∷ 0 ∷ 1 ∷ []) (0x2f ∷ 0x76 ∷ 0x6f ∷ 0x6c ∷ 0x39 ∷ 0x2f ∷ d)
mnt_below_the_tenth = refl

mnt_of_a_directory : (serial with_tree (Ask (MountBelow root (below d)) nobody) (at 1) false).reply ≡ Success (MountDone (h 2))
mnt_of_a_directory = simp evaluate refl

mnt_with_slashes_and_dots : (serial with_tree (Ask (MountBelow root (0x2f ∷ below (0x2f ∷ 0x2e ∷ 0x2f ∷ d ++ 0x2f ∷ 0x2e ∷ []))) nobody) (at 1) false).reply ≡ Success (MountDone (h 2))
mnt_with_slashes_and_dots = simp evaluate refl

mnt_with_a_slash_at_the_end : (serial with_tree (Ask (MountBelow root (below (d ++ 0x2f ∷ []))) nobody) (at 1) false).reply ≡ Success (MountDone (h 2))
mnt_with_a_slash_at_the_end = simp evaluate refl

mnt_of_a_directory_in_another :
    (serial with_four (Ask (MountBelow root (below (d ++ 0x2f ∷ e))) nobody) (at 1) false).reply ≡ Success (MountDone (h 5))
mnt_of_a_directory_in_another = simp evaluate refl

mnt_of_a_name_of_another_directory : (serial with_four (Ask (MountBelow root (below e)) nobody) (at 1) false).reply ≡ fails NoEntry 0
mnt_of_a_name_of_another_directory = simp evaluate refl

mnt_changes_nothing : (serial with_tree (Ask (MountBelow root (below d)) nobody) (at 1) false).server ≡ with_tree
mnt_changes_nothing = simp evaluate refl

mnt_of_a_file : (serial with_tree (Ask (MountBelow root (below d_f)) nobody) (at 1) false).reply ≡ fails NotDirectory 0
mnt_of_a_file = simp evaluate refl

mnt_over_a_file : (serial with_tree (Ask (MountBelow root (below (d_f ++ 0x2f ∷ x))) nobody) (at 1) false).reply ≡ fails NotDirectory 0
mnt_over_a_file = simp evaluate refl

mnt_of_what_is_not_there : (serial with_tree (Ask (MountBelow root (below x)) nobody) (at 1) false).reply ≡ fails NoEntry 0
mnt_of_what_is_not_there = simp evaluate refl

mnt_over_what_is_not_there : (serial with_tree (Ask (MountBelow root (below (x ++ 0x2f ∷ 0x2e ∷ 0x2e ∷ []))) nobody) (at 1) false).reply ≡ fails NoEntry 0
mnt_over_what_is_not_there = simp evaluate refl

mnt_of_the_parent : (serial with_tree (Ask (MountBelow root (below (d ++ 0x2f ∷ 0x2e ∷ 0x2e ∷ []))) nobody) (at 1) false).reply ≡ fails Access 0
mnt_of_the_parent = simp evaluate refl

mnt_of_the_parent_of_a_file : (serial with_tree (Ask (MountBelow root (below (d_f ++ 0x2f ∷ 0x2e ∷ 0x2e ∷ []))) nobody) (at 1) false).reply ≡ fails NotDirectory 0
mnt_of_the_parent_of_a_file = simp evaluate refl

mnt_with_byte_0 : (serial with_tree (Ask (MountBelow root (below (0 ∷ []))) nobody) (at 1) false).reply ≡ fails Access 0
mnt_with_byte_0 = simp evaluate refl

mnt_of_a_part_of_256_bytes : (serial with_tree (Ask (MountBelow root (below (replicate 256 0x61))) nobody) (at 1) false).reply ≡ fails NameTooLong 0
mnt_of_a_part_of_256_bytes = simp evaluate refl

mnt_of_a_part_of_255_bytes : (serial with_tree (Ask (MountBelow root (below (replicate 255 0x61))) nobody) (at 1) false).reply ≡ fails NoEntry 0
mnt_of_a_part_of_255_bytes = simp evaluate refl

mnt_below_no_volume : (serial with_tree (Ask (mnt_call (below_vol2 d)) nobody) (at 1) false).reply ≡ fails NoEntry 0
mnt_below_no_volume = refl

mnt_of_the_parent_below_no_volume : (serial with_tree (Ask (mnt_call (below_vol2 (0x2e ∷ 0x2e ∷ []))) nobody) (at 1) false).reply ≡ fails NoEntry 0
mnt_of_the_parent_below_no_volume = refl

mnt_below_the_second_runs_on_its_names : home layout (mnt_call (vol1 ++ 0x2f ∷ d)) ≡ Some (Logical 1)
mnt_below_the_second_runs_on_its_names = refl

mnt_below_runs_on_names : home layout (mnt_call (below d)) ≡ Some (Logical 0)
mnt_below_runs_on_names = refl

mnt_below_no_volume_has_no_home : home layout (mnt_call (below_vol2 d)) ≡ None
mnt_below_no_volume_has_no_home = refl

mnt_below_may_starve_at_its_path : may_starve_at_decoding (Ask (mnt_call (below d)) nobody) ≡ true
mnt_below_may_starve_at_its_path = refl

mnt_below_may_not_starve_later : may_starve_later with_tree (Ask (mnt_call (below d)) nobody) (at 1) ≡ false
mnt_below_may_not_starve_later = simp evaluate refl
