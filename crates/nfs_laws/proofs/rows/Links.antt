-- LINK, and REMOVE, RENAME and CREATE of what has several names (RFC 1813 sections 3.3.8, 3.3.12, 3.3.14, 3.3.15 and 2.6; POSIX, link,
-- unlink and rename).
use Rattle.std.proofs.Common.{◌≡◌, true, false, [], ◌∷◌, replicate, Some, None, refl}
use Rattle.nfs_model.specs.Types.{SymbolicLink, Fifo, Socket, Unchecked, Exclusive, Getattr, Setattr, Lookup, Readlink, Read, Create}
use Rattle.nfs_model.specs.Types.{Remove, Rename, Link, Readdir, Readdirplus, Fsstat, Ask, Success, GetattrDone, LookupDone, ReadlinkDone, ReadDone}
use Rattle.nfs_model.specs.Types.{MadeDone, GoneDone, RenameDone, LinkDone, ReaddirDone, ReaddirplusDone, FsstatDone, NoEntry, Access, Exists, NotSynchronous, SetattrDone}
use Rattle.nfs_model.specs.Types.{CrossVolume, NotDirectory, Invalid, TooManyLinks, NameTooLong, Stale, BadHandle}
use Rattle.nfs_model.specs.Server.{File, Server, handle_bytes}
use Rattle.nfs_model.specs.Serial.Create.{no_attributes}
use Rattle.nfs_model.specs.Serial.Starve.{may_starve_later}
use Rattle.nfs_model.specs.Serial.Step.{stay, serial}
use Rattle.nfs_laws.specs.lemmas.Evaluate.{evaluate}
use Rattle.nfs_laws.proofs.rows.Cases.{start, at, nobody, h, root, fails, a, b, d, x, entry, write_at, sized, no_blocks, stored, file, exclusive_file, directory}
use Rattle.nfs_laws.proofs.rows.Cases.{with_file, with_tree, root_shown, directory_shown, file_shown, before, changed}
use Rattle.nfs_laws.proofs.rows.Linked.{disk, special_node, symbolic_link, special_file, named_file, named_touched_file, two_names, across, beside}
use Rattle.nfs_laws.proofs.rows.Linked.{three_names, with_inodes, special_shown, symbolic_link_shown, named_shown}

-- ---- LINK: checks in order

link_of_a_bad_handle :
    (serial start (Ask (Link (replicate 11 0) (handle_bytes 1 1) a) nobody) (at 1) false).reply
    ≡ fails BadHandle 3
link_of_a_bad_handle = refl

link_below_a_bad_handle :
    (serial start (Ask (Link (handle_bytes 1 9) (replicate 13 0) a) nobody) (at 1) false).reply
    ≡ fails BadHandle 3
link_below_a_bad_handle = refl

-- nodes that aren't there, and a name of 256 bytes
link_into_another_volume :
    (serial start (Ask (Link (handle_bytes 1 9) (h 9) (replicate 256 97)) nobody) (at 1) false).reply
    ≡ fails CrossVolume 3
link_into_another_volume = refl

link_out_of_another_volume :
    (serial (with_file (named_file 1)) (Ask (Link (h 2) (handle_bytes 1 1) b) nobody) (at 2) false).reply
    ≡ fails CrossVolume 3
link_out_of_another_volume = refl

link_of_an_absent_node :
    (serial (with_file (named_file 1)) (Ask (Link (h 9) (h 2) (replicate 256 97)) nobody) (at 2) false).reply
    ≡ fails Stale 3
link_of_an_absent_node = simp evaluate refl

link_of_a_directory :
    (serial with_tree (Ask (Link (h 2) (h 9) (replicate 256 97)) nobody) (at 2) false).reply
    ≡ fails Invalid 3
link_of_a_directory = simp evaluate refl

link_of_the_root :
    (serial start (Ask (Link root root a) nobody) (at 2) false).reply
    ≡ fails Invalid 3
link_of_the_root = simp evaluate refl

link_in_an_absent_directory :
    (serial (with_file (named_file 1)) (Ask (Link (h 2) (h 9) (replicate 256 97)) nobody) (at 2) false).reply
    ≡ fails Stale 3
link_in_an_absent_directory = simp evaluate refl

link_in_a_file :
    (serial (with_file (named_file 1)) (Ask (Link (h 2) (h 2) (replicate 256 97)) nobody) (at 2) false).reply
    ≡ fails NotDirectory 3
link_in_a_file = simp evaluate refl

link_in_a_symbolic_link :
    (serial (beside (named_file 1) (symbolic_link d)) (Ask (Link (h 2) (h 3) x) nobody) (at 2) false).reply
    ≡ fails NotDirectory 3
link_in_a_symbolic_link = simp evaluate refl

link_of_256_bytes :
    (serial (with_file (named_file 65000)) (Ask (Link (h 2) root (replicate 256 47)) nobody) (at 2) false).reply
    ≡ fails NameTooLong 3
link_of_256_bytes = simp evaluate refl

link_of_no_bytes :
    (serial (with_file (named_file 1)) (Ask (Link (h 2) root []) nobody) (at 2) false).reply
    ≡ fails Access 3
link_of_no_bytes = simp evaluate refl

link_of_a_slash :
    (serial (with_file (named_file 1)) (Ask (Link (h 2) root (97 ∷ (47 ∷ []))) nobody) (at 2) false).reply
    ≡ fails Access 3
link_of_a_slash = simp evaluate refl

link_of_a_zero_byte :
    (serial (with_file (named_file 1)) (Ask (Link (h 2) root (97 ∷ (0 ∷ []))) nobody) (at 2) false).reply
    ≡ fails Access 3
link_of_a_zero_byte = simp evaluate refl

link_of_dot :
    (serial (with_file (named_file 65000)) (Ask (Link (h 2) root (46 ∷ [])) nobody) (at 2) false).reply
    ≡ fails Exists 3
link_of_dot = simp evaluate refl

link_of_dot_dot :
    (serial (with_file (named_file 1)) (Ask (Link (h 2) root (46 ∷ (46 ∷ []))) nobody) (at 2) false).reply
    ≡ fails Exists 3
link_of_dot_dot = simp evaluate refl

link_of_its_own_name :
    (serial (with_file (named_file 65000)) (Ask (Link (h 2) root a) nobody) (at 2) false).reply
    ≡ fails Exists 3
link_of_its_own_name = simp evaluate refl

link_over_another_file :
    (serial (beside (named_file 1) (file [] no_blocks)) (Ask (Link (h 2) root b) nobody) (at 2) false).reply
    ≡ fails Exists 3
link_over_another_file = simp evaluate refl

link_over_a_directory :
    (serial (across (named_file 2)) (Ask (Link (h 2) root d) nobody) (at 2) false).reply
    ≡ fails Exists 3
link_over_a_directory = simp evaluate refl

link_of_65000_names :
    (serial (with_file (named_file 65000)) (Ask (Link (h 2) root b) nobody) (at 2) false).reply
    ≡ fails TooManyLinks 3
link_of_65000_names = simp evaluate refl

link_of_64999_names :
    (serial (with_file (named_file 64999)) (Ask (Link (h 2) root b) nobody) (at 2) false).reply
    ≡ Success (LinkDone (named_shown 2 65000 2) (changed (before 4096 1 1) (root_shown 2 2)))
link_of_64999_names = simp evaluate refl

link_of_a_fifo_of_65000_names :
    (serial (with_file (special_node Fifo 420 [] 65000)) (Ask (Link (h 2) root b) nobody) (at 2) false).reply
    ≡ fails TooManyLinks 3
link_of_a_fifo_of_65000_names = simp evaluate refl

link_of_a_fifo_of_64999_names :
    (serial (with_file (special_node Fifo 420 [] 64999)) (Ask (Link (h 2) root b) nobody) (at 2) false).reply
    ≡ Success (LinkDone (record (special_shown 2 Fifo 420 2) { links = 65000 }) (changed (before 4096 1 1) (root_shown 2 2)))
link_of_a_fifo_of_64999_names = simp evaluate refl

-- ---- LINK: what it does

linked_file :
    (serial (with_file (named_file 1)) (Ask (Link (h 2) root b) nobody) (at 2) false).reply
    ≡ Success (LinkDone (named_shown 2 2 2) (changed (before 4096 1 1) (root_shown 2 2)))
linked_file = simp evaluate refl

linked_file_is_under_its_other_name :
    (serial (serial (with_file (named_file 1)) (Ask (Link (h 2) root b) nobody) (at 2) false).server (Ask (Lookup root b) nobody) (at 3) false).reply
    ≡ Success (LookupDone (h 2) (named_shown 2 2 2) (root_shown 2 2))
linked_file_is_under_its_other_name = simp evaluate refl

linked_file_is_under_its_old_name :
    (serial (serial (with_file (named_file 1)) (Ask (Link (h 2) root b) nobody) (at 2) false).server (Ask (Lookup root a) nobody) (at 3) false).reply
    ≡ Success (LookupDone (h 2) (named_shown 2 2 2) (root_shown 2 2))
linked_file_is_under_its_old_name = simp evaluate refl

linked_into_a_directory :
    (serial (across (named_file 2)) (Ask (Link (h 2) (h 3) x) nobody) (at 2) false).reply
    ≡ Success (LinkDone (named_shown 2 3 2) (changed (before 4096 1 1) (record (directory_shown 3 2 2) { atime = at 1 })))
linked_into_a_directory = simp evaluate refl

-- both names by one fileid, the new one under the next cookie
linked_name_takes_a_cookie :
    (serial (serial (with_file (named_file 1)) (Ask (Link (h 2) root b) nobody) (at 2) false).server (Ask (Readdir root 2 (replicate 8 0) 512) nobody)
    (at 3) false).reply
    ≡ Success (ReaddirDone (root_shown 2 2) (entry 3 a 2 ∷ (entry 4 b 2 ∷ [])) true)
linked_name_takes_a_cookie = simp evaluate refl

readdirplus_shows_both_names :
    (serial (two_names (named_file 2)) (Ask (Readdirplus root 2 (replicate 8 0) 512 4096) nobody) (at 2) false).reply
    ≡ Success (ReaddirplusDone (root_shown 2 1)
    (record { entry = entry 3 a 2; attributes = Some (named_shown 2 2 1); handle = Some (h 2) }
    ∷ (record { entry = entry 4 b 2; attributes = Some (named_shown 2 2 1); handle = Some (h 2) } ∷ [])) true)
readdirplus_shows_both_names = simp evaluate refl

link_settles_the_file :
    (serial (with_file (named_touched_file 1)) (Ask (Link (h 2) root b) nobody) (at 10) false).reply
    ≡ Success (LinkDone (record (named_shown 2 2 10) { mtime = at 9 }) (changed (before 4096 1 1) (root_shown 2 10)))
link_settles_the_file = simp evaluate refl

-- an earlier write than the latest, which the LINK has settled
link_ends_the_touch :
    (serial (serial (serial (with_file (named_touched_file 1)) (Ask (Link (h 2) root b) nobody) (at 10) false).server
    (Ask (write_at 2 0 (5 ∷ [])) nobody) (at 8) false).server (Ask (Getattr (h 2)) nobody) (at 11) false).reply
    ≡ Success (GetattrDone (record (named_shown 2 2 8) { mtime = at 8 }))
link_ends_the_touch = simp evaluate refl

-- and not what it names
link_of_a_symbolic_link :
    (serial (beside (named_file 1) (symbolic_link a)) (Ask (Link (h 3) root x) nobody) (at 2) false).reply
    ≡ Success (LinkDone (record (symbolic_link_shown 3 1 2) { links = 2 }) (changed (before 4096 1 1) (root_shown 2 2)))
link_of_a_symbolic_link = simp evaluate refl

text_by_another_name :
    (serial (serial (serial (with_file (symbolic_link (120 ∷ []))) (Ask (Link (h 2) root b) nobody) (at 2) false).server
    (Ask (Remove root a) nobody) (at 3) false).server (Ask (Readlink (h 2)) nobody) (at 4) false).reply
    ≡ Success (ReadlinkDone (symbolic_link_shown 2 1 3) (120 ∷ []))
text_by_another_name = simp evaluate refl

link_of_a_device :
    (serial (with_file (special_file disk)) (Ask (Link (h 2) root b) nobody) (at 2) false).reply
    ≡ Success (LinkDone (record (special_shown 2 disk 420 2) { links = 2 }) (changed (before 4096 1 1) (root_shown 2 2)))
link_of_a_device = simp evaluate refl

link_of_a_removed_file :
    (serial (serial (with_file (named_file 1)) (Ask (Remove root a) nobody) (at 2) false).server (Ask (Link (h 2) root a) nobody) (at 3) false).reply
    ≡ fails Stale 3
link_of_a_removed_file = simp evaluate refl

-- 1,024 blocks of 4,096 bytes, of which one is filled; 65,536 inodes but for the root and the file
two_names_take_one_inode :
    (serial (two_names (named_file 2)) (Ask (Fsstat root) nobody) (at 2) false).reply
    ≡ Success (FsstatDone (root_shown 2 1) (record { total_bytes = 4194304; free_bytes = 4190208; inodes = 65536; free_inodes = 65534 }))
two_names_take_one_inode = simp evaluate refl

-- LINK takes none: there are the root and the file
link_without_inodes :
    (serial (with_inodes 2 (named_file 1)) (Ask (Link (h 2) root b) nobody) (at 2) false).reply
    ≡ Success (LinkDone (named_shown 2 2 2) (changed (before 4096 1 1) (root_shown 2 2)))
link_without_inodes = simp evaluate refl

-- ctime was 1 second
guard_of_before_a_link :
    (serial (serial (with_file (named_file 1)) (Ask (Link (h 2) root b) nobody) (at 2) false).server
    (Ask (Setattr (h 2) no_attributes (Some (at 1))) nobody) (at 3) false).reply
    ≡ fails NotSynchronous 2
guard_of_before_a_link = simp evaluate refl

guard_of_after_a_link :
    (serial (serial (with_file (named_file 1)) (Ask (Link (h 2) root b) nobody) (at 2) false).server
    (Ask (Setattr (h 2) no_attributes (Some (at 2))) nobody) (at 3) false).reply
    ≡ Success (SetattrDone (changed (before 1 1 2) (named_shown 2 2 3)))
guard_of_after_a_link = simp evaluate refl

-- ---- REMOVE of one of two names

removed_name :
    (serial (two_names (named_file 2)) (Ask (Remove root a) nobody) (at 2) false).reply
    ≡ Success (GoneDone (changed (before 4096 1 1) (root_shown 2 2)))
removed_name = simp evaluate refl

removed_name_is_not_there :
    (serial (serial (two_names (named_file 2)) (Ask (Remove root a) nobody) (at 2) false).server (Ask (Lookup root a) nobody) (at 3) false).reply
    ≡ fails NoEntry 1
removed_name_is_not_there = simp evaluate refl

file_has_its_other_name :
    (serial (serial (two_names (named_file 2)) (Ask (Remove root a) nobody) (at 2) false).server (Ask (Lookup root b) nobody) (at 3) false).reply
    ≡ Success (LookupDone (h 2) (named_shown 2 1 2) (root_shown 2 2))
file_has_its_other_name = simp evaluate refl

file_has_its_bytes :
    (serial (serial (two_names (named_file 2)) (Ask (Remove root a) nobody) (at 2) false).server (Ask (Read (h 2) 0 9) nobody) (at 3) false).reply
    ≡ Success (ReadDone 1 true (7 ∷ []))
file_has_its_bytes = simp evaluate refl

file_has_its_block :
    (serial (serial (two_names (named_file 2)) (Ask (Remove root a) nobody) (at 2) false).server (Ask (Fsstat root) nobody) (at 3) false).reply
    ≡ Success (FsstatDone (root_shown 2 2) (record { total_bytes = 4194304; free_bytes = 4190208; inodes = 65536; free_inodes = 65534 }))
file_has_its_block = simp evaluate refl

removal_settles_the_file :
    (serial (serial (two_names (named_touched_file 2)) (Ask (Remove root a) nobody) (at 10) false).server (Ask (Getattr (h 2)) nobody) (at 11) false).reply
    ≡ Success (GetattrDone (record (named_shown 2 1 10) { mtime = at 9 }))
removal_settles_the_file = simp evaluate refl

device_has_its_other_name :
    (serial (serial (two_names (special_node disk 420 [] 2)) (Ask (Remove root b) nobody) (at 2) false).server (Ask (Lookup root a) nobody)
    (at 3) false).reply
    ≡ Success (LookupDone (h 2) (special_shown 2 disk 420 2) (root_shown 2 2))
device_has_its_other_name = simp evaluate refl

file_has_its_name_in_a_directory :
    (serial (serial (across (named_file 2)) (Ask (Remove root a) nobody) (at 2) false).server (Ask (Lookup (h 3) b) nobody) (at 3) false).reply
    ≡ Success (LookupDone (h 2) (named_shown 2 1 2) (directory_shown 3 2 1))
file_has_its_name_in_a_directory = simp evaluate refl

file_of_three_names_has_two :
    (serial (serial (serial (two_names (named_file 2)) (Ask (Link (h 2) root x) nobody) (at 2) false).server (Ask (Remove root a) nobody)
    (at 3) false).server (Ask (Getattr (h 2)) nobody) (at 4) false).reply
    ≡ Success (GetattrDone (named_shown 2 2 3))
file_of_three_names_has_two = simp evaluate refl

fifo_of_three_names_has_two :
    (serial (serial (serial (two_names (special_node Fifo 420 [] 2)) (Ask (Link (h 2) root x) nobody) (at 2) false).server
    (Ask (Remove root a) nobody) (at 3) false).server (Ask (Getattr (h 2)) nobody) (at 4) false).reply
    ≡ Success (GetattrDone (record (special_shown 2 Fifo 420 3) { links = 2 }))
fifo_of_three_names_has_two = simp evaluate refl

-- ---- and of the last

without_its_last_name_a_file_is_stale :
    (serial (serial (serial (two_names (named_file 2)) (Ask (Remove root a) nobody) (at 2) false).server (Ask (Remove root b) nobody) (at 3) false).server
    (Ask (Getattr (h 2)) nobody) (at 4) false).reply
    ≡ fails Stale 0
without_its_last_name_a_file_is_stale = simp evaluate refl

without_its_last_name_a_symbolic_link_is_stale :
    (serial (serial (serial (two_names (special_node SymbolicLink 511 d 2)) (Ask (Remove root a) nobody) (at 2) false).server
    (Ask (Remove root b) nobody) (at 3) false).server (Ask (Readlink (h 2)) nobody) (at 4) false).reply
    ≡ fails Stale 1
without_its_last_name_a_symbolic_link_is_stale = simp evaluate refl

block_of_a_file_without_a_name_is_space :
    (serial (serial (serial (two_names (named_file 2)) (Ask (Remove root a) nobody) (at 2) false).server (Ask (Remove root b) nobody) (at 3) false).server
    (Ask (Fsstat root) nobody) (at 4) false).reply
    ≡ Success (FsstatDone (root_shown 2 3) (record { total_bytes = 4194304; free_bytes = 4194304; inodes = 65536; free_inodes = 65535 }))
block_of_a_file_without_a_name_is_space = simp evaluate refl

-- ---- RENAME of one name of a node to another of its names: OK, and nothing changes

rename_to_another_name_of_a_file :
    serial (two_names (named_file 2)) (Ask (Rename root a root b) nobody) (at 2) false
    ≡ stay (two_names (named_file 2)) (RenameDone (changed (before 4096 1 1) (root_shown 2 1)) (changed (before 4096 1 1) (root_shown 2 1)))
rename_to_another_name_of_a_file = simp evaluate refl

rename_to_another_name_of_a_symbolic_link :
    serial (two_names (special_node SymbolicLink 511 x 2)) (Ask (Rename root b root a) nobody) (at 2) false
    ≡ stay (two_names (special_node SymbolicLink 511 x 2))
    (RenameDone (changed (before 4096 1 1) (root_shown 2 1)) (changed (before 4096 1 1) (root_shown 2 1)))
rename_to_another_name_of_a_symbolic_link = simp evaluate refl

rename_to_another_name_in_a_directory :
    serial (across (named_file 2)) (Ask (Rename root a (h 3) b) nobody) (at 2) false
    ≡ stay (across (named_file 2)) (RenameDone (changed (before 4096 1 1) (root_shown 3 1)) (changed (before 4096 1 1) (directory_shown 3 2 1)))
rename_to_another_name_in_a_directory = simp evaluate refl

rename_to_another_name_out_of_a_directory :
    serial (across (special_node Fifo 420 [] 2)) (Ask (Rename (h 3) b root a) nobody) (at 2) false
    ≡ stay (across (special_node Fifo 420 [] 2))
    (RenameDone (changed (before 4096 1 1) (directory_shown 3 2 1)) (changed (before 4096 1 1) (root_shown 3 1)))
rename_to_another_name_out_of_a_directory = simp evaluate refl

-- ---- RENAME over a name of a node that has another

rename_over_one_of_two_names :
    (serial (three_names (file [] no_blocks) (named_file 2)) (Ask (Rename root a root b) nobody) (at 2) false).reply
    ≡ Success (RenameDone (changed (before 4096 1 1) (root_shown 2 2)) (changed (before 4096 1 1) (root_shown 2 2)))
rename_over_one_of_two_names = simp evaluate refl

replaced_file_has_its_other_name :
    (serial (serial (three_names (file [] no_blocks) (named_file 2)) (Ask (Rename root a root b) nobody) (at 2) false).server (Ask (Lookup root x) nobody)
    (at 3) false).reply
    ≡ Success (LookupDone (h 3) (named_shown 3 1 2) (root_shown 2 2))
replaced_file_has_its_other_name = simp evaluate refl

replacing_file_is_there :
    (serial (serial (three_names (file [] no_blocks) (named_file 2)) (Ask (Rename root a root b) nobody) (at 2) false).server (Ask (Lookup root b) nobody)
    (at 3) false).reply
    ≡ Success (LookupDone (h 2) (file_shown 2 0 0 1 2) (root_shown 2 2))
replacing_file_is_there = simp evaluate refl

renamed_file_keeps_its_name_in_another_directory :
    (serial (serial (across (named_file 2)) (Ask (Rename root a (h 3) x) nobody) (at 2) false).server (Ask (Lookup (h 3) b) nobody) (at 3) false).reply
    ≡ Success (LookupDone (h 2) (named_shown 2 2 2) (record (directory_shown 3 2 2) { atime = at 1 }))
renamed_file_keeps_its_name_in_another_directory = simp evaluate refl

-- it moves, and keeps its count
renamed_file_keeps_its_other_name :
    (serial (serial (two_names (named_file 2)) (Ask (Rename root a root x) nobody) (at 2) false).server (Ask (Lookup root b) nobody) (at 3) false).reply
    ≡ Success (LookupDone (h 2) (named_shown 2 2 2) (root_shown 2 2))
renamed_file_keeps_its_other_name = simp evaluate refl

rename_over_a_file_settles_it :
    (serial (serial (three_names (file [] no_blocks) (named_touched_file 2)) (Ask (Rename root a root b) nobody) (at 10) false).server
    (Ask (Getattr (h 3)) nobody) (at 11) false).reply
    ≡ Success (GetattrDone (record (named_shown 3 1 10) { mtime = at 9 }))
rename_over_a_file_settles_it = simp evaluate refl

replaced_device_has_its_other_name :
    (serial (serial (three_names (named_file 1) (special_node disk 420 [] 2)) (Ask (Rename root a root b) nobody) (at 2) false).server
    (Ask (Getattr (h 3)) nobody) (at 3) false).reply
    ≡ Success (GetattrDone (special_shown 3 disk 420 2))
replaced_device_has_its_other_name = simp evaluate refl

-- of `b`, `x` and `d`, `b` goes
replaced_file_of_three_names_has_two :
    (serial (serial (serial (three_names (file [] no_blocks) (named_file 2)) (Ask (Link (h 3) root d) nobody) (at 2) false).server
    (Ask (Rename root a root b) nobody) (at 3) false).server (Ask (Getattr (h 3)) nobody) (at 4) false).reply
    ≡ Success (GetattrDone (named_shown 3 2 3))
replaced_file_of_three_names_has_two = simp evaluate refl

-- ---- RENAME over another kind

rename_of_a_fifo_over_a_file :
    (serial (beside (special_file Fifo) (named_file 1)) (Ask (Rename root a root b) nobody) (at 2) false).reply
    ≡ Success (RenameDone (changed (before 4096 1 1) (root_shown 2 2)) (changed (before 4096 1 1) (root_shown 2 2)))
rename_of_a_fifo_over_a_file = simp evaluate refl

file_under_a_fifo_is_stale :
    (serial (serial (beside (special_file Fifo) (named_file 1)) (Ask (Rename root a root b) nobody) (at 2) false).server (Ask (Getattr (h 3)) nobody)
    (at 3) false).reply
    ≡ fails Stale 0
file_under_a_fifo_is_stale = simp evaluate refl

rename_of_a_file_over_a_symbolic_link :
    (serial (serial (beside (named_file 1) (symbolic_link d)) (Ask (Rename root a root b) nobody) (at 2) false).server (Ask (Lookup root b) nobody)
    (at 3) false).reply
    ≡ Success (LookupDone (h 2) (named_shown 2 1 2) (root_shown 2 2))
rename_of_a_file_over_a_symbolic_link = simp evaluate refl

symbolic_link_under_a_file_is_stale :
    (serial (serial (beside (named_file 1) (symbolic_link d)) (Ask (Rename root a root b) nobody) (at 2) false).server (Ask (Readlink (h 3)) nobody)
    (at 3) false).reply
    ≡ fails Stale 1
symbolic_link_under_a_file_is_stale = simp evaluate refl

rename_of_a_device_over_a_socket :
    (serial (serial (beside (special_file disk) (special_file Socket)) (Ask (Rename root a root b) nobody) (at 2) false).server
    (Ask (Lookup root b) nobody) (at 3) false).reply
    ≡ Success (LookupDone (h 2) (special_shown 2 disk 420 2) (root_shown 2 2))
rename_of_a_device_over_a_socket = simp evaluate refl

rename_of_a_symbolic_link_over_a_directory :
    (serial (beside (symbolic_link b) (directory 1 3 [])) (Ask (Rename root a root b) nobody) (at 2) false).reply
    ≡ fails Exists 4
rename_of_a_symbolic_link_over_a_directory = simp evaluate refl

rename_of_a_directory_over_a_fifo :
    (serial (beside (directory 1 3 []) (special_file Fifo)) (Ask (Rename root a root b) nobody) (at 2) false).reply
    ≡ fails Exists 4
rename_of_a_directory_over_a_fifo = simp evaluate refl

rename_in_a_fifo :
    (serial (beside (special_file Fifo) (named_file 1)) (Ask (Rename (h 2) x root b) nobody) (at 2) false).reply
    ≡ fails NotDirectory 4
rename_in_a_fifo = simp evaluate refl

rename_into_a_symbolic_link :
    (serial (beside (named_file 1) (symbolic_link d)) (Ask (Rename root a (h 3) x) nobody) (at 2) false).reply
    ≡ fails NotDirectory 4
rename_into_a_symbolic_link = simp evaluate refl

-- ---- CREATE over another name

-- a file that was made with the verifier of eight 1s, of two names
abbrev exclusive_of_two : Server
exclusive_of_two =
    two_names (File (record {
      attributes = stored;
      bytes = [];
      filled = no_blocks;
      touch = None;
      verifier = Some (replicate 8 1);
      links = 2;
    }))

exclusive_creation_again_by_another_name :
    serial exclusive_of_two (Ask (Create root b (Exclusive (replicate 8 1))) nobody) (at 2) false
    ≡ stay exclusive_of_two (MadeDone (h 2) (record (file_shown 2 0 0 1 1) { links = 2 }) (changed (before 4096 1 1) (root_shown 2 1)))
exclusive_creation_again_by_another_name = simp evaluate refl

exclusive_creation_of_another_verifier_by_another_name :
    (serial exclusive_of_two (Ask (Create root b (Exclusive (replicate 8 2))) nobody) (at 2) false).reply
    ≡ fails Exists 2
exclusive_creation_of_another_verifier_by_another_name = simp evaluate refl

verifier_lives_through_link_and_remove :
    (serial (serial (serial (with_file (exclusive_file 1)) (Ask (Link (h 2) root b) nobody) (at 2) false).server
    (Ask (Remove root a) nobody) (at 3) false).server (Ask (Create root b (Exclusive (replicate 8 1))) nobody) (at 4) false).reply
    ≡ Success (MadeDone (h 2) (file_shown 2 0 0 1 3) (changed (before 4096 3 3) (root_shown 2 3)))
verifier_lives_through_link_and_remove = simp evaluate refl

unchecked_creation_cuts_under_both_names :
    (serial (serial (two_names (named_file 2)) (Ask (Create root b (Unchecked (sized 0))) nobody) (at 2) false).server (Ask (Lookup root a) nobody)
    (at 3) false).reply
    ≡ Success (LookupDone (h 2) (record (file_shown 2 0 0 2 2) { links = 2 }) (root_shown 2 1))
unchecked_creation_cuts_under_both_names = simp evaluate refl

setattr_keeps_the_count :
    (serial (serial (two_names (named_file 2)) (Ask (Setattr (h 2) no_attributes None) nobody) (at 2) false).server (Ask (Getattr (h 2)) nobody)
    (at 3) false).reply
    ≡ Success (GetattrDone (named_shown 2 2 2))
setattr_keeps_the_count = simp evaluate refl

write_keeps_the_count :
    (serial (serial (two_names (named_file 2)) (Ask (write_at 2 0 (5 ∷ [])) nobody) (at 2) false).server (Ask (Getattr (h 2)) nobody) (at 3) false).reply
    ≡ Success (GetattrDone (record (named_shown 2 2 2) { mtime = at 2 }))
write_keeps_the_count = simp evaluate refl

-- ---- what may take memory where it succeeds: a text that is told, a new entry (our profile)

readlink_may_starve : may_starve_later (with_file (symbolic_link d)) (Ask (Readlink (h 2)) nobody) (at 2) ≡ true
readlink_may_starve = simp evaluate refl

readlink_of_a_fifo_may_not_starve : may_starve_later (with_file (special_file Fifo)) (Ask (Readlink (h 2)) nobody) (at 2) ≡ false
readlink_of_a_fifo_may_not_starve = simp evaluate refl

rename_to_a_new_name_may_starve : may_starve_later (two_names (named_file 2)) (Ask (Rename root a root x) nobody) (at 2) ≡ true
rename_to_a_new_name_may_starve = simp evaluate refl

rename_to_another_name_may_not_starve : may_starve_later (two_names (named_file 2)) (Ask (Rename root a root b) nobody) (at 2) ≡ false
rename_to_another_name_may_not_starve = simp evaluate refl

rename_over_one_of_two_names_may_starve :
    may_starve_later (three_names (named_file 1) (named_file 2)) (Ask (Rename root a root b) nobody) (at 2) ≡ true
rename_over_one_of_two_names_may_starve = simp evaluate refl

removal_of_one_of_two_names_may_not_starve : may_starve_later (two_names (named_file 2)) (Ask (Remove root a) nobody) (at 2) ≡ false
removal_of_one_of_two_names_may_not_starve = simp evaluate refl
