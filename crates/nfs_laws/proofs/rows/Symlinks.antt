-- READLINK and SYMLINK (RFC 1813 sections 3.3.5 and 3.3.10; POSIX, readlink and symlink).
use Rattle.std.proofs.Common.{◌≡◌, false, [], ◌∷◌, replicate, Some, None, refl}
use Rattle.nfs_model.specs.Types.{Fifo, Socket, ServerTime, ClientTime, Getattr, Setattr, Lookup, Readlink, Symlink}
use Rattle.nfs_model.specs.Types.{Create, Remove, Rmdir, Rename, Readdir, MountBelow, Unchecked, Ask, Success, GetattrDone, SetattrDone, LookupDone, ReadlinkDone, MadeDone, GoneDone}
use Rattle.nfs_model.specs.Types.{NoEntry, Access, Exists, NotDirectory, Invalid, NoSpace, NameTooLong, Stale, BadHandle}
use Rattle.nfs_model.specs.Serial.Create.{no_attributes}
use Rattle.nfs_model.specs.Serial.Symlink.{text_fault}
use Rattle.nfs_model.specs.Serial.Step.{stay, serial}
use Rattle.nfs_laws.specs.lemmas.Evaluate.{evaluate}
use Rattle.nfs_laws.proofs.rows.Cases.{start, at, nobody, h, root, fails, a, b, d, f, x, no_blocks, file, with_file, with_tree, root_shown}
use Rattle.nfs_laws.proofs.rows.Cases.{directory, directory_shown, file_shown, before, changed}
use Rattle.nfs_laws.proofs.rows.Linked.{disk, terminal, d_f, with_bad_time, symbolic_link, special_file, beside, without_inodes, with_inodes}
use Rattle.nfs_laws.proofs.rows.Linked.{symbolic_link_shown}

-- ---- READLINK

readlink_of_a_bad_handle :
    (serial start (Ask (Readlink (replicate 11 0)) nobody) (at 1) false).reply
    ≡ fails BadHandle 1
readlink_of_a_bad_handle = refl

readlink_of_an_absent_node :
    (serial start (Ask (Readlink (h 2)) nobody) (at 1) false).reply
    ≡ fails Stale 1
readlink_of_an_absent_node = simp evaluate refl

readlink_of_a_file :
    (serial (with_file (file (100 ∷ []) no_blocks)) (Ask (Readlink (h 2)) nobody) (at 1) false).reply
    ≡ fails Invalid 1
readlink_of_a_file = simp evaluate refl

readlink_of_a_directory :
    (serial start (Ask (Readlink root) nobody) (at 1) false).reply
    ≡ fails Invalid 1
readlink_of_a_directory = simp evaluate refl

readlink_of_a_fifo :
    (serial (with_file (special_file Fifo)) (Ask (Readlink (h 2)) nobody) (at 1) false).reply
    ≡ fails Invalid 1
readlink_of_a_fifo = simp evaluate refl

readlink_of_a_socket :
    (serial (with_file (special_file Socket)) (Ask (Readlink (h 2)) nobody) (at 1) false).reply
    ≡ fails Invalid 1
readlink_of_a_socket = simp evaluate refl

readlink_of_a_block_device :
    (serial (with_file (special_file disk)) (Ask (Readlink (h 2)) nobody) (at 1) false).reply
    ≡ fails Invalid 1
readlink_of_a_block_device = simp evaluate refl

readlink_of_a_character_device :
    (serial (with_file (special_file terminal)) (Ask (Readlink (h 2)) nobody) (at 1) false).reply
    ≡ fails Invalid 1
readlink_of_a_character_device = simp evaluate refl

-- and nothing changes
readlink_of_a_symbolic_link :
    serial (with_file (symbolic_link d_f)) (Ask (Readlink (h 2)) nobody) (at 5) false
    ≡ stay (with_file (symbolic_link d_f)) (ReadlinkDone (symbolic_link_shown 2 3 1) (100 ∷ (47 ∷ (102 ∷ []))))
readlink_of_a_symbolic_link = simp evaluate refl

-- ---- SYMLINK: checks in order

symlink_below_a_bad_handle :
    (serial start (Ask (Symlink (replicate 11 0) a no_attributes d_f) nobody) (at 1) false).reply
    ≡ fails BadHandle 2
symlink_below_a_bad_handle = refl

symlink_in_an_absent_directory :
    (serial start (Ask (Symlink (h 2) (replicate 256 97) no_attributes d_f) nobody) (at 1) false).reply
    ≡ fails Stale 2
symlink_in_an_absent_directory = simp evaluate refl

symlink_in_a_file :
    (serial (with_file (file [] no_blocks)) (Ask (Symlink (h 2) (replicate 256 97) no_attributes d_f) nobody) (at 1) false).reply
    ≡ fails NotDirectory 2
symlink_in_a_file = simp evaluate refl

-- to the directory `d`, which isn't followed
symlink_in_a_symbolic_link :
    (serial (with_file (symbolic_link d)) (Ask (Symlink (h 2) x no_attributes d_f) nobody) (at 1) false).reply
    ≡ fails NotDirectory 2
symlink_in_a_symbolic_link = simp evaluate refl

symlink_of_a_name_of_256_bytes :
    (serial start (Ask (Symlink root (replicate 256 47) no_attributes []) nobody) (at 1) false).reply
    ≡ fails NameTooLong 2
symlink_of_a_name_of_256_bytes = simp evaluate refl

symlink_of_no_name :
    (serial start (Ask (Symlink root [] no_attributes []) nobody) (at 1) false).reply
    ≡ fails Access 2
symlink_of_no_name = simp evaluate refl

symlink_of_a_name_with_a_slash :
    (serial start (Ask (Symlink root (97 ∷ (47 ∷ [])) no_attributes []) nobody) (at 1) false).reply
    ≡ fails Access 2
symlink_of_a_name_with_a_slash = simp evaluate refl

symlink_of_a_name_with_a_zero_byte :
    (serial start (Ask (Symlink root (97 ∷ (0 ∷ [])) no_attributes []) nobody) (at 1) false).reply
    ≡ fails Access 2
symlink_of_a_name_with_a_zero_byte = simp evaluate refl

symlink_of_dot :
    (serial start (Ask (Symlink root (46 ∷ []) no_attributes []) nobody) (at 1) false).reply
    ≡ fails Exists 2
symlink_of_dot = simp evaluate refl

symlink_of_dot_dot :
    (serial start (Ask (Symlink root (46 ∷ (46 ∷ [])) no_attributes []) nobody) (at 1) false).reply
    ≡ fails Exists 2
symlink_of_dot_dot = simp evaluate refl

symlink_of_a_name_that_is_there :
    (serial (with_file (file [] no_blocks)) (Ask (Symlink root a no_attributes []) nobody) (at 2) false).reply
    ≡ fails Exists 2
symlink_of_a_name_that_is_there = simp evaluate refl

symlink_over_a_symbolic_link :
    (serial (with_file (symbolic_link d_f)) (Ask (Symlink root a no_attributes d_f) nobody) (at 2) false).reply
    ≡ fails Exists 2
symlink_over_a_symbolic_link = simp evaluate refl

symlink_to_1025_bytes :
    (serial start (Ask (Symlink root a with_bad_time (replicate 1025 0)) nobody) (at 2) false).reply
    ≡ fails NameTooLong 2
symlink_to_1025_bytes = simp evaluate refl

text_of_1024_bytes : text_fault (replicate 1024 97) ≡ None
text_of_1024_bytes = refl

symlink_to_1024_bytes :
    (serial start (Ask (Symlink root a no_attributes (replicate 1024 97)) nobody) (at 2) false).reply
    ≡ Success (MadeDone (h 2) (record (symbolic_link_shown 2 1024 2) { atime = at 2; mtime = at 2 }) (changed (before 4096 0 0) (root_shown 2 2)))
symlink_to_1024_bytes = simp evaluate refl

symlink_to_no_bytes :
    (serial start (Ask (Symlink root a with_bad_time []) nobody) (at 2) false).reply
    ≡ fails NoEntry 2
symlink_to_no_bytes = simp evaluate refl

symlink_to_a_zero_byte :
    (serial start (Ask (Symlink root a no_attributes (97 ∷ (0 ∷ []))) nobody) (at 2) false).reply
    ≡ fails Invalid 2
symlink_to_a_zero_byte = simp evaluate refl

symlink_with_a_bad_time :
    (serial without_inodes (Ask (Symlink root a with_bad_time d_f) nobody) (at 2) false).reply
    ≡ fails Invalid 2
symlink_with_a_bad_time = simp evaluate refl

symlink_with_a_size :
    (serial without_inodes (Ask (Symlink root a (record no_attributes { size = Some 3 }) d_f) nobody) (at 2) false).reply
    ≡ fails Invalid 2
symlink_with_a_size = simp evaluate refl

symlink_without_inodes :
    (serial without_inodes (Ask (Symlink root a no_attributes d_f) nobody) (at 2) false).reply
    ≡ fails NoSpace 2
symlink_without_inodes = simp evaluate refl

-- ---- SYMLINK: what it makes

-- what it names isn't there
symbolic_link_by_default :
    (serial start (Ask (Symlink root a no_attributes d_f) nobody) (at 2) false).reply
    ≡ Success (MadeDone (h 2) (record (symbolic_link_shown 2 3 2) { atime = at 2; mtime = at 2 }) (changed (before 4096 0 0) (root_shown 2 2)))
symbolic_link_by_default = simp evaluate refl

symbolic_link_as_given :
    (serial start (Ask (Symlink root a (record no_attributes {
      mode = Some 65535;
      uid = Some 7;
      gid = Some 8;
      atime = ClientTime (at 5);
      mtime = ServerTime;
    }) d_f) nobody) (at 2) false).reply
    ≡ Success (MadeDone (h 2) (record (symbolic_link_shown 2 3 2) { mode = 4095; uid = 7; gid = 8; atime = at 5; mtime = at 2 })
    (changed (before 4096 0 0) (root_shown 2 2)))
symbolic_link_as_given = simp evaluate refl

symbolic_link_of_the_last_inode :
    (serial (with_inodes 3 (file [] no_blocks)) (Ask (Symlink root b no_attributes a) nobody) (at 2) false).reply
    ≡ Success (MadeDone (h 3) (record (symbolic_link_shown 3 1 2) { atime = at 2; mtime = at 2 }) (changed (before 4096 1 1) (root_shown 2 2)))
symbolic_link_of_the_last_inode = simp evaluate refl

text_of_a_made_symbolic_link :
    (serial (serial start (Ask (Symlink root a no_attributes d_f) nobody) (at 2) false).server (Ask (Readlink (h 2)) nobody) (at 3) false).reply
    ≡ Success (ReadlinkDone (record (symbolic_link_shown 2 3 2) { atime = at 2; mtime = at 2 }) d_f)
text_of_a_made_symbolic_link = simp evaluate refl

-- `/.././/`, of which nothing is taken away
text_stays_as_it_came :
    (serial (serial start (Ask (Symlink root a no_attributes (47 ∷ (46 ∷ (46 ∷ (47 ∷ (46 ∷ (47 ∷ (47 ∷ [])))))))) nobody) (at 2) false).server
    (Ask (Readlink (h 2)) nobody) (at 3) false).reply
    ≡ Success (ReadlinkDone (record (symbolic_link_shown 2 7 2) { atime = at 2; mtime = at 2 })
    (47 ∷ (46 ∷ (46 ∷ (47 ∷ (46 ∷ (47 ∷ (47 ∷ []))))))))
text_stays_as_it_came = simp evaluate refl

symbolic_link_to_itself :
    (serial start (Ask (Symlink root a no_attributes a) nobody) (at 2) false).reply
    ≡ Success (MadeDone (h 2) (record (symbolic_link_shown 2 1 2) { atime = at 2; mtime = at 2 }) (changed (before 4096 0 0) (root_shown 2 2)))
symbolic_link_to_itself = simp evaluate refl

symbolic_link_below_a_directory :
    (serial with_tree (Ask (Symlink (h 2) a no_attributes f) nobody) (at 2) false).reply
    ≡ Success (MadeDone (h 4) (record (symbolic_link_shown 4 1 2) { atime = at 2; mtime = at 2 })
    (changed (before 4096 1 1) (record (directory_shown 2 2 2) { atime = at 1 })))
symbolic_link_below_a_directory = simp evaluate refl

-- ---- it isn't followed

lookup_of_a_symbolic_link :
    (serial (beside (file [] no_blocks) (symbolic_link a)) (Ask (Lookup root b) nobody) (at 2) false).reply
    ≡ Success (LookupDone (h 3) (symbolic_link_shown 3 1 1) (root_shown 2 1))
lookup_of_a_symbolic_link = simp evaluate refl

getattr_of_a_symbolic_link :
    (serial (beside (file [] no_blocks) (symbolic_link a)) (Ask (Getattr (h 3)) nobody) (at 2) false).reply
    ≡ Success (GetattrDone (symbolic_link_shown 3 1 1))
getattr_of_a_symbolic_link = simp evaluate refl

mode_of_a_symbolic_link :
    (serial (beside (file [] no_blocks) (symbolic_link a)) (Ask (Setattr (h 3) (record no_attributes { mode = Some 448 }) None) nobody)
    (at 2) false).reply
    ≡ Success (SetattrDone (changed (before 1 1 1) (record (symbolic_link_shown 3 1 2) { mode = 448 })))
mode_of_a_symbolic_link = simp evaluate refl

size_of_a_symbolic_link :
    (serial (beside (file [] no_blocks) (symbolic_link a)) (Ask (Setattr (h 3) (record no_attributes { size = Some 0 }) None) nobody)
    (at 2) false).reply
    ≡ fails Invalid 2
size_of_a_symbolic_link = simp evaluate refl

what_a_removed_symbolic_link_named_stays :
    (serial (serial (beside (file [] no_blocks) (symbolic_link a)) (Ask (Remove root b) nobody) (at 2) false).server (Ask (Lookup root a) nobody)
    (at 3) false).reply
    ≡ Success (LookupDone (h 2) (file_shown 2 0 0 1 1) (root_shown 2 2))
what_a_removed_symbolic_link_named_stays = simp evaluate refl

removed_symbolic_link_is_stale :
    (serial (serial (beside (file [] no_blocks) (symbolic_link a)) (Ask (Remove root b) nobody) (at 2) false).server (Ask (Readlink (h 3)) nobody)
    (at 3) false).reply
    ≡ fails Stale 1
removed_symbolic_link_is_stale = simp evaluate refl

renamed_symbolic_link_keeps_its_text :
    (serial (serial (with_file (symbolic_link d_f)) (Ask (Rename root a root b) nobody) (at 2) false).server (Ask (Readlink (h 2)) nobody) (at 3) false).reply
    ≡ Success (ReadlinkDone (symbolic_link_shown 2 3 2) d_f)
renamed_symbolic_link_keeps_its_text = simp evaluate refl

lookup_in_a_symbolic_link_to_a_directory :
    (serial (beside (directory 1 3 []) (symbolic_link a)) (Ask (Lookup (h 3) (replicate 256 97)) nobody) (at 2) false).reply
    ≡ fails NotDirectory 1
lookup_in_a_symbolic_link_to_a_directory = simp evaluate refl

rmdir_of_a_symbolic_link_to_a_directory :
    (serial (beside (directory 1 3 []) (symbolic_link a)) (Ask (Rmdir root b) nobody) (at 2) false).reply
    ≡ fails NotDirectory 2
rmdir_of_a_symbolic_link_to_a_directory = simp evaluate refl

remove_of_a_symbolic_link_to_a_directory :
    (serial (beside (directory 1 3 []) (symbolic_link a)) (Ask (Remove root b) nobody) (at 2) false).reply
    ≡ Success (GoneDone (changed (before 4096 1 1) (root_shown 3 2)))
remove_of_a_symbolic_link_to_a_directory = simp evaluate refl

readdir_of_a_symbolic_link_to_a_directory :
    (serial (beside (directory 1 3 []) (symbolic_link a)) (Ask (Readdir (h 3) 0 (replicate 8 0) 512) nobody) (at 2) false).reply
    ≡ fails NotDirectory 1
readdir_of_a_symbolic_link_to_a_directory = simp evaluate refl

-- `a` is no file, so that this one isn't made there
creation_over_a_symbolic_link :
    (serial (with_file (symbolic_link x)) (Ask (Create root a (Unchecked no_attributes)) nobody) (at 2) false).reply
    ≡ fails Exists 2
creation_over_a_symbolic_link = simp evaluate refl

-- ---- MNT: `/vol0/b` and `/vol0/b/d` (appendix I, section 5.2.1)

mnt_of_a_symbolic_link_to_a_directory :
    (serial (beside (directory 1 3 []) (symbolic_link a))
    (Ask (MountBelow root (0x2f ∷ 0x76 ∷ 0x6f ∷ 0x6c ∷ 0x30 ∷ 0x2f ∷ 0x62 ∷ [])) nobody) (at 2) false).reply
    ≡ fails NotDirectory 0
mnt_of_a_symbolic_link_to_a_directory = simp evaluate refl

mnt_below_a_symbolic_link_to_a_directory :
    (serial (beside (directory 1 3 []) (symbolic_link a))
    (Ask (MountBelow root (0x2f ∷ 0x76 ∷ 0x6f ∷ 0x6c ∷ 0x30 ∷ 0x2f ∷ 0x62 ∷ 0x2f ∷ 0x64 ∷ [])) nobody) (at 2) false).reply
    ≡ fails NotDirectory 0
mnt_below_a_symbolic_link_to_a_directory = simp evaluate refl
