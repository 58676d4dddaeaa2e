-- MKNOD, and what other procedures say of FIFOs, sockets and devices (RFC 1813 sections 3.3.2 to 3.3.4, 3.3.6 to 3.3.9, 3.3.11 to 3.3.14,
-- 3.3.16 to 3.3.18, 3.3.21 and 2.6; POSIX, mknod and mkfifo).
use Rattle.std.proofs.Common.{◌≡◌, true, false, [], ◌∷◌, replicate, Some, None, refl}
use Rattle.nfs_model.specs.Types.{SymbolicLink, Fifo, Socket, BlockDevice, CharacterDevice, Regular, DirectoryKind, SpecialKind}
use Rattle.nfs_model.specs.Types.{ServerTime, ClientTime, Unchecked, Guarded, Exclusive, Getattr, Setattr, Lookup, CheckAccess, Read}
use Rattle.nfs_model.specs.Types.{Create, Mkdir, Mknod, Remove, Rmdir, Rename, Link, Readdir, Readdirplus, Fsstat, Commit, Ask, Success, GetattrDone}
use Rattle.nfs_model.specs.Types.{SetattrDone, AccessDone, MadeDone, GoneDone, RenameDone, LinkDone, ReaddirplusDone, FsstatDone, LookupDone}
use Rattle.nfs_model.specs.Types.{NoEntry, Access, Exists, NotDirectory, Invalid, NoSpace, NameTooLong, Stale, BadHandle, NotSynchronous, BadType}
use Rattle.nfs_model.specs.Server.{handle_bytes}
use Rattle.nfs_model.specs.Serial.Create.{no_attributes}
use Rattle.nfs_model.specs.Serial.Step.{serial}
use Rattle.nfs_laws.specs.lemmas.Evaluate.{evaluate}
use Rattle.nfs_laws.proofs.rows.Cases.{start, at, nobody, h, root, fails, a, b, x, entry, write_at, no_blocks, file, with_file, with_tree, root_shown}
use Rattle.nfs_laws.proofs.rows.Cases.{directory_shown, before, changed}
use Rattle.nfs_laws.proofs.rows.Linked.{disk, terminal, with_bad_time, special_node, special_file, without_inodes, with_inodes, special_shown}

-- ---- MKNOD: checks in order

mknod_below_a_bad_handle :
    (serial start (Ask (Mknod (replicate 11 0) a Regular no_attributes) nobody) (at 1) false).reply
    ≡ fails BadHandle 2
mknod_below_a_bad_handle = refl

mknod_in_an_absent_directory :
    (serial start (Ask (Mknod (h 2) (replicate 256 97) Regular no_attributes) nobody) (at 1) false).reply
    ≡ fails Stale 2
mknod_in_an_absent_directory = simp evaluate refl

mknod_in_a_file :
    (serial (with_file (file [] no_blocks)) (Ask (Mknod (h 2) (replicate 256 97) Regular no_attributes) nobody) (at 1) false).reply
    ≡ fails NotDirectory 2
mknod_in_a_file = simp evaluate refl

mknod_in_a_fifo :
    (serial (with_file (special_file Fifo)) (Ask (Mknod (h 2) x (SpecialKind Fifo) no_attributes) nobody) (at 1) false).reply
    ≡ fails NotDirectory 2
mknod_in_a_fifo = simp evaluate refl

mknod_of_256_bytes :
    (serial start (Ask (Mknod root (replicate 256 47) Regular no_attributes) nobody) (at 1) false).reply
    ≡ fails NameTooLong 2
mknod_of_256_bytes = simp evaluate refl

mknod_of_no_bytes :
    (serial start (Ask (Mknod root [] Regular no_attributes) nobody) (at 1) false).reply
    ≡ fails Access 2
mknod_of_no_bytes = simp evaluate refl

mknod_of_a_slash :
    (serial start (Ask (Mknod root (97 ∷ (47 ∷ [])) Regular no_attributes) nobody) (at 1) false).reply
    ≡ fails Access 2
mknod_of_a_slash = simp evaluate refl

mknod_of_a_zero_byte :
    (serial start (Ask (Mknod root (97 ∷ (0 ∷ [])) Regular no_attributes) nobody) (at 1) false).reply
    ≡ fails Access 2
mknod_of_a_zero_byte = simp evaluate refl

mknod_of_dot :
    (serial start (Ask (Mknod root (46 ∷ []) Regular no_attributes) nobody) (at 1) false).reply
    ≡ fails Exists 2
mknod_of_dot = simp evaluate refl

mknod_of_dot_dot :
    (serial start (Ask (Mknod root (46 ∷ (46 ∷ [])) (SpecialKind Fifo) with_bad_time) nobody) (at 1) false).reply
    ≡ fails Exists 2
mknod_of_dot_dot = simp evaluate refl

mknod_of_a_name_that_is_there :
    (serial (with_file (file [] no_blocks)) (Ask (Mknod root a DirectoryKind no_attributes) nobody) (at 2) false).reply
    ≡ fails Exists 2
mknod_of_a_name_that_is_there = simp evaluate refl

mknod_over_a_fifo :
    (serial (with_file (special_file Fifo)) (Ask (Mknod root a (SpecialKind Fifo) with_bad_time) nobody) (at 2) false).reply
    ≡ fails Exists 2
mknod_over_a_fifo = simp evaluate refl

mknod_of_a_regular_file :
    (serial without_inodes (Ask (Mknod root a Regular no_attributes) nobody) (at 2) false).reply
    ≡ fails BadType 2
mknod_of_a_regular_file = simp evaluate refl

mknod_of_a_directory :
    (serial start (Ask (Mknod root a DirectoryKind no_attributes) nobody) (at 2) false).reply
    ≡ fails BadType 2
mknod_of_a_directory = simp evaluate refl

mknod_of_a_symbolic_link :
    (serial without_inodes (Ask (Mknod root a (SpecialKind SymbolicLink) with_bad_time) nobody) (at 2) false).reply
    ≡ fails BadType 2
mknod_of_a_symbolic_link = simp evaluate refl

mknod_with_a_bad_time :
    (serial without_inodes (Ask (Mknod root a (SpecialKind Socket) with_bad_time) nobody) (at 2) false).reply
    ≡ fails Invalid 2
mknod_with_a_bad_time = simp evaluate refl

mknod_with_a_size :
    (serial without_inodes (Ask (Mknod root a (SpecialKind disk) (record no_attributes { size = Some 0 })) nobody) (at 2) false).reply
    ≡ fails Invalid 2
mknod_with_a_size = simp evaluate refl

mknod_without_inodes :
    (serial without_inodes (Ask (Mknod root a (SpecialKind Fifo) no_attributes) nobody) (at 2) false).reply
    ≡ fails NoSpace 2
mknod_without_inodes = simp evaluate refl

-- ---- MKNOD: what it makes

fifo_by_default :
    (serial start (Ask (Mknod root a (SpecialKind Fifo) no_attributes) nobody) (at 2) false).reply
    ≡ Success (MadeDone (h 2) (record (special_shown 2 Fifo 420 2) { atime = at 2; mtime = at 2 }) (changed (before 4096 0 0) (root_shown 2 2)))
fifo_by_default = simp evaluate refl

socket_by_default :
    (serial start (Ask (Mknod root a (SpecialKind Socket) no_attributes) nobody) (at 2) false).reply
    ≡ Success (MadeDone (h 2) (record (special_shown 2 Socket 420 2) { atime = at 2; mtime = at 2 }) (changed (before 4096 0 0) (root_shown 2 2)))
socket_by_default = simp evaluate refl

block_device_by_default :
    (serial start (Ask (Mknod root a (SpecialKind disk) no_attributes) nobody) (at 2) false).reply
    ≡ Success (MadeDone (h 2)
    (record (special_shown 2 (BlockDevice (record { major = 8; minor = 1 })) 420 2) { atime = at 2; mtime = at 2 })
    (changed (before 4096 0 0) (root_shown 2 2)))
block_device_by_default = simp evaluate refl

character_device_by_default :
    (serial start (Ask (Mknod root a (SpecialKind terminal) no_attributes) nobody) (at 2) false).reply
    ≡ Success (MadeDone (h 2)
    (record (special_shown 2 (CharacterDevice (record { major = 4; minor = 64 })) 420 2) { atime = at 2; mtime = at 2 })
    (changed (before 4096 0 0) (root_shown 2 2)))
character_device_by_default = simp evaluate refl

device_of_the_largest_numbers :
    (serial (serial start
    (Ask (Mknod root a (SpecialKind (CharacterDevice (record { major = 4294967295; minor = 4294967295 }))) no_attributes) nobody) (at 2) false).server
    (Ask (Getattr (h 2)) nobody) (at 3) false).reply
    ≡ Success (GetattrDone
    (record (special_shown 2 (CharacterDevice (record { major = 4294967295; minor = 4294967295 })) 420 2) { atime = at 2; mtime = at 2 }))
device_of_the_largest_numbers = simp evaluate refl

fifo_as_given :
    (serial start (Ask (Mknod root a (SpecialKind Fifo) (record no_attributes {
      mode = Some 65535;
      uid = Some 7;
      gid = Some 8;
      atime = ClientTime (at 5);
      mtime = ServerTime;
    })) nobody) (at 2) false).reply
    ≡ Success (MadeDone (h 2) (record (special_shown 2 Fifo 4095 2) { uid = 7; gid = 8; atime = at 5; mtime = at 2 })
    (changed (before 4096 0 0) (root_shown 2 2)))
fifo_as_given = simp evaluate refl

fifo_of_the_last_inode :
    (serial (with_inodes 3 (file [] no_blocks)) (Ask (Mknod root b (SpecialKind Fifo) no_attributes) nobody) (at 2) false).reply
    ≡ Success (MadeDone (h 3) (record (special_shown 3 Fifo 420 2) { atime = at 2; mtime = at 2 }) (changed (before 4096 1 1) (root_shown 2 2)))
fifo_of_the_last_inode = simp evaluate refl

fifo_below_a_directory :
    (serial with_tree (Ask (Mknod (h 2) a (SpecialKind Fifo) no_attributes) nobody) (at 2) false).reply
    ≡ Success (MadeDone (h 4) (record (special_shown 4 Fifo 420 2) { atime = at 2; mtime = at 2 })
    (changed (before 4096 1 1) (record (directory_shown 2 2 2) { atime = at 1 })))
fifo_below_a_directory = simp evaluate refl

-- ---- bytes: nothing is read, written or committed here

read_of_a_fifo :
    (serial (with_file (special_file Fifo)) (Ask (Read (h 2) 0 9) nobody) (at 2) false).reply
    ≡ fails Invalid 1
read_of_a_fifo = simp evaluate refl

read_of_a_socket :
    (serial (with_file (special_file Socket)) (Ask (Read (h 2) 0 0) nobody) (at 2) false).reply
    ≡ fails Invalid 1
read_of_a_socket = simp evaluate refl

read_of_a_device :
    (serial (with_file (special_file disk)) (Ask (Read (h 2) 0 9) nobody) (at 2) false).reply
    ≡ fails Invalid 1
read_of_a_device = simp evaluate refl

read_of_a_symbolic_link :
    (serial (with_file (special_node SymbolicLink 511 (98 ∷ []) 1)) (Ask (Read (h 2) 0 9) nobody) (at 2) false).reply
    ≡ fails Invalid 1
read_of_a_symbolic_link = simp evaluate refl

write_to_a_fifo :
    (serial (with_file (special_file Fifo)) (Ask (write_at 2 0 (5 ∷ [])) nobody) (at 2) false).reply
    ≡ fails Invalid 2
write_to_a_fifo = simp evaluate refl

write_of_nothing_to_a_device :
    (serial (with_file (special_file terminal)) (Ask (write_at 2 0 []) nobody) (at 2) false).reply
    ≡ fails Invalid 2
write_of_nothing_to_a_device = simp evaluate refl

write_to_a_symbolic_link :
    (serial (with_file (special_node SymbolicLink 511 (98 ∷ []) 1)) (Ask (write_at 2 0 (97 ∷ [])) nobody) (at 2) false).reply
    ≡ fails Invalid 2
write_to_a_symbolic_link = simp evaluate refl

commit_of_a_fifo :
    (serial (with_file (special_file Fifo)) (Ask (Commit (h 2)) nobody) (at 2) false).reply
    ≡ fails Invalid 2
commit_of_a_fifo = simp evaluate refl

commit_of_a_device :
    (serial (with_file (special_file disk)) (Ask (Commit (h 2)) nobody) (at 2) false).reply
    ≡ fails Invalid 2
commit_of_a_device = simp evaluate refl

-- ---- attributes

getattr_of_a_device :
    (serial (with_file (special_node disk 432 [] 3)) (Ask (Getattr (h 2)) nobody) (at 2) false).reply
    ≡ Success (GetattrDone (record (special_shown 2 (BlockDevice (record { major = 8; minor = 1 })) 432 1) { links = 3 }))
getattr_of_a_device = simp evaluate refl

size_of_a_fifo :
    (serial (with_file (special_file Fifo)) (Ask (Setattr (h 2) (record no_attributes { size = Some 0 }) None) nobody) (at 2) false).reply
    ≡ fails Invalid 2
size_of_a_fifo = simp evaluate refl

-- the largest size of a file is 16,777,216 bytes
largest_size_is_not_asked_of_a_device :
    (serial (with_file (special_file disk)) (Ask (Setattr (h 2) (record no_attributes { size = Some 16777217 }) None) nobody) (at 2) false).reply
    ≡ fails Invalid 2
largest_size_is_not_asked_of_a_device = simp evaluate refl

bad_time_of_a_fifo :
    (serial (with_file (special_file Fifo)) (Ask (Setattr (h 2) with_bad_time None) nobody) (at 2) false).reply
    ≡ fails Invalid 2
bad_time_of_a_fifo = simp evaluate refl

guard_of_a_fifo_comes_before_a_size :
    (serial (with_file (special_file Fifo)) (Ask (Setattr (h 2) (record no_attributes { size = Some 0 }) (Some (at 2))) nobody) (at 2) false).reply
    ≡ fails NotSynchronous 2
guard_of_a_fifo_comes_before_a_size = simp evaluate refl

mode_of_a_fifo :
    (serial (with_file (special_file Fifo)) (Ask (Setattr (h 2) (record no_attributes { mode = Some 65535 }) (Some (at 1))) nobody) (at 2) false).reply
    ≡ Success (SetattrDone (changed (before 0 1 1) (special_shown 2 Fifo 4095 2)))
mode_of_a_fifo = simp evaluate refl

owner_and_times_of_a_device :
    (serial (with_file (special_file disk)) (Ask
    (Setattr (h 2) (record no_attributes { uid = Some 7; gid = Some 8; atime = ServerTime; mtime = ClientTime (at 6) }) None) nobody)
    (at 2) false).reply
    ≡ Success (SetattrDone (changed (before 0 1 1) (record (special_shown 2 disk 420 2) { uid = 7; gid = 8; atime = at 2; mtime = at 6 })))
owner_and_times_of_a_device = simp evaluate refl

-- READ 1, MODIFY 4 and EXTEND 8, of its owner
access_of_a_device :
    (serial (with_file (special_node disk 384 [] 1)) (Ask (CheckAccess (h 2) 63) nobody) (at 2) false).reply
    ≡ Success (AccessDone (special_shown 2 disk 384 1) 13)
access_of_a_device = simp evaluate refl

-- READ and EXECUTE 32 alone, and of those READ is asked for
access_of_a_fifo_that_is_not_written :
    (serial (with_file (special_node Fifo 320 [] 1)) (Ask (CheckAccess (h 2) 31) nobody) (at 2) false).reply
    ≡ Success (AccessDone (special_shown 2 Fifo 320 1) 1)
access_of_a_fifo_that_is_not_written = simp evaluate refl

-- READ, MODIFY, EXTEND and EXECUTE, and neither LOOKUP nor DELETE
access_of_a_socket_with_all :
    (serial (with_file (special_node Socket 511 [] 1)) (Ask (CheckAccess (h 2) 63) nobody) (at 2) false).reply
    ≡ Success (AccessDone (special_shown 2 Socket 511 1) 45)
access_of_a_socket_with_all = simp evaluate refl

-- ---- names

lookup_of_a_fifo :
    (serial (with_file (special_file Fifo)) (Ask (Lookup root a) nobody) (at 2) false).reply
    ≡ Success (LookupDone (h 2) (special_shown 2 Fifo 420 1) (root_shown 2 1))
lookup_of_a_fifo = simp evaluate refl

lookup_in_a_fifo :
    (serial (with_file (special_file Fifo)) (Ask (Lookup (h 2) (replicate 256 97)) nobody) (at 2) false).reply
    ≡ fails NotDirectory 1
lookup_in_a_fifo = simp evaluate refl

lookup_of_the_parent_of_a_device :
    (serial (with_file (special_file disk)) (Ask (Lookup (h 2) (46 ∷ (46 ∷ []))) nobody) (at 2) false).reply
    ≡ fails NotDirectory 1
lookup_of_the_parent_of_a_device = simp evaluate refl

creation_in_a_socket :
    (serial (with_file (special_file Socket)) (Ask (Create (h 2) x (Unchecked no_attributes)) nobody) (at 2) false).reply
    ≡ fails NotDirectory 2
creation_in_a_socket = simp evaluate refl

removal_in_a_device :
    (serial (with_file (special_file disk)) (Ask (Remove (h 2) x) nobody) (at 2) false).reply
    ≡ fails NotDirectory 2
removal_in_a_device = simp evaluate refl

readdir_of_a_fifo :
    (serial (with_file (special_file Fifo)) (Ask (Readdir (h 2) 0 (replicate 8 0) 512) nobody) (at 2) false).reply
    ≡ fails NotDirectory 1
readdir_of_a_fifo = simp evaluate refl

readdirplus_of_a_device :
    (serial (with_file (special_file terminal)) (Ask (Readdirplus (h 2) 0 (replicate 8 0) 512 4096) nobody) (at 2) false).reply
    ≡ fails NotDirectory 1
readdirplus_of_a_device = simp evaluate refl

unchecked_creation_over_a_fifo :
    (serial (with_file (special_file Fifo)) (Ask (Create root a (Unchecked no_attributes)) nobody) (at 2) false).reply
    ≡ fails Exists 2
unchecked_creation_over_a_fifo = simp evaluate refl

guarded_creation_over_a_socket :
    (serial (with_file (special_file Socket)) (Ask (Create root a (Guarded no_attributes)) nobody) (at 2) false).reply
    ≡ fails Exists 2
guarded_creation_over_a_socket = simp evaluate refl

exclusive_creation_over_a_device :
    (serial (with_file (special_file disk)) (Ask (Create root a (Exclusive (replicate 8 0))) nobody) (at 2) false).reply
    ≡ fails Exists 2
exclusive_creation_over_a_device = simp evaluate refl

mkdir_over_a_fifo :
    (serial (with_file (special_file Fifo)) (Ask (Mkdir root a no_attributes) nobody) (at 2) false).reply
    ≡ fails Exists 2
mkdir_over_a_fifo = simp evaluate refl

rmdir_of_a_fifo :
    (serial (with_file (special_file Fifo)) (Ask (Rmdir root a) nobody) (at 2) false).reply
    ≡ fails NotDirectory 2
rmdir_of_a_fifo = simp evaluate refl

rmdir_in_a_fifo :
    (serial (with_file (special_file Fifo)) (Ask (Rmdir (h 2) x) nobody) (at 2) false).reply
    ≡ fails NotDirectory 2
rmdir_in_a_fifo = simp evaluate refl

removed_fifo :
    (serial (with_file (special_file Fifo)) (Ask (Remove root a) nobody) (at 2) false).reply
    ≡ Success (GoneDone (changed (before 4096 1 1) (root_shown 2 2)))
removed_fifo = simp evaluate refl

removed_fifo_is_stale :
    (serial (serial (with_file (special_file Fifo)) (Ask (Remove root a) nobody) (at 2) false).server (Ask (Getattr (h 2)) nobody) (at 3) false).reply
    ≡ fails Stale 0
removed_fifo_is_stale = simp evaluate refl

removed_name_of_a_fifo_is_gone :
    (serial (serial (with_file (special_file Fifo)) (Ask (Remove root a) nobody) (at 2) false).server (Ask (Lookup root a) nobody) (at 3) false).reply
    ≡ fails NoEntry 1
removed_name_of_a_fifo_is_gone = simp evaluate refl

renamed_device :
    (serial (with_file (special_file disk)) (Ask (Rename root a root b) nobody) (at 2) false).reply
    ≡ Success (RenameDone (changed (before 4096 1 1) (root_shown 2 2)) (changed (before 4096 1 1) (root_shown 2 2)))
renamed_device = simp evaluate refl

renamed_device_is_there :
    (serial (serial (with_file (special_file disk)) (Ask (Rename root a root b) nobody) (at 2) false).server (Ask (Lookup root b) nobody) (at 3) false).reply
    ≡ Success (LookupDone (h 2) (special_shown 2 disk 420 2) (root_shown 2 2))
renamed_device_is_there = simp evaluate refl

-- ---- listings and space

readdirplus_shows_kind_and_names :
    (serial (with_file (special_node terminal 432 [] 2)) (Ask (Readdirplus root 2 (replicate 8 0) 512 4096) nobody) (at 2) false).reply
    ≡ Success (ReaddirplusDone (root_shown 2 1)
    (record {
      entry = entry 3 a 2;
      attributes = Some (record (special_shown 2 (CharacterDevice (record { major = 4; minor = 64 })) 432 1) { links = 2 });
      handle = Some (h 2);
    } ∷ []) true)
readdirplus_shows_kind_and_names = simp evaluate refl

-- 1,024 blocks of 4,096 bytes, all free; 65,536 inodes but for the root and the device
device_takes_an_inode_and_no_block :
    (serial (with_file (special_file disk)) (Ask (Fsstat (h 2)) nobody) (at 2) false).reply
    ≡ Success (FsstatDone (special_shown 2 disk 420 1) (record { total_bytes = 4194304; free_bytes = 4194304; inodes = 65536; free_inodes = 65534 }))
device_takes_an_inode_and_no_block = simp evaluate refl

symbolic_link_takes_an_inode_and_no_block :
    (serial (with_file (special_node SymbolicLink 511 (98 ∷ []) 1)) (Ask (Fsstat root) nobody) (at 2) false).reply
    ≡ Success (FsstatDone (root_shown 2 1) (record { total_bytes = 4194304; free_bytes = 4194304; inodes = 65536; free_inodes = 65534 }))
symbolic_link_takes_an_inode_and_no_block = simp evaluate refl

inode_of_a_removed_device_is_free :
    (serial (serial (with_file (special_file disk)) (Ask (Remove root a) nobody) (at 2) false).server (Ask (Fsstat root) nobody) (at 3) false).reply
    ≡ Success (FsstatDone (root_shown 2 2) (record { total_bytes = 4194304; free_bytes = 4194304; inodes = 65536; free_inodes = 65535 }))
inode_of_a_removed_device_is_free = simp evaluate refl

-- ---- another volume

fifo_of_another_volume :
    (serial start (Ask (Mknod (handle_bytes 1 1) a (SpecialKind Fifo) no_attributes) nobody) (at 2) false).reply
    ≡ Success (MadeDone (handle_bytes 1 2) (record (special_shown 2 Fifo 420 2) { fsid = 1; atime = at 2; mtime = at 2 })
    (changed (before 4096 0 0) (record (root_shown 2 2) { fsid = 1 })))
fifo_of_another_volume = simp evaluate refl

link_of_another_volume :
    (serial (serial start (Ask (Mknod (handle_bytes 1 1) a (SpecialKind Fifo) no_attributes) nobody) (at 2) false).server
    (Ask (Link (handle_bytes 1 2) (handle_bytes 1 1) b) nobody) (at 3) false).reply
    ≡ Success (LinkDone (record (special_shown 2 Fifo 420 3) { fsid = 1; links = 2; atime = at 2; mtime = at 2 })
    (changed (before 4096 2 2) (record (root_shown 2 3) { fsid = 1 })))
link_of_another_volume = simp evaluate refl
