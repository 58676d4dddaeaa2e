-- READLINK, SYMLINK, MKNOD and LINK, and what has several names, by the owner, the groups and the mode (RFC 1813 sections 2.5, 3.3.2
-- to 3.3.8, 3.3.10 to 3.3.12, 3.3.14 to 3.3.16 and 3.3.21; POSIX, bind, link, mknod, symlink, unlink and S_ISVTX).
use Rattle.std.proofs.Common.{◌≡◌, ℕ, false, List, [], ◌∷◌, replicate, Some, None, refl}
use Rattle.nfs_model.specs.Types.{Shown, SpecialType, SymbolicLink, Fifo, Socket, Regular, SpecialKind, ServerTime, Unchecked, Setattr, Lookup, CheckAccess}
use Rattle.nfs_model.specs.Types.{Readlink, Read, Create, Symlink, Mknod, Remove, Rename, Link, Readdir, Commit, Ask, Success, SetattrDone}
use Rattle.nfs_model.specs.Types.{AccessDone, ReadlinkDone, MadeDone, GoneDone, RenameDone, LinkDone, NotPermitted, Access, Exists, NotDirectory}
use Rattle.nfs_model.specs.Types.{Invalid, ReadOnly, NameTooLong, Stale, BadHandle, BadType}
use Rattle.nfs_model.specs.Server.{Node, File, Special, Server}
use Rattle.nfs_model.specs.Serial.Create.{no_attributes}
use Rattle.nfs_model.specs.Serial.Step.{stay, serial}
use Rattle.nfs_laws.specs.lemmas.Evaluate.{evaluate}
use Rattle.nfs_laws.proofs.rows.Cases.{at, h, root, fails, a, b, d, e, f, write_at, entry, block_0, root_with, holding, file_shown}
use Rattle.nfs_laws.proofs.rows.Cases.{before, changed}
use Rattle.nfs_laws.proofs.rows.Checked.{octal, user, owner, member, further, other, uid_0, free, reader, owned, owned_file, owned_directory, tree_of}
use Rattle.nfs_laws.proofs.rows.Checked.{pair_of, shown_of, directory_changed, directory_kept}
use Rattle.nfs_laws.proofs.rows.Linked.{disk, terminal, with_bad_time, special_shown, symbolic_link_shown}

-- ---- states

-- a special node of this mode and owner, of the group 70
abbrev owned_special : SpecialType → ℕ → ℕ → List ℕ → Node
owned_special special mode uid text =
    Special (record { attributes = owned mode uid 70; special = special; text = text; links = 1 })

-- the owner's directory `d`, of fileid 2 and this mode, in which `f` and `a` are names of a file of this user, of fileid 3
abbrev twice_in : ℕ → ℕ → Server
twice_in mode uid =
    holding 4 ((1, root_with 4 (entry 3 d 2 ∷ [])) ∷ ((2, owned_directory mode 7 70 5 (entry 3 f 3 ∷ (entry 4 a 3 ∷ [])))
    ∷ ((
      3,
      File (record {
        attributes = owned (octal 0 6 4 4) uid 70;
        bytes = 5 ∷ [];
        filled = block_0;
        touch = None;
        verifier = None;
        links = 2;
      }),
    ) ∷ [])))

-- the same directory, in which `f`, of fileid 3, is a special node
abbrev special_in : ℕ → Node → Server
special_in mode node =
    holding 4 ((1, root_with 4 (entry 3 d 2 ∷ [])) ∷ ((2, owned_directory mode 7 70 4 (entry 3 f 3 ∷ [])) ∷ ((3, node) ∷ [])))

-- ---- what is shown

-- what a user makes at 2 seconds
abbrev made_by : ℕ → ℕ → Shown → Shown
made_by uid gid shown = record shown { uid = uid; gid = gid; atime = at 2; mtime = at 2 }

-- the file `f` of the user 8, with two names since 2 seconds
abbrev f_linked : Shown
f_linked = record (shown_of (file_shown 3 1 4096 1 2) (octal 0 6 4 4) 8 70) { links = 2 }

-- ---- SYMLINK: by w and x of the directory

member_makes_a_symbolic_link_by_its_w_and_x :
    (serial (tree_of (octal 0 0 3 0) 8) (Ask (Symlink (h 2) a no_attributes b) member) (at 2) false).reply
    ≡ Success (MadeDone (h 4) (made_by 8 70 (symbolic_link_shown 4 1 2)) (directory_changed 2 (octal 0 0 3 0) 2))
member_makes_a_symbolic_link_by_its_w_and_x = simp evaluate refl

member_without_w_makes_no_symbolic_link :
    (serial (tree_of (octal 0 7 5 7) 8) (Ask (Symlink (h 2) a no_attributes b) member) (at 2) false).reply
    ≡ fails Access 2
member_without_w_makes_no_symbolic_link = simp evaluate refl

member_without_x_makes_no_symbolic_link :
    (serial (tree_of (octal 0 7 6 7) 8) (Ask (Symlink (h 2) a no_attributes b) member) (at 2) false).reply
    ≡ fails Access 2
member_without_x_makes_no_symbolic_link = simp evaluate refl

owner_without_w_makes_no_symbolic_link :
    (serial (tree_of (octal 0 5 7 7) 8) (Ask (Symlink (h 2) a no_attributes b) owner) (at 2) false).reply
    ≡ fails Access 2
owner_without_w_makes_no_symbolic_link = simp evaluate refl

uid_0_makes_a_symbolic_link_whatever_the_mode :
    (serial (tree_of (octal 0 0 0 0) 8) (Ask (Symlink (h 2) a no_attributes b) uid_0) (at 2) false).reply
    ≡ Success (MadeDone (h 4) (made_by 0 0 (symbolic_link_shown 4 1 2)) (directory_changed 2 (octal 0 0 0 0) 2))
uid_0_makes_a_symbolic_link_whatever_the_mode = simp evaluate refl

unchecked_stranger_makes_a_symbolic_link :
    (serial (tree_of (octal 0 0 0 0) 8) (Ask (Symlink (h 2) a no_attributes b) (free other)) (at 2) false).reply
    ≡ Success (MadeDone (h 4) (made_by 9 90 (symbolic_link_shown 4 1 2)) (directory_changed 2 (octal 0 0 0 0) 2))
unchecked_stranger_makes_a_symbolic_link = simp evaluate refl

symlink_over_a_name_needs_x_alone :
    (serial (tree_of (octal 0 7 7 1) 8) (Ask (Symlink (h 2) f no_attributes b) other) (at 2) false).reply
    ≡ fails Exists 2
symlink_over_a_name_needs_x_alone = simp evaluate refl

symlink_over_a_name_needs_x :
    (serial (tree_of (octal 0 7 7 6) 8) (Ask (Symlink (h 2) f no_attributes b) other) (at 2) false).reply
    ≡ fails Access 2
symlink_over_a_name_needs_x = simp evaluate refl

-- as its maker's, whatever is given, and of the directory's group
symbolic_link_in_a_directory_with_02000 :
    (serial (tree_of (octal 2 0 0 3) 8) (Ask (Symlink (h 2) a (record no_attributes { uid = Some 8 }) b) other) (at 2) false).reply
    ≡ Success (MadeDone (h 4) (made_by 9 70 (symbolic_link_shown 4 1 2)) (directory_changed 2 (octal 2 0 0 3) 2))
symbolic_link_in_a_directory_with_02000 = simp evaluate refl

-- ---- READLINK: needs no right

stranger_reads_a_symbolic_link_of_mode_0 :
    (serial (special_in (octal 0 0 0 0) (owned_special SymbolicLink (octal 0 0 0 0) 7 b)) (Ask (Readlink (h 3)) other) (at 2) false).reply
    ≡ Success (ReadlinkDone (shown_of (symbolic_link_shown 3 1 1) (octal 0 0 0 0) 7 70) b)
stranger_reads_a_symbolic_link_of_mode_0 = simp evaluate refl

reader_reads_a_symbolic_link :
    (serial (special_in (octal 0 0 0 0) (owned_special SymbolicLink (octal 0 0 0 0) 7 b)) (Ask (Readlink (h 3)) (reader other)) (at 2) false).reply
    ≡ Success (ReadlinkDone (shown_of (symbolic_link_shown 3 1 1) (octal 0 0 0 0) 7 70) b)
reader_reads_a_symbolic_link = simp evaluate refl

stranger_reads_no_text_of_a_fifo :
    (serial (special_in (octal 0 0 0 0) (owned_special Fifo (octal 0 0 0 0) 7 [])) (Ask (Readlink (h 3)) other) (at 2) false).reply
    ≡ fails Invalid 1
stranger_reads_no_text_of_a_fifo = simp evaluate refl

-- ---- MKNOD: by w and x of the directory, of devices by uid 0

member_makes_a_fifo_by_its_w_and_x :
    (serial (tree_of (octal 0 0 3 0) 8) (Ask (Mknod (h 2) a (SpecialKind Fifo) no_attributes) member) (at 2) false).reply
    ≡ Success (MadeDone (h 4) (made_by 8 70 (special_shown 4 Fifo 420 2)) (directory_changed 2 (octal 0 0 3 0) 2))
member_makes_a_fifo_by_its_w_and_x = simp evaluate refl

member_without_w_makes_no_fifo :
    (serial (tree_of (octal 0 7 5 7) 8) (Ask (Mknod (h 2) a (SpecialKind Fifo) no_attributes) member) (at 2) false).reply
    ≡ fails Access 2
member_without_w_makes_no_fifo = simp evaluate refl

member_without_x_makes_no_fifo :
    (serial (tree_of (octal 0 7 6 7) 8) (Ask (Mknod (h 2) a (SpecialKind Fifo) no_attributes) member) (at 2) false).reply
    ≡ fails Access 2
member_without_x_makes_no_fifo = simp evaluate refl

others_make_a_socket_by_their_w_and_x :
    (serial (tree_of (octal 0 0 0 3) 8) (Ask (Mknod (h 2) a (SpecialKind Socket) no_attributes) other) (at 2) false).reply
    ≡ Success (MadeDone (h 4) (made_by 9 90 (special_shown 4 Socket 420 2)) (directory_changed 2 (octal 0 0 0 3) 2))
others_make_a_socket_by_their_w_and_x = simp evaluate refl

uid_0_makes_a_block_device :
    (serial (tree_of (octal 0 0 0 0) 8) (Ask (Mknod (h 2) a (SpecialKind disk) no_attributes) uid_0) (at 2) false).reply
    ≡ Success (MadeDone (h 4) (made_by 0 0 (special_shown 4 disk 420 2)) (directory_changed 2 (octal 0 0 0 0) 2))
uid_0_makes_a_block_device = simp evaluate refl

owner_makes_no_block_device :
    (serial (tree_of (octal 0 7 7 7) 8) (Ask (Mknod (h 2) a (SpecialKind disk) no_attributes) owner) (at 2) false).reply
    ≡ fails NotPermitted 2
owner_makes_no_block_device = simp evaluate refl

uid_0_makes_a_character_device :
    (serial (tree_of (octal 0 0 0 0) 8) (Ask (Mknod (h 2) a (SpecialKind terminal) no_attributes) uid_0) (at 2) false).reply
    ≡ Success (MadeDone (h 4) (made_by 0 0 (special_shown 4 terminal 420 2)) (directory_changed 2 (octal 0 0 0 0) 2))
uid_0_makes_a_character_device = simp evaluate refl

others_make_no_character_device :
    (serial (tree_of (octal 0 7 7 7) 8) (Ask (Mknod (h 2) a (SpecialKind terminal) no_attributes) other) (at 2) false).reply
    ≡ fails NotPermitted 2
others_make_no_character_device = simp evaluate refl

acces_comes_before_perm_of_a_device :
    (serial (tree_of (octal 0 5 7 7) 8) (Ask (Mknod (h 2) a (SpecialKind disk) no_attributes) owner) (at 2) false).reply
    ≡ fails Access 2
acces_comes_before_perm_of_a_device = simp evaluate refl

perm_comes_before_a_bad_time_of_a_device :
    (serial (tree_of (octal 0 7 7 7) 8) (Ask (Mknod (h 2) a (SpecialKind disk) with_bad_time) owner) (at 2) false).reply
    ≡ fails NotPermitted 2
perm_comes_before_a_bad_time_of_a_device = simp evaluate refl

device_over_a_name_exists :
    (serial (tree_of (octal 0 7 7 1) 8) (Ask (Mknod (h 2) f (SpecialKind disk) no_attributes) other) (at 2) false).reply
    ≡ fails Exists 2
device_over_a_name_exists = simp evaluate refl

device_of_a_long_name :
    (serial (tree_of (octal 0 7 7 7) 8) (Ask (Mknod (h 2) (replicate 256 97) (SpecialKind disk) no_attributes) other) (at 2) false).reply
    ≡ fails NameTooLong 2
device_of_a_long_name = simp evaluate refl

unchecked_stranger_makes_a_device :
    (serial (tree_of (octal 0 0 0 0) 8) (Ask (Mknod (h 2) a (SpecialKind disk) no_attributes) (free other)) (at 2) false).reply
    ≡ Success (MadeDone (h 4) (made_by 9 90 (special_shown 4 disk 420 2)) (directory_changed 2 (octal 0 0 0 0) 2))
unchecked_stranger_makes_a_device = simp evaluate refl

others_make_no_regular_node :
    (serial (tree_of (octal 0 0 0 3) 8) (Ask (Mknod (h 2) a Regular no_attributes) other) (at 2) false).reply
    ≡ fails BadType 2
others_make_no_regular_node = simp evaluate refl

-- it isn't one of the group that it comes to have
others_give_a_fifo_no_02000 :
    (serial (tree_of (octal 2 0 0 3) 8)
    (Ask (Mknod (h 2) a (SpecialKind Fifo) (record no_attributes { mode = Some (octal 2 6 4 4) })) other) (at 2) false).reply
    ≡ Success (MadeDone (h 4) (made_by 9 70 (special_shown 4 Fifo (octal 0 6 4 4) 2)) (directory_changed 2 (octal 2 0 0 3) 2))
others_give_a_fifo_no_02000 = simp evaluate refl

members_give_a_fifo_02000 :
    (serial (tree_of (octal 2 0 3 0) 8)
    (Ask (Mknod (h 2) a (SpecialKind Fifo) (record no_attributes { mode = Some (octal 2 6 4 4) })) member) (at 2) false).reply
    ≡ Success (MadeDone (h 4) (made_by 8 70 (special_shown 4 Fifo (octal 2 6 4 4) 2)) (directory_changed 2 (octal 2 0 3 0) 2))
members_give_a_fifo_02000 = simp evaluate refl

-- ---- SETATTR and ACCESS of a special node

owner_gives_a_fifo_a_mode :
    (serial (special_in (octal 0 7 0 0) (owned_special Fifo (octal 0 0 0 0) 7 []))
    (Ask (Setattr (h 3) (record no_attributes { mode = Some (octal 0 6 0 0) }) None) owner) (at 2) false).reply
    ≡ Success (SetattrDone (changed (before 0 1 1) (shown_of (special_shown 3 Fifo 0 2) (octal 0 6 0 0) 7 70)))
owner_gives_a_fifo_a_mode = simp evaluate refl

others_give_a_fifo_no_mode :
    (serial (special_in (octal 0 7 0 0) (owned_special Fifo (octal 0 7 7 7) 7 []))
    (Ask (Setattr (h 3) (record no_attributes { mode = Some (octal 0 6 0 0) }) None) other) (at 2) false).reply
    ≡ fails NotPermitted 2
others_give_a_fifo_no_mode = simp evaluate refl

others_give_a_device_times_of_the_server_by_their_w :
    (serial (special_in (octal 0 7 0 0) (owned_special disk (octal 0 0 0 2) 7 []))
    (Ask (Setattr (h 3) (record no_attributes { mtime = ServerTime }) None) other) (at 2) false).reply
    ≡ Success (SetattrDone (changed (before 0 1 1) (record (shown_of (special_shown 3 disk 0 2) (octal 0 0 0 2) 7 70) { mtime = at 2 })))
others_give_a_device_times_of_the_server_by_their_w = simp evaluate refl

others_without_w_give_a_device_no_times_of_the_server :
    (serial (special_in (octal 0 7 0 0) (owned_special disk (octal 0 7 7 5) 7 []))
    (Ask (Setattr (h 3) (record no_attributes { mtime = ServerTime }) None) other) (at 2) false).reply
    ≡ fails Access 2
others_without_w_give_a_device_no_times_of_the_server = simp evaluate refl

-- 04000 and 02000, of one who isn't uid 0
new_group_of_a_fifo_ends_both_bits :
    (serial (special_in (octal 0 7 0 0) (owned_special Fifo (octal 6 7 5 5) 7 []))
    (Ask (Setattr (h 3) (record no_attributes { gid = Some 71 }) None) (user 7 70 (71 ∷ []))) (at 2) false).reply
    ≡ Success (SetattrDone (changed (before 0 1 1) (shown_of (special_shown 3 Fifo 0 2) (octal 0 7 5 5) 7 71)))
new_group_of_a_fifo_ends_both_bits = simp evaluate refl

owner_of_another_group_gives_a_fifo_no_02000 :
    (serial (special_in (octal 0 7 0 0) (owned_special Fifo (octal 0 6 4 4) 7 []))
    (Ask (Setattr (h 3) (record no_attributes { mode = Some (octal 2 6 4 4) }) None) (user 7 71 [])) (at 2) false).reply
    ≡ Success (SetattrDone (changed (before 0 1 1) (shown_of (special_shown 3 Fifo 0 2) (octal 0 6 4 4) 7 70)))
owner_of_another_group_gives_a_fifo_no_02000 = simp evaluate refl

-- READ 1, MODIFY 4 and EXTEND 8
uid_0_does_not_execute_a_device_that_nobody_may :
    (serial (special_in (octal 0 7 0 0) (owned_special disk (octal 0 0 0 0) 7 [])) (Ask (CheckAccess (h 3) 63) uid_0) (at 2) false).reply
    ≡ Success (AccessDone (shown_of (special_shown 3 disk 0 1) (octal 0 0 0 0) 7 70) 13)
uid_0_does_not_execute_a_device_that_nobody_may = simp evaluate refl

-- and EXECUTE 32
uid_0_executes_a_device_that_somebody_may :
    (serial (special_in (octal 0 7 0 0) (owned_special disk (octal 0 0 1 0) 7 [])) (Ask (CheckAccess (h 3) 63) uid_0) (at 2) false).reply
    ≡ Success (AccessDone (shown_of (special_shown 3 disk 0 1) (octal 0 0 1 0) 7 70) 45)
uid_0_executes_a_device_that_somebody_may = simp evaluate refl

-- READ 1 alone
access_of_a_device_by_r :
    (serial (special_in (octal 0 7 0 0) (owned_special disk (octal 0 7 7 4) 7 [])) (Ask (CheckAccess (h 3) 63) other) (at 2) false).reply
    ≡ Success (AccessDone (shown_of (special_shown 3 disk 0 1) (octal 0 7 7 4) 7 70) 1)
access_of_a_device_by_r = simp evaluate refl

-- READ, MODIFY 4 and EXTEND 8: what is written to a device doesn't change the file system (POSIX, access: EROFS)
access_of_a_device_by_a_reader :
    (serial (special_in (octal 0 7 0 0) (owned_special disk (octal 0 0 0 6) 7 [])) (Ask (CheckAccess (h 3) 63) (reader other)) (at 2) false).reply
    ≡ Success (AccessDone (shown_of (special_shown 3 disk 0 1) (octal 0 0 0 6) 7 70) 13)
access_of_a_device_by_a_reader = simp evaluate refl

access_of_a_device_by_a_reader_without_w :
    (serial (special_in (octal 0 7 0 0) (owned_special terminal (octal 0 7 7 4) 7 [])) (Ask (CheckAccess (h 3) 63) (reader (free other))) (at 2) false).reply
    ≡ Success (AccessDone (shown_of (special_shown 3 terminal 0 1) (octal 0 7 7 4) 7 70) 1)
access_of_a_device_by_a_reader_without_w = simp evaluate refl

-- MODIFY and EXTEND
access_of_a_fifo_by_a_reader :
    (serial (special_in (octal 0 7 0 0) (owned_special Fifo (octal 0 0 0 2) 7 [])) (Ask (CheckAccess (h 3) 63) (reader (free other))) (at 2) false).reply
    ≡ Success (AccessDone (shown_of (special_shown 3 Fifo 0 1) (octal 0 0 0 2) 7 70) 12)
access_of_a_fifo_by_a_reader = simp evaluate refl

-- ---- no right is asked of what isn't there for a call

stranger_reads_no_bytes_of_a_fifo :
    (serial (special_in (octal 0 0 0 0) (owned_special Fifo (octal 0 0 0 0) 7 [])) (Ask (Read (h 3) 0 9) other) (at 2) false).reply
    ≡ fails Invalid 1
stranger_reads_no_bytes_of_a_fifo = simp evaluate refl

stranger_writes_no_bytes_to_a_device :
    (serial (special_in (octal 0 0 0 0) (owned_special disk (octal 0 0 0 0) 7 [])) (Ask (write_at 3 0 (6 ∷ [])) other) (at 2) false).reply
    ≡ fails Invalid 2
stranger_writes_no_bytes_to_a_device = simp evaluate refl

stranger_commits_no_device :
    (serial (special_in (octal 0 0 0 0) (owned_special disk (octal 0 0 0 0) 7 [])) (Ask (Commit (h 3)) other) (at 2) false).reply
    ≡ fails Invalid 2
stranger_commits_no_device = simp evaluate refl

stranger_looks_up_nothing_in_a_symbolic_link :
    (serial (special_in (octal 0 0 0 0) (owned_special SymbolicLink (octal 0 0 0 0) 7 b)) (Ask (Lookup (h 3) a) other) (at 2) false).reply
    ≡ fails NotDirectory 1
stranger_looks_up_nothing_in_a_symbolic_link = simp evaluate refl

stranger_lists_no_socket :
    (serial (special_in (octal 0 0 0 0) (owned_special Socket (octal 0 0 0 0) 7 [])) (Ask (Readdir (h 3) 0 (replicate 8 0) 512) other) (at 2) false).reply
    ≡ fails NotDirectory 1
stranger_lists_no_socket = simp evaluate refl

stranger_makes_nothing_in_a_fifo :
    (serial (special_in (octal 0 0 0 0) (owned_special Fifo (octal 0 0 0 0) 7 [])) (Ask (Symlink (h 3) a no_attributes b) other) (at 2) false).reply
    ≡ fails NotDirectory 2
stranger_makes_nothing_in_a_fifo = simp evaluate refl

-- of a file that is there it would need w
creation_over_a_fifo_needs_x_alone :
    (serial (special_in (octal 0 7 7 1) (owned_special Fifo (octal 0 0 0 0) 7 []))
    (Ask (Create (h 2) f (Unchecked (record no_attributes { size = Some 0 }))) other) (at 2) false).reply
    ≡ fails Exists 2
creation_over_a_fifo_needs_x_alone = simp evaluate refl

-- of a directory that comes into another it would need w
others_move_a_device_without_a_right_to_it :
    (serial (pair_of (octal 0 0 0 3) (octal 0 0 0 3) (owned_special disk (octal 0 0 0 0) 8 []) 8) (Ask (Rename (h 2) a (h 3) e) other) (at 2) false).reply
    ≡ Success (RenameDone (directory_changed 2 (octal 0 0 0 3) 2) (directory_changed 3 (octal 0 0 0 3) 2))
others_move_a_device_without_a_right_to_it = simp evaluate refl

-- ---- LINK: by w and x of the directory, whoever's the object is

member_links_by_its_w_and_x :
    (serial (tree_of (octal 0 0 3 0) 8) (Ask (Link (h 3) (h 2) a) member) (at 2) false).reply
    ≡ Success (LinkDone f_linked (directory_changed 2 (octal 0 0 3 0) 2))
member_links_by_its_w_and_x = simp evaluate refl

member_without_w_does_not_link :
    (serial (tree_of (octal 0 7 5 7) 8) (Ask (Link (h 3) (h 2) a) member) (at 2) false).reply
    ≡ fails Access 3
member_without_w_does_not_link = simp evaluate refl

member_without_x_does_not_link :
    (serial (tree_of (octal 0 7 6 7) 8) (Ask (Link (h 3) (h 2) a) member) (at 2) false).reply
    ≡ fails Access 3
member_without_x_does_not_link = simp evaluate refl

further_group_links_by_its_w_and_x :
    (serial (tree_of (octal 0 0 3 0) 8) (Ask (Link (h 3) (h 2) a) further) (at 2) false).reply
    ≡ Success (LinkDone f_linked (directory_changed 2 (octal 0 0 3 0) 2))
further_group_links_by_its_w_and_x = simp evaluate refl

uid_0_links_whatever_the_mode :
    (serial (tree_of (octal 0 0 0 0) 8) (Ask (Link (h 3) (h 2) a) uid_0) (at 2) false).reply
    ≡ Success (LinkDone f_linked (directory_changed 2 (octal 0 0 0 0) 2))
uid_0_links_whatever_the_mode = simp evaluate refl

unchecked_stranger_links :
    (serial (tree_of (octal 0 0 0 0) 8) (Ask (Link (h 3) (h 2) a) (free other)) (at 2) false).reply
    ≡ Success (LinkDone f_linked (directory_changed 2 (octal 0 0 0 0) 2))
unchecked_stranger_links = simp evaluate refl

-- out of a directory that it may not search, which it doesn't need with a handle
others_link_a_file_that_they_may_not_read :
    (serial (pair_of (octal 0 7 0 0) (octal 0 0 0 3) (owned_file (octal 0 6 0 0) 7 70) 8) (Ask (Link (h 4) (h 3) e) other) (at 2) false).reply
    ≡ Success (LinkDone (record (shown_of (file_shown 4 1 4096 1 2) (octal 0 6 0 0) 7 70) { links = 2 }) (directory_changed 3 (octal 0 0 0 3) 2))
others_link_a_file_that_they_may_not_read = simp evaluate refl

link_over_a_name_needs_x_alone :
    (serial (tree_of (octal 0 7 7 1) 8) (Ask (Link (h 3) (h 2) f) other) (at 2) false).reply
    ≡ fails Exists 3
link_over_a_name_needs_x_alone = simp evaluate refl

link_over_a_name_needs_x :
    (serial (tree_of (octal 0 7 7 6) 8) (Ask (Link (h 3) (h 2) f) other) (at 2) false).reply
    ≡ fails Access 3
link_over_a_name_needs_x = simp evaluate refl

link_of_an_absent_node_by_a_stranger :
    (serial (tree_of (octal 0 0 0 0) 8) (Ask (Link (h 9) (h 2) a) other) (at 2) false).reply
    ≡ fails Stale 3
link_of_an_absent_node_by_a_stranger = simp evaluate refl

link_in_an_absent_directory_by_a_stranger :
    (serial (tree_of (octal 0 0 0 0) 8) (Ask (Link (h 3) (h 9) a) other) (at 2) false).reply
    ≡ fails Stale 3
link_in_an_absent_directory_by_a_stranger = simp evaluate refl

link_in_a_file_by_a_stranger :
    (serial (tree_of (octal 0 0 0 0) 8) (Ask (Link (h 3) (h 3) a) other) (at 2) false).reply
    ≡ fails NotDirectory 3
link_in_a_file_by_a_stranger = simp evaluate refl

uid_0_links_no_directory :
    (serial (tree_of (octal 0 7 7 7) 8) (Ask (Link (h 2) root a) uid_0) (at 2) false).reply
    ≡ fails Invalid 3
uid_0_links_no_directory = simp evaluate refl

-- ---- names of one file in a sticky directory

others_remove_no_link_from_a_sticky_directory :
    (serial (twice_in (octal 1 7 7 7) 8) (Ask (Remove (h 2) a) other) (at 2) false).reply
    ≡ fails Access 2
others_remove_no_link_from_a_sticky_directory = simp evaluate refl

its_owner_removes_a_link_from_a_sticky_directory :
    (serial (twice_in (octal 1 7 7 7) 8) (Ask (Remove (h 2) a) member) (at 2) false).reply
    ≡ Success (GoneDone (directory_changed 2 (octal 1 7 7 7) 2))
its_owner_removes_a_link_from_a_sticky_directory = simp evaluate refl

owner_of_a_sticky_directory_removes_a_link :
    (serial (twice_in (octal 1 7 7 7) 8) (Ask (Remove (h 2) a) owner) (at 2) false).reply
    ≡ Success (GoneDone (directory_changed 2 (octal 1 7 7 7) 2))
owner_of_a_sticky_directory_removes_a_link = simp evaluate refl

others_remove_a_link_from_another_directory :
    (serial (twice_in (octal 0 7 7 7) 8) (Ask (Remove (h 2) a) other) (at 2) false).reply
    ≡ Success (GoneDone (directory_changed 2 (octal 0 7 7 7) 2))
others_remove_a_link_from_another_directory = simp evaluate refl

-- who links another's file into it doesn't take the name away again
link_that_its_maker_may_not_remove :
    (serial (serial (tree_of (octal 1 7 7 7) 8) (Ask (Link (h 3) (h 2) a) other) (at 2) false).server (Ask (Remove (h 2) a) other) (at 3) false).reply
    ≡ fails Access 2
link_that_its_maker_may_not_remove = simp evaluate refl

others_remove_no_symbolic_link_from_a_sticky_directory :
    (serial (special_in (octal 1 7 7 7) (owned_special SymbolicLink (octal 0 7 7 7) 8 b)) (Ask (Remove (h 2) f) other) (at 2) false).reply
    ≡ fails Access 2
others_remove_no_symbolic_link_from_a_sticky_directory = simp evaluate refl

its_owner_removes_a_symbolic_link_from_a_sticky_directory :
    (serial (special_in (octal 1 7 7 7) (owned_special SymbolicLink (octal 0 7 7 7) 8 b)) (Ask (Remove (h 2) f) member) (at 2) false).reply
    ≡ Success (GoneDone (directory_changed 2 (octal 1 7 7 7) 2))
its_owner_removes_a_symbolic_link_from_a_sticky_directory = simp evaluate refl

others_rename_no_device_in_a_sticky_directory :
    (serial (special_in (octal 1 7 7 7) (owned_special disk (octal 0 6 6 6) 8 [])) (Ask (Rename (h 2) f (h 2) a) other) (at 2) false).reply
    ≡ fails Access 4
others_rename_no_device_in_a_sticky_directory = simp evaluate refl

-- nothing changes, so that x is enough
rename_to_another_name_needs_x_alone :
    serial (twice_in (octal 1 7 7 1) 8) (Ask (Rename (h 2) f (h 2) a) other) (at 2) false
    ≡ stay (twice_in (octal 1 7 7 1) 8) (RenameDone (directory_kept 2 (octal 1 7 7 1) 2) (directory_kept 2 (octal 1 7 7 1) 2))
rename_to_another_name_needs_x_alone = simp evaluate refl

rename_to_another_name_needs_x :
    (serial (twice_in (octal 1 7 7 6) 8) (Ask (Rename (h 2) f (h 2) a) other) (at 2) false).reply
    ≡ fails Access 4
rename_to_another_name_needs_x = simp evaluate refl

-- ---- callers that may change nothing

reader_makes_no_symbolic_link :
    (serial (tree_of (octal 0 7 7 7) 8) (Ask (Symlink (h 2) a no_attributes b) (reader (free owner))) (at 2) false).reply
    ≡ fails ReadOnly 2
reader_makes_no_symbolic_link = refl

reader_makes_no_fifo :
    (serial (tree_of (octal 0 7 7 7) 8) (Ask (Mknod (h 2) a (SpecialKind Fifo) no_attributes) (reader (free owner))) (at 2) false).reply
    ≡ fails ReadOnly 2
reader_makes_no_fifo = refl

reader_does_not_link :
    (serial (tree_of (octal 0 7 7 7) 8) (Ask (Link (h 3) (h 2) a) (reader (free owner))) (at 2) false).reply
    ≡ fails ReadOnly 3
reader_does_not_link = refl

uid_0_that_only_reads_makes_no_device :
    (serial (tree_of (octal 0 7 7 7) 8) (Ask (Mknod (h 2) a (SpecialKind disk) no_attributes) (reader uid_0)) (at 2) false).reply
    ≡ fails ReadOnly 2
uid_0_that_only_reads_makes_no_device = refl

rofs_comes_before_acces_of_a_link :
    (serial (tree_of (octal 0 0 0 0) 8) (Ask (Link (h 3) (h 2) a) (reader other)) (at 2) false).reply
    ≡ fails ReadOnly 3
rofs_comes_before_acces_of_a_link = refl

bad_handle_comes_before_rofs_of_a_link :
    (serial (tree_of (octal 0 7 7 7) 8) (Ask (Link (h 3) (replicate 11 0) a) (reader (free owner))) (at 2) false).reply
    ≡ fails BadHandle 3
bad_handle_comes_before_rofs_of_a_link = refl
