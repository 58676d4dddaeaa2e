-- SYMLINK, MKNOD and LINK that come again (RFC 1813 section 4.5; places and which texts are our profile): the reply is the first, and
-- nothing is done twice.
use Rattle.std.proofs.Common.{◌≡◌, ◌+◌, ◌*◌, true, false, List, [], ◌∷◌, replicate, Option, Some, None, refl}
use Rattle.nfs_model.specs.Types.{Caller, Fifo, Socket, BlockDevice, CharacterDevice, Regular, DirectoryKind, SpecialKind}
use Rattle.nfs_model.specs.Types.{Readlink, Symlink, Mknod, Link, Ask, Success, MadeDone, LinkDone, Exists, CrossVolume}
use Rattle.nfs_model.specs.Types.{Stale, Shown, Wcc}
use Rattle.nfs_model.specs.Memo.{MakesDirectory, MakesSymbolicLink, MakesNode, Links, ToldMade, ToldLinked, Memo}
use Rattle.nfs_model.specs.Server.{Node, Server, handle_bytes, opening_volume}
use Rattle.nfs_model.specs.Serial.Create.{no_attributes}
use Rattle.nfs_model.specs.Serial.Once.{change_of}
use Rattle.nfs_model.specs.Serial.Same.{same_change, same_kind}
use Rattle.nfs_model.specs.Serial.Step.{stay, serial}
use Rattle.nfs_laws.specs.Repeated.{memos_of}
use Rattle.nfs_laws.specs.lemmas.Evaluate.{evaluate}
use Rattle.nfs_laws.proofs.rows.Cases.{verifier, one_range, at, h, root, fails, a, b, d, entry, root_with, volume_with, root_shown, before, changed}
use Rattle.nfs_laws.proofs.rows.Linked.{disk, terminal, d_f, named_file, named_shown, special_shown, symbolic_link, symbolic_link_shown}

-- ---- a caller, and states with four places

-- of 127.0.0.1, from port 700: in place 0 of 4
abbrev ann : Caller
ann = record {
  credential = record { uid = 7; gid = 8; gids = [] };
  xid = 100;
  peer = 65536 * 2130706433 + 700;
  checked = false;
  reads_only = false;
}

-- another call of hers, in place 0 too
abbrev ann_later : Caller
ann_later = record ann { xid = 104 }

abbrev four : List (Option Memo)
four = None ∷ (None ∷ (None ∷ (None ∷ [])))

abbrev in_first : Memo → List (Option Memo)
in_first memo = Some memo ∷ (None ∷ (None ∷ (None ∷ [])))

-- the root with the node `a`, of fileid 2, and these places
abbrev one_node : Node → List (Option Memo) → Server
one_node node memos = record {
  spare = 1 ∷ [];
  volumes
      = record (volume_with 1024 16777216 3 ((1, root_with 4 (entry 3 a 2 ∷ [])) ∷ ((2, node) ∷ []))) { memos = memos }
      ∷ (opening_volume verifier 1 one_range ∷ []);
}

-- a file of one name
abbrev one_file : List (Option Memo) → Server
one_file memos = one_node (named_file 1) memos

-- ---- what is remembered, at 2 seconds

abbrev root_changed : Wcc
root_changed = changed (before 4096 1 1) (root_shown 2 2)

-- what ann makes
abbrev of_ann : Shown → Shown
of_ann shown = record shown { uid = 7; gid = 8; atime = at 2; mtime = at 2 }

abbrev symlinked : Memo
symlinked =
    record {
      caller = ann;
      change = MakesSymbolicLink root b no_attributes (100 ∷ (47 ∷ (102 ∷ [])));
      moment = at 2;
      told = ToldMade (of_ann (symbolic_link_shown 3 3 2)) root_changed;
    }

abbrev fifo_made : Memo
fifo_made =
    record {
      caller = ann;
      change = MakesNode root b (SpecialKind Fifo) no_attributes;
      moment = at 2;
      told = ToldMade (of_ann (special_shown 3 Fifo 420 2)) root_changed;
    }

abbrev linked : Memo
linked =
    record { caller = ann; change = Links (h 2) root b; moment = at 2; told = ToldLinked (named_shown 2 2 2) root_changed }

-- ---- each is remembered, with its first reply

symlink_is_remembered :
    memos_of (serial (one_file four) (Ask (Symlink root b no_attributes d_f) ann) (at 2) false).server 0
    ≡ in_first symlinked
symlink_is_remembered = simp evaluate refl

mknod_is_remembered :
    memos_of (serial (one_file four) (Ask (Mknod root b (SpecialKind Fifo) no_attributes) ann) (at 2) false).server 0
    ≡ in_first fifo_made
mknod_is_remembered = simp evaluate refl

link_is_remembered :
    memos_of (serial (one_file four) (Ask (Link (h 2) root b) ann) (at 2) false).server 0
    ≡ in_first linked
link_is_remembered = simp evaluate refl

-- ---- and told again

symlink_again :
    (serial (serial (one_file four) (Ask (Symlink root b no_attributes d_f) ann) (at 2) false).server (Ask (Symlink root b no_attributes d_f) ann)
    (at 3) false).reply
    ≡ Success (MadeDone (h 3) (of_ann (symbolic_link_shown 3 3 2)) root_changed)
symlink_again = simp evaluate refl

mknod_again :
    (serial (serial (one_file four) (Ask (Mknod root b (SpecialKind Fifo) no_attributes) ann) (at 2) false).server
    (Ask (Mknod root b (SpecialKind Fifo) no_attributes) ann) (at 3) false).reply
    ≡ Success (MadeDone (h 3) (of_ann (special_shown 3 Fifo 420 2)) root_changed)
mknod_again = simp evaluate refl

mknod_of_a_device_again :
    (serial (serial (one_file four) (Ask (Mknod root b (SpecialKind disk) no_attributes) ann) (at 2) false).server
    (Ask (Mknod root b (SpecialKind disk) no_attributes) ann) (at 3) false).reply
    ≡ Success (MadeDone (h 3) (of_ann (special_shown 3 (BlockDevice (record { major = 8; minor = 1 })) 420 2)) root_changed)
mknod_of_a_device_again = simp evaluate refl

link_again :
    (serial (serial (one_file four) (Ask (Link (h 2) root b) ann) (at 2) false).server (Ask (Link (h 2) root b) ann) (at 3) false).reply
    ≡ Success (LinkDone (named_shown 2 2 2) root_changed)
link_again = simp evaluate refl

link_of_another_xid :
    (serial (serial (one_file four) (Ask (Link (h 2) root b) ann) (at 2) false).server (Ask (Link (h 2) root b) ann_later) (at 3) false).reply
    ≡ fails Exists 3
link_of_another_xid = simp evaluate refl

-- ---- and changes nothing: in none of these states is the name there any more

symlink_again_changes_nothing :
    serial (one_file (in_first symlinked)) (Ask (Symlink root b no_attributes d_f) ann) (at 3) false
    ≡ stay (one_file (in_first symlinked)) (MadeDone (h 3) (of_ann (symbolic_link_shown 3 3 2)) root_changed)
symlink_again_changes_nothing = refl

mknod_again_changes_nothing :
    serial (one_file (in_first fifo_made)) (Ask (Mknod root b (SpecialKind Fifo) no_attributes) ann) (at 3) false
    ≡ stay (one_file (in_first fifo_made)) (MadeDone (h 3) (of_ann (special_shown 3 Fifo 420 2)) root_changed)
mknod_again_changes_nothing = refl

link_again_changes_nothing :
    serial (one_file (in_first linked)) (Ask (Link (h 2) root b) ann) (at 3) false
    ≡ stay (one_file (in_first linked)) (LinkDone (named_shown 2 2 2) root_changed)
link_again_changes_nothing = refl

-- ---- another call isn't told: the name `a` is there

symlink_of_another_text :
    (serial (one_file (in_first (record symlinked { change = MakesSymbolicLink root a no_attributes d_f })))
    (Ask (Symlink root a no_attributes d) ann) (at 3) false).reply
    ≡ fails Exists 2
symlink_of_another_text = simp evaluate refl

symlink_of_another_name :
    (serial (one_file (in_first symlinked)) (Ask (Symlink root a no_attributes d_f) ann) (at 3) false).reply
    ≡ fails Exists 2
symlink_of_another_name = simp evaluate refl

mknod_of_another_kind :
    (serial (one_file (in_first (record fifo_made { change = MakesNode root a (SpecialKind Fifo) no_attributes })))
    (Ask (Mknod root a (SpecialKind Socket) no_attributes) ann) (at 3) false).reply
    ≡ fails Exists 2
mknod_of_another_kind = simp evaluate refl

mknod_of_another_device :
    (serial (one_file (in_first (record fifo_made { change = MakesNode root a (SpecialKind disk) no_attributes })))
    (Ask (Mknod root a (SpecialKind (BlockDevice (record { major = 8; minor = 2 }))) no_attributes) ann) (at 3) false).reply
    ≡ fails Exists 2
mknod_of_another_device = simp evaluate refl

mknod_of_another_name :
    (serial (one_file (in_first fifo_made)) (Ask (Mknod root a (SpecialKind Fifo) no_attributes) ann) (at 3) false).reply
    ≡ fails Exists 2
mknod_of_another_name = simp evaluate refl

link_of_another_name :
    (serial (one_file (in_first linked)) (Ask (Link (h 2) root a) ann) (at 3) false).reply
    ≡ fails Exists 3
link_of_another_name = simp evaluate refl

link_of_another_node :
    (serial (one_file (in_first linked)) (Ask (Link (h 9) root b) ann) (at 3) false).reply
    ≡ fails Stale 3
link_of_another_node = simp evaluate refl

link_below_another_directory :
    (serial (one_file (in_first linked)) (Ask (Link (h 2) (h 9) b) ann) (at 3) false).reply
    ≡ fails Stale 3
link_below_another_directory = simp evaluate refl

other_volume_comes_before_a_told_link :
    (serial (one_file (in_first (record linked { change = Links (h 2) (handle_bytes 1 1) b }))) (Ask (Link (h 2) (handle_bytes 1 1) b) ann)
    (at 3) false).reply
    ≡ fails CrossVolume 3
other_volume_comes_before_a_told_link = refl

-- ---- the same argument by argument

symlink_the_same :
    same_change (MakesSymbolicLink (h 2) a no_attributes d_f) (MakesSymbolicLink (h 2) a no_attributes (100 ∷ (47 ∷ (102 ∷ []))))
    ≡ true
symlink_the_same = refl

symlink_in_another_directory :
    same_change (MakesSymbolicLink (h 2) a no_attributes d_f) (MakesSymbolicLink (h 3) a no_attributes d_f) ≡ false
symlink_in_another_directory = refl

symlink_under_another_name :
    same_change (MakesSymbolicLink (h 2) a no_attributes d_f) (MakesSymbolicLink (h 2) b no_attributes d_f) ≡ false
symlink_under_another_name = refl

symlink_of_another_mode :
    same_change (MakesSymbolicLink (h 2) a no_attributes d_f) (MakesSymbolicLink (h 2) a (record no_attributes { mode = Some 448 }) d_f) ≡ false
symlink_of_another_mode = refl

symlink_to_a_longer_text :
    same_change (MakesSymbolicLink (h 2) a no_attributes d) (MakesSymbolicLink (h 2) a no_attributes d_f) ≡ false
symlink_to_a_longer_text = refl

mknod_the_same :
    same_change (MakesNode (h 2) a (SpecialKind terminal) no_attributes)
    (MakesNode (h 2) a (SpecialKind (CharacterDevice (record { major = 4; minor = 64 }))) no_attributes)
    ≡ true
mknod_the_same = refl

mknod_in_another_directory :
    same_change (MakesNode (h 2) a (SpecialKind Fifo) no_attributes) (MakesNode (h 3) a (SpecialKind Fifo) no_attributes) ≡ false
mknod_in_another_directory = refl

mknod_under_another_name :
    same_change (MakesNode (h 2) a (SpecialKind Fifo) no_attributes) (MakesNode (h 2) b (SpecialKind Fifo) no_attributes) ≡ false
mknod_under_another_name = refl

mknod_of_another_mode :
    same_change (MakesNode (h 2) a (SpecialKind Fifo) no_attributes)
    (MakesNode (h 2) a (SpecialKind Fifo) (record no_attributes { mode = Some 448 }))
    ≡ false
mknod_of_another_mode = refl

fifo_for_a_socket : same_kind (SpecialKind Fifo) (SpecialKind Socket) ≡ false
fifo_for_a_socket = refl

fifo_for_a_regular_file : same_kind (SpecialKind Fifo) Regular ≡ false
fifo_for_a_regular_file = refl

block_for_a_character_device :
    same_kind (SpecialKind (BlockDevice (record { major = 4; minor = 64 }))) (SpecialKind terminal) ≡ false
block_for_a_character_device = refl

another_major : same_kind (SpecialKind disk) (SpecialKind (BlockDevice (record { major = 9; minor = 1 }))) ≡ false
another_major = refl

another_minor : same_kind (SpecialKind terminal) (SpecialKind (CharacterDevice (record { major = 4; minor = 65 }))) ≡ false
another_minor = refl

-- a hard and a symbolic link, and a directory
link_for_a_symlink : same_change (Links (h 2) root a) (MakesSymbolicLink root a no_attributes d) ≡ false
link_for_a_symlink = refl

mknod_for_mkdir : same_change (MakesNode root a (SpecialKind Fifo) no_attributes) (MakesDirectory root a no_attributes) ≡ false
mknod_for_mkdir = refl

link_the_same : same_change (Links (h 2) (h 3) a) (Links (h 2) (h 3) (97 ∷ [])) ≡ true
link_the_same = refl

link_the_other_way : same_change (Links (h 2) (h 3) a) (Links (h 3) (h 2) a) ≡ false
link_the_other_way = refl

-- ---- what may be remembered

text_of_1024_bytes_is_kept :
    change_of (Symlink root a no_attributes (replicate 1024 97)) ≡ Some (MakesSymbolicLink root a no_attributes (replicate 1024 97))
text_of_1024_bytes_is_kept = refl

text_of_1025_bytes_is_not : change_of (Symlink root a no_attributes (replicate 1025 97)) ≡ None
text_of_1025_bytes_is_not = refl

symlink_of_a_name_of_256_bytes_is_not : change_of (Symlink root (replicate 256 97) no_attributes d) ≡ None
symlink_of_a_name_of_256_bytes_is_not = refl

mknod_of_a_name_of_256_bytes_is_not : change_of (Mknod root (replicate 256 97) (SpecialKind Fifo) no_attributes) ≡ None
mknod_of_a_name_of_256_bytes_is_not = refl

link_of_a_name_of_255_bytes_is_kept : change_of (Link (h 2) root (replicate 255 97)) ≡ Some (Links (h 2) root (replicate 255 97))
link_of_a_name_of_255_bytes_is_kept = refl

link_of_a_name_of_256_bytes_is_not : change_of (Link (h 2) root (replicate 256 97)) ≡ None
link_of_a_name_of_256_bytes_is_not = refl

link_of_a_handle_of_11_bytes_is_not : change_of (Link (replicate 11 0) root a) ≡ None
link_of_a_handle_of_11_bytes_is_not = refl

link_below_a_handle_of_13_bytes_is_not : change_of (Link (h 2) (replicate 13 0) a) ≡ None
link_below_a_handle_of_13_bytes_is_not = refl

readlink_is_not_remembered :
    memos_of (serial (one_node (symbolic_link d) four) (Ask (Readlink (h 2)) ann) (at 2) false).server 0
    ≡ four
readlink_is_not_remembered = simp evaluate refl

a_refused_mknod_is_not_remembered :
    memos_of (serial (one_file four) (Ask (Mknod root b DirectoryKind no_attributes) ann) (at 2) false).server 0
    ≡ four
a_refused_mknod_is_not_remembered = simp evaluate refl
