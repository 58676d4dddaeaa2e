-- Calls that come again (RFC 1813 section 4.5; 120 seconds and places are our profile): the reply is the first, and nothing is done twice.
use Rattle.std.proofs.Common.{◌≡◌, ℕ, ◌+◌, ◌*◌, true, false, List, [], ◌∷◌, replicate, Option, Some, None, refl}
use Rattle.nfs_model.specs.Types.{ServerTime, SetAttributes, Caller, ClientTime, Unchecked, Guarded, Exclusive, Getattr, Setattr, Create, Mkdir, Remove, Rmdir}
use Rattle.nfs_model.specs.Types.{Rename, Ask, Success, SystemError, SetattrDone, MadeDone, GoneDone, RenameDone}
use Rattle.nfs_model.specs.Types.{NoEntry, Exists, CrossVolume, NotSynchronous, BadHandle, Stale, Shown, Wcc}
use Rattle.nfs_model.specs.Memo.{Sets, Creates, MakesDirectory, Removes, RemovesDirectory, Renames, ToldSet, ToldMade, ToldGone, ToldRenamed, Memo}
use Rattle.nfs_model.specs.Server.{Node, Server, handle_bytes, opening_volume}
use Rattle.nfs_model.specs.Serial.Create.{no_attributes}
use Rattle.nfs_model.specs.Serial.Once.{change_of, place}
use Rattle.nfs_model.specs.Serial.Same.{same_set, same_mode, same_change}
use Rattle.nfs_model.specs.Serial.Step.{stay, serial}
use Rattle.nfs_laws.specs.Repeated.{memos_of}
use Rattle.nfs_laws.specs.lemmas.Evaluate.{evaluate}
use Rattle.nfs_laws.proofs.rows.Cases.{verifier, one_range, at, h, root, fails, a, b, d, e, x, entry, no_blocks, file, directory, root_with, volume_with, write_at}
use Rattle.nfs_laws.proofs.rows.Cases.{root_shown, directory_shown, file_shown, before, changed}

-- ---- callers

-- the port of an address
abbrev from_port : ℕ → ℕ → ℕ
from_port address port = 65536 * address + port

-- of 127.0.0.1, from port 700: in place 0 of 4
abbrev ann : Caller
ann = record { credential = record { uid = 7; gid = 8; gids = 9 ∷ [] }; xid = 100; peer = from_port 2130706433 700; checked = false; reads_only = false }

-- her next call, in place 1 of 4, and one in place 0 again
abbrev ann_next : Caller
ann_next = record ann { xid = 101 }

abbrev ann_later : Caller
ann_later = record ann { xid = 104 }

-- others in place 0
abbrev other_user : Caller
other_user = record ann { credential = record { uid = 6; gid = 8; gids = 9 ∷ [] } }

abbrev other_group : Caller
other_group = record ann { credential = record { uid = 7; gid = 6; gids = 9 ∷ [] } }

abbrev other_groups : Caller
other_groups = record ann { credential = record { uid = 7; gid = 8; gids = 9 ∷ (10 ∷ []) } }

abbrev other_port : Caller
other_port = record ann { peer = from_port 2130706433 704 }

abbrev other_address : Caller
other_address = record ann { peer = from_port 2130706434 700 }

-- ---- states with places

-- volume 0 with these places, by its next fileid and its nodes, and a volume 1 without a place
abbrev with_memos : List (Option Memo) → ℕ → List (ℕ × Node) → Server
with_memos memos next nodes =
    record { spare = 1 ∷ []; volumes = record (volume_with 1024 16777216 next nodes) { memos = memos } ∷ (opening_volume verifier 1 one_range ∷ []) }

abbrev four : List (Option Memo)
four = None ∷ (None ∷ (None ∷ (None ∷ [])))

abbrev in_first : Memo → List (Option Memo)
in_first memo = Some memo ∷ (None ∷ (None ∷ (None ∷ [])))

-- the root with the empty file `a`, of fileid 2
abbrev one_file : List (Option Memo) → Server
one_file memos = with_memos memos 3 ((1, root_with 4 (entry 3 a 2 ∷ [])) ∷ ((2, file [] no_blocks) ∷ []))

-- the root alone, after a file of fileid 2 is gone
abbrev no_file : List (Option Memo) → Server
no_file memos = with_memos memos 3 ((1, root_with 4 []) ∷ [])

-- the root with the empty directory `d`, of fileid 2
abbrev one_directory : List (Option Memo) → Server
one_directory memos = with_memos memos 3 ((1, root_with 4 (entry 3 d 2 ∷ [])) ∷ ((2, directory 1 3 []) ∷ []))

-- the root with the empty directory `d` and the empty file `a`, of fileids 2 and 3
abbrev one_directory_and_file : List (Option Memo) → Server
one_directory_and_file memos =
    with_memos memos 4 ((1, root_with 5 (entry 3 d 2 ∷ (entry 4 a 3 ∷ []))) ∷ ((2, directory 1 3 []) ∷ ((3, file [] no_blocks) ∷ [])))

-- ---- what is remembered

abbrev root_changed : ℕ → ℕ → Wcc
root_changed links seconds = changed (before 4096 1 1) (root_shown links seconds)

-- at 2 seconds
abbrev removed : Memo
removed = record { caller = ann; change = Removes root a; moment = at 2; told = ToldGone (root_changed 2 2) }

-- a file of ann's, made at 2 seconds
abbrev ann_file : ℕ → Shown
ann_file fileid = record (file_shown fileid 0 0 2 2) { uid = 7; gid = 8; atime = at 2 }

abbrev made_b : Memo
made_b = record { caller = ann; change = Creates root b (Guarded no_attributes); moment = at 2; told = ToldMade (ann_file 3) (root_changed 2 2) }

abbrev set_448 : Memo
set_448 =
    record {
      caller = ann;
      change = Sets (h 2) (record no_attributes { mode = Some 448 }) (Some (at 1));
      moment = at 2;
      told = ToldSet (changed (before 0 1 1) (record (file_shown 2 0 0 1 2) { mode = 448 }));
    }

abbrev renamed : Memo
renamed = record { caller = ann; change = Renames root a root b; moment = at 2; told = ToldRenamed (root_changed 2 2) (root_changed 2 2) }

-- ---- each of the nine is remembered, with its first reply

setattr_is_remembered :
    memos_of (serial (one_file four) (Ask (Setattr (h 2) (record no_attributes { mode = Some 448 }) (Some (at 1))) ann) (at 2) false).server 0
    ≡ in_first set_448
setattr_is_remembered = simp evaluate refl

create_is_remembered :
    memos_of (serial (one_file four) (Ask (Create root b (Guarded no_attributes)) ann) (at 2) false).server 0
    ≡ in_first made_b
create_is_remembered = simp evaluate refl

mkdir_is_remembered :
    memos_of (serial (one_file four) (Ask (Mkdir root d no_attributes) ann) (at 2) false).server 0
    ≡ in_first (record {
      caller = ann;
      change = MakesDirectory root d no_attributes;
      moment = at 2;
      told = ToldMade (record (directory_shown 3 2 2) { uid = 7; gid = 8 }) (root_changed 3 2);
    })
mkdir_is_remembered = simp evaluate refl

remove_is_remembered :
    memos_of (serial (one_file four) (Ask (Remove root a) ann) (at 2) false).server 0
    ≡ in_first removed
remove_is_remembered = simp evaluate refl

rmdir_is_remembered :
    memos_of (serial (one_directory four) (Ask (Rmdir root d) ann) (at 2) false).server 0
    ≡ in_first (record { caller = ann; change = RemovesDirectory root d; moment = at 2; told = ToldGone (root_changed 2 2) })
rmdir_is_remembered = simp evaluate refl

rename_is_remembered :
    memos_of (serial (one_file four) (Ask (Rename root a root b) ann) (at 2) false).server 0
    ≡ in_first renamed
rename_is_remembered = simp evaluate refl

-- ---- each of the nine is told again with its first reply

-- its guard is stale by now
setattr_again :
    (serial (serial (one_file four) (Ask (Setattr (h 2) (record no_attributes { mode = Some 448 }) (Some (at 1))) ann) (at 2) false).server
    (Ask (Setattr (h 2) (record no_attributes { mode = Some 448 }) (Some (at 1))) ann) (at 3) false).reply
    ≡ Success (SetattrDone (changed (before 0 1 1) (record (file_shown 2 0 0 1 2) { mode = 448 })))
setattr_again = simp evaluate refl

guarded_create_again :
    (serial (serial (one_file four) (Ask (Create root b (Guarded no_attributes)) ann) (at 2) false).server
    (Ask (Create root b (Guarded no_attributes)) ann) (at 3) false).reply
    ≡ Success (MadeDone (h 3) (ann_file 3) (root_changed 2 2))
guarded_create_again = simp evaluate refl

-- it would set ctime to 3 seconds
unchecked_create_again :
    (serial (serial (one_file four) (Ask (Create root a (Unchecked no_attributes)) ann) (at 2) false).server
    (Ask (Create root a (Unchecked no_attributes)) ann) (at 3) false).reply
    ≡ Success (MadeDone (h 2) (file_shown 2 0 0 1 2) (changed (before 4096 1 1) (root_shown 2 1)))
unchecked_create_again = simp evaluate refl

mkdir_again :
    (serial (serial (one_file four) (Ask (Mkdir root d no_attributes) ann) (at 2) false).server (Ask (Mkdir root d no_attributes) ann) (at 3) false).reply
    ≡ Success (MadeDone (h 3) (record (directory_shown 3 2 2) { uid = 7; gid = 8 }) (root_changed 3 2))
mkdir_again = simp evaluate refl

remove_again :
    (serial (serial (one_file four) (Ask (Remove root a) ann) (at 2) false).server (Ask (Remove root a) ann) (at 3) false).reply
    ≡ Success (GoneDone (root_changed 2 2))
remove_again = simp evaluate refl

rmdir_again :
    (serial (serial (one_directory four) (Ask (Rmdir root d) ann) (at 2) false).server (Ask (Rmdir root d) ann) (at 3) false).reply
    ≡ Success (GoneDone (root_changed 2 2))
rmdir_again = simp evaluate refl

rename_again :
    (serial (serial (one_file four) (Ask (Rename root a root b) ann) (at 2) false).server (Ask (Rename root a root b) ann) (at 3) false).reply
    ≡ Success (RenameDone (root_changed 2 2) (root_changed 2 2))
rename_again = simp evaluate refl

-- out of the root into the directory `d`
rename_into_a_directory_again :
    (serial (serial (one_directory_and_file four) (Ask (Rename root a (h 2) b) ann) (at 2) false).server (Ask (Rename root a (h 2) b) ann) (at 3) false).reply
    ≡ Success (RenameDone (root_changed 3 2) (changed (before 4096 1 1) (record (directory_shown 2 2 1) { mtime = at 2; ctime = at 2 })))
rename_into_a_directory_again = simp evaluate refl

-- ---- and changes nothing: a file that another made under the name since then stays

setattr_again_changes_nothing :
    serial (one_file (in_first set_448)) (Ask (Setattr (h 2) (record no_attributes { mode = Some 448 }) (Some (at 1))) ann) (at 3) false
    ≡ stay (one_file (in_first set_448)) (SetattrDone (changed (before 0 1 1) (record (file_shown 2 0 0 1 2) { mode = 448 })))
setattr_again_changes_nothing = refl

create_again_changes_nothing :
    serial (no_file (in_first made_b)) (Ask (Create root b (Guarded no_attributes)) ann) (at 3) false
    ≡ stay (no_file (in_first made_b)) (MadeDone (h 3) (ann_file 3) (root_changed 2 2))
create_again_changes_nothing = refl

remove_again_changes_nothing :
    serial (one_file (in_first removed)) (Ask (Remove root a) ann) (at 3) false
    ≡ stay (one_file (in_first removed)) (GoneDone (root_changed 2 2))
remove_again_changes_nothing = refl

rename_again_changes_nothing :
    serial (one_file (in_first renamed)) (Ask (Rename root a root b) ann) (at 3) false
    ≡ stay (one_file (in_first renamed)) (RenameDone (root_changed 2 2) (root_changed 2 2))
rename_again_changes_nothing = refl

-- ---- another caller isn't told

remove_of_another_xid :
    (serial (no_file (in_first removed)) (Ask (Remove root a) ann_later) (at 3) false).reply
    ≡ fails NoEntry 2
remove_of_another_xid = simp evaluate refl

remove_of_another_user :
    (serial (no_file (in_first removed)) (Ask (Remove root a) other_user) (at 3) false).reply
    ≡ fails NoEntry 2
remove_of_another_user = simp evaluate refl

remove_of_another_group :
    (serial (no_file (in_first removed)) (Ask (Remove root a) other_group) (at 3) false).reply
    ≡ fails NoEntry 2
remove_of_another_group = simp evaluate refl

remove_of_a_further_group :
    (serial (no_file (in_first removed)) (Ask (Remove root a) other_groups) (at 3) false).reply
    ≡ fails NoEntry 2
remove_of_a_further_group = simp evaluate refl

remove_from_another_port :
    (serial (no_file (in_first removed)) (Ask (Remove root a) other_port) (at 3) false).reply
    ≡ fails NoEntry 2
remove_from_another_port = simp evaluate refl

remove_from_another_address :
    (serial (no_file (in_first removed)) (Ask (Remove root a) other_address) (at 3) false).reply
    ≡ fails NoEntry 2
remove_from_another_address = simp evaluate refl

guarded_create_of_another_xid :
    (serial (one_file (in_first (record made_b { change = Creates root a (Guarded no_attributes) }))) (Ask (Create root a (Guarded no_attributes)) ann_later)
    (at 3) false).reply
    ≡ fails Exists 2
guarded_create_of_another_xid = simp evaluate refl

-- ---- another call isn't told

remove_of_another_name :
    (serial (no_file (in_first removed)) (Ask (Remove root b) ann) (at 3) false).reply
    ≡ fails NoEntry 2
remove_of_another_name = simp evaluate refl

rmdir_of_the_removed_name :
    (serial (no_file (in_first removed)) (Ask (Rmdir root a) ann) (at 3) false).reply
    ≡ fails NoEntry 2
rmdir_of_the_removed_name = simp evaluate refl

remove_in_another_directory :
    (serial (no_file (in_first removed)) (Ask (Remove (h 2) a) ann) (at 3) false).reply
    ≡ fails Stale 2
remove_in_another_directory = simp evaluate refl

create_of_another_mode :
    (serial (one_file (in_first (record made_b { change = Creates root a (Guarded no_attributes) })))
    (Ask (Create root a (Guarded (record no_attributes { mode = Some 448 }))) ann) (at 3) false).reply
    ≡ fails Exists 2
create_of_another_mode = simp evaluate refl

create_of_another_verifier :
    (serial (one_file (in_first (record made_b { change = Creates root a (Exclusive (replicate 8 1)) }))) (Ask (Create root a (Exclusive (replicate 8 2))) ann)
    (at 3) false).reply
    ≡ fails Exists 2
create_of_another_verifier = simp evaluate refl

create_of_another_kind :
    (serial (one_file (in_first (record made_b { change = Creates root a (Unchecked no_attributes) }))) (Ask (Create root a (Guarded no_attributes)) ann)
    (at 3) false).reply
    ≡ fails Exists 2
create_of_another_kind = simp evaluate refl

setattr_of_another_guard :
    (serial (one_file (in_first set_448)) (Ask (Setattr (h 2) (record no_attributes { mode = Some 448 }) (Some (at 5))) ann) (at 3) false).reply
    ≡ fails NotSynchronous 2
setattr_of_another_guard = simp evaluate refl

setattr_without_the_guard :
    (serial (one_file (in_first set_448)) (Ask (Setattr (h 2) (record no_attributes { mode = Some 448 }) None) ann) (at 3) false).reply
    ≡ Success (SetattrDone (changed (before 0 1 1) (record (file_shown 2 0 0 1 3) { mode = 448 })))
setattr_without_the_guard = simp evaluate refl

setattr_of_another_time :
    (serial (one_file (in_first (record set_448 { change = Sets (h 2) (record no_attributes { mtime = ClientTime (at 5) }) None })))
    (Ask (Setattr (h 2) (record no_attributes { mtime = ClientTime (at 6) }) None) ann) (at 3) false).reply
    ≡ Success (SetattrDone (changed (before 0 1 1) (file_shown 2 0 0 6 3)))
setattr_of_another_time = simp evaluate refl

rename_to_another_name :
    (serial (no_file (in_first renamed)) (Ask (Rename root a root x) ann) (at 3) false).reply
    ≡ fails NoEntry 4
rename_to_another_name = simp evaluate refl

-- ---- the same argument by argument

abbrev with_mode : Option ℕ → SetAttributes
with_mode mode = record no_attributes { mode = mode }

mode_that_is_not_given : same_set (with_mode None) (with_mode (Some 448)) ≡ false
mode_that_is_not_given = refl

mode_that_is_given : same_set (with_mode (Some 448)) (with_mode None) ≡ false
mode_that_is_given = refl

another_mode : same_set (with_mode (Some 448)) (with_mode (Some 384)) ≡ false
another_mode = refl

another_uid : same_set (record no_attributes { uid = Some 7 }) (record no_attributes { uid = Some 6 }) ≡ false
another_uid = refl

another_gid : same_set (record no_attributes { gid = Some 7 }) (record no_attributes { gid = Some 6 }) ≡ false
another_gid = refl

another_size : same_set (record no_attributes { size = Some 7 }) (record no_attributes { size = Some 6 }) ≡ false
another_size = refl

another_atime : same_set (record no_attributes { atime = ClientTime (at 7) }) (record no_attributes { atime = ClientTime (at 6) }) ≡ false
another_atime = refl

mtime_of_the_server : same_set (record no_attributes { mtime = ServerTime }) no_attributes ≡ false
mtime_of_the_server = refl

all_attributes_the_same :
    same_set
    (record { mode = Some 448; uid = Some 7; gid = Some 8; size = Some 9; atime = ServerTime; mtime = ClientTime (at 5) })
    (record { mode = Some 448; uid = Some 7; gid = Some 8; size = Some 9; atime = ServerTime; mtime = ClientTime (at 5) })
    ≡ true
all_attributes_the_same = refl

unchecked_of_another_mode : same_mode (Unchecked no_attributes) (Unchecked (with_mode (Some 448))) ≡ false
unchecked_of_another_mode = refl

guarded_for_unchecked : same_mode (Guarded no_attributes) (Unchecked no_attributes) ≡ false
guarded_for_unchecked = refl

setattr_of_another_node : same_change (Sets (h 2) no_attributes None) (Sets (h 3) no_attributes None) ≡ false
setattr_of_another_node = refl

setattr_of_another_mode : same_change (Sets (h 2) no_attributes None) (Sets (h 2) (with_mode (Some 448)) None) ≡ false
setattr_of_another_mode = refl

setattr_with_a_guard : same_change (Sets (h 2) no_attributes None) (Sets (h 2) no_attributes (Some (at 1))) ≡ false
setattr_with_a_guard = refl

create_in_another_directory : same_change (Creates (h 2) a (Guarded no_attributes)) (Creates (h 3) a (Guarded no_attributes)) ≡ false
create_in_another_directory = refl

create_of_another_name : same_change (Creates (h 2) a (Guarded no_attributes)) (Creates (h 2) b (Guarded no_attributes)) ≡ false
create_of_another_name = refl

mkdir_in_another_directory : same_change (MakesDirectory (h 2) a no_attributes) (MakesDirectory (h 3) a no_attributes) ≡ false
mkdir_in_another_directory = refl

mkdir_of_another_name : same_change (MakesDirectory (h 2) a no_attributes) (MakesDirectory (h 2) b no_attributes) ≡ false
mkdir_of_another_name = refl

mkdir_of_another_mode : same_change (MakesDirectory (h 2) a no_attributes) (MakesDirectory (h 2) a (with_mode (Some 448))) ≡ false
mkdir_of_another_mode = refl

rmdir_in_another_directory : same_change (RemovesDirectory (h 2) a) (RemovesDirectory (h 3) a) ≡ false
rmdir_in_another_directory = refl

rmdir_of_another_name : same_change (RemovesDirectory (h 2) a) (RemovesDirectory (h 2) b) ≡ false
rmdir_of_another_name = refl

-- a longer name that begins so
rmdir_of_a_longer_name : same_change (RemovesDirectory (h 2) a) (RemovesDirectory (h 2) (97 ∷ (97 ∷ []))) ≡ false
rmdir_of_a_longer_name = refl

rename_from_another_directory : same_change (Renames (h 2) a (h 3) b) (Renames (h 4) a (h 3) b) ≡ false
rename_from_another_directory = refl

rename_from_another_name : same_change (Renames (h 2) a (h 3) b) (Renames (h 2) x (h 3) b) ≡ false
rename_from_another_name = refl

rename_to_another_directory : same_change (Renames (h 2) a (h 3) b) (Renames (h 2) a (h 4) b) ≡ false
rename_to_another_directory = refl

rename_the_other_way : same_change (Renames (h 2) a (h 3) b) (Renames (h 3) b (h 2) a) ≡ false
rename_the_other_way = refl

-- ---- how long: 120 seconds, and not earlier

again_at_once :
    (serial (no_file (in_first removed)) (Ask (Remove root a) ann) (at 2) false).reply
    ≡ Success (GoneDone (root_changed 2 2))
again_at_once = refl

again_after_120_seconds :
    (serial (no_file (in_first removed)) (Ask (Remove root a) ann) (at 122) false).reply
    ≡ Success (GoneDone (root_changed 2 2))
again_after_120_seconds = refl

again_after_120_seconds_and_a_nanosecond :
    (serial (no_file (in_first removed)) (Ask (Remove root a) ann) (record { seconds = 122; nanoseconds = 1 }) false).reply
    ≡ fails NoEntry 2
again_after_120_seconds_and_a_nanosecond = simp evaluate refl

again_after_121_seconds :
    (serial (no_file (in_first removed)) (Ask (Remove root a) ann) (at 123) false).reply
    ≡ fails NoEntry 2
again_after_121_seconds = simp evaluate refl

again_a_second_earlier :
    (serial (no_file (in_first removed)) (Ask (Remove root a) ann) (at 1) false).reply
    ≡ fails NoEntry 2
again_a_second_earlier = simp evaluate refl

again_a_nanosecond_earlier :
    (serial (no_file (in_first (record removed { moment = record { seconds = 2; nanoseconds = 2 } }))) (Ask (Remove root a) ann)
    (record { seconds = 2; nanoseconds = 1 }) false).reply
    ≡ fails NoEntry 2
again_a_nanosecond_earlier = simp evaluate refl

-- ---- what isn't remembered

name_of_255_bytes : change_of (Remove root (replicate 255 97)) ≡ Some (Removes root (replicate 255 97))
name_of_255_bytes = refl

name_of_256_bytes : change_of (Mkdir root (replicate 256 97) no_attributes) ≡ None
name_of_256_bytes = refl

second_name_of_256_bytes : change_of (Rename root a root (replicate 256 97)) ≡ None
second_name_of_256_bytes = refl

handle_of_13_bytes : change_of (Setattr (replicate 13 0) no_attributes None) ≡ None
handle_of_13_bytes = refl

second_handle_of_11_bytes : change_of (Rename root a (replicate 11 0) b) ≡ None
second_handle_of_11_bytes = refl

a_failure_is_not_remembered :
    memos_of (serial (one_file four) (Ask (Create root a (Guarded no_attributes)) ann) (at 2) false).server 0
    ≡ four
a_failure_is_not_remembered = simp evaluate refl

-- the name was there, and isn't any more
a_failed_call_is_done :
    (serial (serial (one_file four) (Ask (Remove root a) other_user) (at 3) false).server (Ask (Create root a (Guarded no_attributes)) ann) (at 4) false).reply
    ≡ Success (MadeDone (h 3) (record (file_shown 3 0 0 4 4) { uid = 7; gid = 8; atime = at 4 }) (changed (before 4096 3 3) (root_shown 2 4)))
a_failed_call_is_done = simp evaluate refl

a_starved_call_is_not_remembered :
    serial (one_file four) (Ask (Create root b (Guarded no_attributes)) ann) (at 2) true
    ≡ record { reply = SystemError; server = one_file four }
a_starved_call_is_not_remembered = refl

a_write_is_not_remembered :
    memos_of (serial (one_file four) (Ask (write_at 2 0 (5 ∷ [])) ann) (at 2) false).server 0
    ≡ four
a_write_is_not_remembered = simp evaluate refl

a_getattr_is_not_remembered :
    memos_of (serial (one_file four) (Ask (Getattr root) ann) (at 2) false).server 0
    ≡ four
a_getattr_is_not_remembered = simp evaluate refl

without_places_nothing_is_remembered :
    memos_of (serial (one_file []) (Ask (Remove root a) ann) (at 2) false).server 0
    ≡ []
without_places_nothing_is_remembered = simp evaluate refl

remove_again_without_places :
    (serial (serial (one_file []) (Ask (Remove root a) ann) (at 2) false).server (Ask (Remove root a) ann) (at 3) false).reply
    ≡ fails NoEntry 2
remove_again_without_places = simp evaluate refl

-- ---- places

place_of_ann : place 4 ann ≡ 0
place_of_ann = refl

place_of_her_next : place 4 ann_next ≡ 1
place_of_her_next = refl

place_of_another_port : place 1024 other_port ≡ 804
place_of_another_port = refl

place_of_another_address : place 1024 other_address ≡ 800
place_of_another_address = refl

-- by 1,000, which doesn't divide 65,536
place_by_the_port_alone : place 1000 other_address ≡ 800
place_by_the_port_alone = refl

-- 65,535 and 4,294,967,295 are both 1,023 by 1,024
place_of_the_highest : place 1024 (record ann { xid = 4294967295; peer = from_port 2130706433 65535 }) ≡ 1022
place_of_the_highest = refl

the_newest_stays_in_its_place :
    memos_of (serial (one_file (in_first made_b)) (Ask (Remove root a) ann) (at 2) false).server 0
    ≡ in_first removed
the_newest_stays_in_its_place = simp evaluate refl

neighbours_stay :
    memos_of (serial (one_file (in_first made_b)) (Ask (Remove root a) ann_next) (at 2) false).server 0
    ≡ Some made_b ∷ (Some (record removed { caller = ann_next }) ∷ (None ∷ (None ∷ [])))
neighbours_stay = simp evaluate refl

-- the fifth of consecutive xids takes the first one's place
told_until_its_place_is_taken :
    (serial (serial (one_file (in_first (record removed { change = Removes root b }))) (Ask (Remove root a) ann_later) (at 3) false).server
    (Ask (Remove root b) ann) (at 4) false).reply
    ≡ fails NoEntry 2
told_until_its_place_is_taken = simp evaluate refl

-- ---- volumes, and what comes before memory

-- her call on the other volume
remove_in_another_volume :
    (serial (no_file (in_first removed)) (Ask (Remove (handle_bytes 1 1) a) ann) (at 3) false).reply
    ≡ fails NoEntry 2
remove_in_another_volume = simp evaluate refl

-- volume 1 with its root and these places, beside one without a place
abbrev second_with : List (Option Memo) → Server
second_with memos =
    record {
      spare = 1 ∷ [];
      volumes = volume_with 1024 16777216 3 ((1, root_with 4 []) ∷ [])
          ∷ (record (volume_with 1024 16777216 3 ((1, root_with 4 []) ∷ [])) { number = 1; memos = memos } ∷ []);
    }

create_again_in_the_second_volume :
    serial (second_with (in_first (record made_b { change = Creates (handle_bytes 1 1) b (Guarded no_attributes) })))
    (Ask (Create (handle_bytes 1 1) b (Guarded no_attributes)) ann) (at 3) false
    ≡ stay (second_with (in_first (record made_b { change = Creates (handle_bytes 1 1) b (Guarded no_attributes) })))
    (MadeDone (handle_bytes 1 3) (ann_file 3) (root_changed 2 2))
create_again_in_the_second_volume = refl

create_is_remembered_in_the_second_volume :
    memos_of (serial (second_with four) (Ask (Create (handle_bytes 1 1) b (Guarded no_attributes)) ann) (at 2) false).server 1
    ≡ in_first (record made_b {
      change = Creates (handle_bytes 1 1) b (Guarded no_attributes);
      told = ToldMade (record (ann_file 3) { fsid = 1 }) (changed (before 4096 1 1) (record (root_shown 2 2) { fsid = 1 }));
    })
create_is_remembered_in_the_second_volume = simp evaluate refl

bad_handle_comes_first :
    (serial (no_file (in_first (record removed { change = Removes (handle_bytes 2 1) a }))) (Ask (Remove (handle_bytes 2 1) a) ann) (at 3) false).reply
    ≡ fails BadHandle 2
bad_handle_comes_first = refl

other_volume_comes_first :
    (serial (no_file (in_first (record renamed { change = Renames root a (handle_bytes 1 1) b }))) (Ask (Rename root a (handle_bytes 1 1) b) ann)
    (at 3) false).reply
    ≡ fails CrossVolume 4
other_volume_comes_first = refl

-- the directory 2 is gone, which would be STALE
rmdir_whose_parent_is_gone :
    (serial (no_file (in_first (record removed { change = RemovesDirectory (h 2) e }))) (Ask (Rmdir (h 2) e) ann) (at 3) false).reply
    ≡ Success (GoneDone (root_changed 2 2))
rmdir_whose_parent_is_gone = refl

rmdir_of_another_whose_parent_is_gone :
    (serial (no_file (in_first (record removed { change = RemovesDirectory (h 2) e }))) (Ask (Rmdir (h 2) e) ann_next) (at 3) false).reply
    ≡ fails Stale 2
rmdir_of_another_whose_parent_is_gone = simp evaluate refl

-- ---- calls that change nothing, and are done

rename_onto_itself_is_remembered :
    memos_of (serial (one_file four) (Ask (Rename root a root a) ann) (at 2) false).server 0
    ≡ in_first (record {
      caller = ann;
      change = Renames root a root a;
      moment = at 2;
      told = ToldRenamed (root_changed 2 1) (root_changed 2 1);
    })
rename_onto_itself_is_remembered = simp evaluate refl

rename_onto_itself_again :
    (serial (serial (one_file four) (Ask (Rename root a root a) ann) (at 2) false).server (Ask (Rename root a root a) ann) (at 3) false).reply
    ≡ Success (RenameDone (root_changed 2 1) (root_changed 2 1))
rename_onto_itself_again = simp evaluate refl

-- removed since then by another, it isn't made again
exclusive_create_again :
    serial (no_file (in_first (record made_b { change = Creates root b (Exclusive (replicate 8 1)) }))) (Ask (Create root b (Exclusive (replicate 8 1))) ann)
    (at 3) false
    ≡ stay (no_file (in_first (record made_b { change = Creates root b (Exclusive (replicate 8 1)) }))) (MadeDone (h 3) (ann_file 3) (root_changed 2 2))
exclusive_create_again = refl
