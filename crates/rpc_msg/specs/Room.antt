-- The room of a reply: the most bytes that its record takes, whatever the server answers.
use Rattle.std.specs.Prelude.{◌≡◌, ℕ, ◌+◌, ◌*◌, ◌/◌, min, max, ◌≤◌, List, length, Option, Some, IfSome, slice_get}
use Rattle.std.specs.Ordering.{nat_cmp}
use Rattle.std.specs.FinMap.{FinMap, get}
use Rattle.nfs_model.specs.Types as model
use Rattle.nfs_model.specs.Memo.{Change, Sets, Creates, MakesDirectory, MakesSymbolicLink, MakesNode, Removes, RemovesDirectory, Renames, Links}
use Rattle.nfs_model.specs.Memo.{Told, ToldSet, ToldMade, ToldGone, ToldRenamed, ToldLinked, Memo}
use Rattle.nfs_model.specs.Server.{Node, File, Directory, Special, VolumeState, Server, most_bytes}
use Rattle.nfs_model.specs.Serial.Symlink.{most_text}

-- a record's header, and a reply as far as its accept_stat (RFC 5531 sections 9 and 11)
abbrev pub head_room : ℕ
head_room = 28

-- what RPC refuses: no arm is longer than two versions (RFC 5531 section 9)
abbrev pub refusal_room : ℕ
refusal_room = head_room + 8

-- bytes and their padding (RFC 4506 section 4.10)
abbrev pub padded_size : ℕ → ℕ
padded_size n = 4 * ((n + 3) / 4)

-- status, the handle, and the attributes of the object and of the directory (RFC 1813 section 3.3.3)
abbrev pub lookup_room : ℕ
lookup_room = 4 + 24 + 88 + 88

-- status, attributes, and the longest text with its length (RFC 1813 section 3.3.5)
abbrev pub readlink_room : ℕ
readlink_room = 4 + 88 + 4 + padded_size most_text

-- status, no attributes, count, eof and the bytes (RFC 1813 section 3.3.6)
abbrev pub read_room : ℕ → ℕ
read_room count = 4 + 4 + 4 + 4 + 4 + padded_size (min count most_bytes)

-- the attributes of a node before and after (RFC 1813 section 2.6)
abbrev pub change_room : ℕ
change_room = 28 + 88

-- status, the handle and the attributes of what was made, and its directory's change (RFC 1813 section 3.3.8)
abbrev pub made_room : ℕ
made_room = 4 + 28 + 88 + change_room

-- status, the attributes of what has one more name, and the directory's change (RFC 1813 section 3.3.15)
abbrev pub link_room : ℕ
link_room = 4 + 88 + change_room

-- status, and as many bytes as are asked for, or a failure without attributes (RFC 1813 sections 3.3.16 and
-- 3.3.17)
abbrev pub readdir_room : ℕ → ℕ
readdir_room count = 4 + max 4 (min count most_bytes)

-- status, the handle and two flavors (RFC 1813 appendix I, section 5.2.1)
abbrev pub mount_room : ℕ
mount_room = 4 + 24 + 12

-- The most bytes of the results of a call, where there are this many volumes (RFC 1813 section 3.3).
abbrev pub results_room : ℕ → model.Call → ℕ
results_room volumes model.Null = 0
results_room volumes (model.Getattr handle) = 4 + 84
results_room volumes (model.Setattr handle set guard) = 4 + change_room
results_room volumes (model.Lookup directory name) = lookup_room
results_room volumes (model.CheckAccess handle asked) = 4 + 88 + 4
results_room volumes (model.Readlink handle) = readlink_room
results_room volumes (model.Read handle offset count) = read_room count
results_room volumes (model.Write handle offset count written) = 4 + 8 + 4 + 4 + 8
results_room volumes (model.Create directory name mode) = made_room
results_room volumes (model.Mkdir directory name set) = made_room
results_room volumes (model.Symlink directory name set text) = made_room
results_room volumes (model.Mknod directory name kind set) = made_room
results_room volumes (model.Remove directory name) = 4 + change_room
results_room volumes (model.Rmdir directory name) = 4 + change_room
results_room volumes (model.Rename from from_name to to_name) = 4 + change_room + change_room
results_room volumes (model.Link handle directory name) = link_room
results_room volumes (model.Readdir directory cookie verifier count) = readdir_room count
results_room volumes (model.Readdirplus directory cookie verifier names_count count) = readdir_room count
results_room volumes (model.Fsstat handle) = 4 + 88 + 6 * 8 + 4
results_room volumes (model.Fsinfo handle) = 4 + 88 + 7 * 4 + 8 + 8 + 4
results_room volumes (model.Pathconf handle) = 4 + 88 + 6 * 4
results_room volumes (model.Commit handle) = 4 + change_room + 8
results_room volumes model.Census = 4 + 20 * volumes
results_room volumes (model.Grow volume ranges) = 4 + 8
results_room volumes model.Stop = 0
results_room volumes (model.Mount call) = 4 + 20 * 10
results_room volumes (model.MountBelow root path) = mount_room

-- the most bytes of the record of the reply to a call, where there are this many volumes
abbrev pub reply_room : ℕ → model.Call → ℕ
reply_room volumes call = head_room + results_room volumes call

-- the most bytes of the results of a call that is done once, and of what it is told again (RFC 1813 section 3.3)
abbrev pub change_results : Change → ℕ
change_results (Sets handle set guard) = 4 + change_room
change_results (Creates directory name mode) = made_room
change_results (MakesDirectory directory name set) = made_room
change_results (MakesSymbolicLink directory name set text) = made_room
change_results (MakesNode directory name kind set) = made_room
change_results (Removes directory name) = 4 + change_room
change_results (RemovesDirectory directory name) = 4 + change_room
change_results (Renames from from_name to to_name) = 4 + change_room + change_room
change_results (Links handle directory name) = link_room

abbrev pub told_results : Told → ℕ
told_results (ToldSet change) = 4 + change_room
told_results (ToldMade object directory) = made_room
told_results (ToldGone directory) = 4 + change_room
told_results (ToldRenamed from to) = 4 + change_room + change_room
told_results (ToldLinked object directory) = link_room

-- what is remembered of a call isn't longer than its results may be
abbrev pub AreShort : List (Option Memo) → Type 0
AreShort memos = (k : ℕ) (memo : Memo) → slice_get memos k ≡ Some (Some memo) → told_results memo.told ≤ change_results memo.change

-- the text of a symbolic link isn't longer than SYMLINK takes it
abbrev pub HasShortText : Node → Type 0
HasShortText (File f) = Unit {0}
HasShortText (Directory d) = Unit {0}
HasShortText (Special s) = length s.text ≤ most_text

abbrev pub HaveShortTexts : FinMap nat_cmp Node → Type 0
HaveShortTexts nodes = (fileid : ℕ) → IfSome (get nodes fileid) HasShortText

-- Each write verifier is 8 bytes, there are at most this many volumes, and what they remember is short, as are the texts of symbolic links.
pub record IsRoomy (volumes : ℕ) (server : Server) : Type 0 where
  pub few : length server.volumes ≤ volumes
  pub verifiers : (i : ℕ) (volume : VolumeState) → slice_get server.volumes i ≡ Some volume → length volume.verifier ≡ 8
  pub memos : (i : ℕ) (volume : VolumeState) → slice_get server.volumes i ≡ Some volume → AreShort volume.memos
  pub texts : (i : ℕ) (volume : VolumeState) → slice_get server.volumes i ≡ Some volume → HaveShortTexts volume.nodes
