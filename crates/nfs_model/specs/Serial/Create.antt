-- CREATE (RFC 1813 section 3.3.8), and what it shares with MKDIR, SYMLINK and MKNOD.
use Rattle.std.specs.Prelude.{ℕ, ◌+◌, nat_le, Bool, false, not, ◌==◌, ◌&&◌, ◌||◌, List, replicate, Option, Some, None, is_none, if◌then◌else◌}
use Rattle.std.specs.FinMap.{insert, len}
use Rattle.std.specs.FinSet as sets
use Rattle.nfs_model.specs.Types.{Moment, Credential, Caller, SetAttributes, Keep, CreateMode, Unchecked, Guarded, Kind, Regular, DirectoryKind}
use Rattle.nfs_model.specs.Types.{SpecialKind}
use Rattle.nfs_model.specs.Types.{Exclusive, Answer, MadeDone, Status, Exists, Invalid, TooBig, NoSpace}
use Rattle.nfs_model.specs.Server.{Attributes, FileNode, Node, File, Directory, Special, VolumeState, handle_bytes}
use Rattle.nfs_model.specs.Shown.{shown, wcc}
use Rattle.nfs_model.specs.Names.{same_name, is_dots, with_name}
use Rattle.nfs_model.specs.Locate.{Effect, Fails, Tells, Changes, unless, Found, Naming, named_child}
use Rattle.nfs_model.specs.Serial.Setattr.{has_bad_time, is_past, given, given_mode, time_after, set_file}
use Rattle.nfs_model.specs.Serial.Setattr.{setattr_fault, set_taken, with_node}
use Rattle.nfs_model.specs.Serial.Rights.{Protection, protected, with_bit, gives_group, group_made, is_in_group, mode_of_group}

-- ---- what procedures that make a node share

-- sattr3 that gives nothing
abbrev pub no_attributes : SetAttributes
no_attributes = record { mode = None; uid = None; gid = None; size = None; atime = Keep; mtime = Keep }

-- who makes a node, and the directory in which it comes
pub record Maker : Type 0 where
  pub caller : Caller
  pub directory : Attributes

-- Where callers are checked, another than uid 0 makes its own, whatever it gives: some clients always give both. A group is its own too,
-- or the one that is made anyway.
abbrev pub made_uid : SetAttributes → Maker → ℕ
made_uid set m =
    if m.caller.checked && not (m.caller.credential.uid == 0) then m.caller.credential.uid else given set.uid m.caller.credential.uid

abbrev pub checked_gid : Option ℕ → Credential → Protection → ℕ
checked_gid None who directory = group_made who directory
checked_gid (Some gid) who directory = if (who.uid == 0) || is_in_group who gid then gid else group_made who directory

abbrev pub made_gid : SetAttributes → Maker → ℕ
made_gid set m =
    if m.caller.checked then checked_gid set.gid m.caller.credential (protected DirectoryKind m.directory)
    else given set.gid m.caller.credential.gid

-- the mode of what is made in a group, where callers are checked: a directory hands 02000 on to directories; to all else only those of the
-- group give it
abbrev pub checked_mode : Maker → Kind → ℕ → ℕ → ℕ
checked_mode m Regular gid mode = mode_of_group m.caller.credential gid mode
checked_mode m DirectoryKind gid mode =
    if gives_group (protected DirectoryKind m.directory) then with_bit mode 1024
    else mode_of_group m.caller.credential gid mode
checked_mode m (SpecialKind special) gid mode = mode_of_group m.caller.credential gid mode

abbrev pub made_mode : Maker → Kind → ℕ → ℕ → ℕ
made_mode m kind gid mode = if m.caller.checked then checked_mode m kind gid mode else mode

-- the attributes of a new node: those given, else the mode, the caller and the moment
abbrev pub new_attributes : SetAttributes → Kind → ℕ → Maker → Moment → Attributes
new_attributes set kind mode m moment = record {
  mode = made_mode m kind (made_gid set m) (given_mode set.mode mode);
  uid = made_uid set m;
  gid = made_gid set m;
  atime = time_after set.atime moment moment;
  mtime = time_after set.mtime moment moment;
  ctime = moment;
}

-- no inode is left
abbrev pub is_full : VolumeState → Bool
is_full volume = nat_le volume.most_inodes (len volume.nodes)

-- the directory with the name, which stands for the next fileid
abbrev pub directory_made : Naming → Node
directory_made n = Directory (with_name n.directory n.name n.volume.next n.moment)

-- the volume with a new node under the name
abbrev pub with_child : Naming → Node → VolumeState
with_child n node = record n.volume {
  next = n.volume.next + 1;
  nodes = insert (insert n.volume.nodes n.volume.next node) n.fileid (directory_made n);
}

-- the handle and the attributes of a node in a volume, with its directory before and after
abbrev pub made_told : Naming → VolumeState → Found → Node → Answer
made_told n new found directory =
    MadeDone (handle_bytes new.number found.fileid) (shown new found.fileid found.node)
    (wcc n.volume n.fileid (Directory n.directory) new directory)

-- a node made
abbrev pub made : Naming → Node → Effect
made n node =
    Changes
    (made_told n (with_child n node) (record { fileid = n.volume.next; node = node }) (directory_made n))
    (with_child n node)

-- ---- the name is there

-- a node that is there, in a directory that doesn't change
abbrev pub there_told : Naming → VolumeState → Found → Answer
there_told n new found = made_told (record n { volume = new }) new found (Directory n.directory)

-- a file that is there, set as SETATTR does without a guard
abbrev pub set_there : Naming → ℕ → Node → Effect
set_there n fileid node =
    Changes (there_told n (with_node n.volume fileid node) (record { fileid = fileid; node = node }))
    (with_node n.volume fileid node)

-- a file that is there, and stays
abbrev pub told_as_it_is : Naming → ℕ → Node → Effect
told_as_it_is n fileid node = Tells (there_told n n.volume (record { fileid = fileid; node = node }))

-- what UNCHECKED sets of a file that is there: where callers are checked the size alone, since the others are of a new file (section 3.3.8)
abbrev pub over_taken : Caller → SetAttributes → SetAttributes
over_taken caller set = if caller.checked then record no_attributes { size = set.size } else set

-- as SETATTR does without a guard
abbrev pub set_over : Naming → SetAttributes → ℕ → FileNode → Effect
set_over n set fileid f =
    unless (setattr_fault n.volume set None (File f)) (set_there n fileid (File (set_file set n.moment f)))

-- whether a file was made with this verifier
abbrev pub is_verifier : Option (List ℕ) → List ℕ → Bool
is_verifier None verifier = false
is_verifier (Some v) verifier = same_name v verifier

-- the name is there: GUARDED is EXIST; EXCLUSIVE answers a file of the same verifier; UNCHECKED
-- sets a file
abbrev pub create_over : Naming → CreateMode → Caller → ℕ → Node → Effect
create_over n (Guarded set) caller fileid node = Fails Exists
create_over n mode caller fileid (Directory other) = Fails Exists
create_over n mode caller fileid (Special other) = Fails Exists
create_over n (Exclusive verifier) caller fileid (File f) =
    if is_verifier f.verifier verifier then told_as_it_is n fileid (File f) else Fails Exists
create_over n (Unchecked set) caller fileid (File f) =
    if caller.checked && is_none set.size then told_as_it_is n fileid (File f)
    else set_over n (set_taken caller (over_taken caller set) (File f)) fileid f

-- ---- it isn't

-- the attributes of the file to be made; EXCLUSIVE takes the defaults
abbrev pub asked_attributes : CreateMode → SetAttributes
asked_attributes (Unchecked set) = set
asked_attributes (Guarded set) = set
asked_attributes (Exclusive verifier) = no_attributes

-- the verifier that the file keeps
abbrev pub kept_verifier : CreateMode → Option (List ℕ)
kept_verifier (Unchecked set) = None
kept_verifier (Guarded set) = None
kept_verifier (Exclusive verifier) = Some verifier

-- the first check that fails: the times, the largest size, inodes
abbrev pub create_fault : VolumeState → SetAttributes → Option Status
create_fault volume set =
    if has_bad_time set then Some Invalid
    else if is_past set.size volume.largest then Some TooBig
    else if is_full volume then Some NoSpace
    else None

-- the file to be made: mode 0644 (octal) if none is given; its size is a hole
abbrev pub new_file : CreateMode → Maker → Moment → Node
new_file mode m moment = File (record {
  attributes = new_attributes (asked_attributes mode) Regular 420 m moment;
  bytes = replicate (given (asked_attributes mode).size 0) 0;
  filled = sets.empty;
  touch = None;
  verifier = kept_verifier mode;
  links = 1;
})

-- ---- the procedure

-- a caller makes what a name stands for
abbrev pub maker : Caller → Naming → Maker
maker caller n = record { caller = caller; directory = n.directory.attributes }

-- by whether the name is there
abbrev pub create_at : Naming → CreateMode → Caller → Option Found → Effect
create_at n mode caller (Some found) = create_over n mode caller found.fileid found.node
create_at n mode caller None =
    unless (create_fault n.volume (asked_attributes mode)) (made n (new_file mode (maker caller n) n.moment))

-- on a good name: EXIST for `.` and `..`
abbrev pub create : CreateMode → Caller → Naming → Effect
create mode caller n =
    if is_dots n.name then Fails Exists else create_at n mode caller (named_child n)
