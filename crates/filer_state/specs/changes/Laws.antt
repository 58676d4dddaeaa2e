-- What calls that change a volume come to, by what is under Logical (RFC 1813 section 3.3).
use Rattle.std.specs.Prelude.{◌≡◌, ℕ, false, List, [], Option, Some, None}
use Rattle.nfs_model.specs.Types.{Moment, Caller, SetAttributes, CreateMode, Kind, Shown, Wcc, MadeDone, LinkDone, Success}
use Rattle.nfs_model.specs.Types.{Create, Mkdir, Symlink, Mknod, Remove, Rmdir, Rename, RenameDone, Link}
use Rattle.nfs_model.specs.Tree.{Affinity}
use Rattle.nfs_model.specs.Server.{handle_of}
use Rattle.nfs_model.specs.Locate.{on_name}
use Rattle.nfs_model.specs.Serial.Create.{create}
use Rattle.nfs_model.specs.Serial.Mkdir.{mkdir}
use Rattle.nfs_model.specs.Serial.Symlink.{symlink}
use Rattle.nfs_model.specs.Serial.Mknod.{mknod}
use Rattle.nfs_model.specs.Serial.Link.{link}
use Rattle.nfs_model.specs.Serial.Remove.{remove_name}
use Rattle.nfs_model.specs.Serial.Rmdir.{rmdir}
use Rattle.nfs_model.specs.Serial.Rename.{rename}
use Rattle.nfs_model.specs.Work.{Starved}
use Rattle.nfs_model.specs.volume.Directories.{fileid_found}
use Rattle.filer_state.specs.state.Jobs.{Replied}
use Rattle.filer_state.specs.state.Lenses.{LogicalSet, logical_lens}
use Rattle.filer_state.specs.state.Promises.{RightOnVolume}
use Rattle.filer_state.specs.state.Calls.{VolumeCall, ServesOn, WorksOn, unasked}
use Rattle.filer_state.specs.state.Changes.{LogicalAnswer}
use Rattle.filer_state.specs.attributes.Laws.{setattr_call}
use Rattle.filer_state.specs.names.Answers.{entries_of}
use Rattle.filer_state.specs.changes.Named.{on_held_name}
use Rattle.filer_state.specs.changes.Attributes.{held_setattr}
use Rattle.filer_state.specs.permissions.Refusing.{are_one}
use Rattle.filer_state.specs.changes.Making.{held_create, held_mkdir, held_symlink, held_mknod}
use Rattle.filer_state.specs.changes.Dropping.{held_remove, held_rmdir}
use Rattle.filer_state.specs.changes.Renaming.{on_held_names, held_rename}
use Rattle.filer_state.specs.changes.Linking.{link_done}

-- ---- the calls

abbrev pub create_call : List ℕ → Affinity → ℕ → List ℕ → CreateMode → Caller → Moment → VolumeCall
create_call handle node fileid name mode caller moment = record {
  call = Create handle name mode;
  caller = unasked;
  node = node;
  fileid = fileid;
  run = λ volume. on_name name moment (create mode caller) volume fileid;
}

abbrev pub mkdir_call : List ℕ → Affinity → ℕ → List ℕ → SetAttributes → Caller → Moment → VolumeCall
mkdir_call handle node fileid name set caller moment = record {
  call = Mkdir handle name set;
  caller = unasked;
  node = node;
  fileid = fileid;
  run = λ volume. on_name name moment (mkdir set caller) volume fileid;
}

abbrev pub symlink_call : List ℕ → Affinity → ℕ → List ℕ → SetAttributes → List ℕ → Caller → Moment → VolumeCall
symlink_call handle node fileid name set text caller moment = record {
  call = Symlink handle name set text;
  caller = unasked;
  node = node;
  fileid = fileid;
  run = λ volume. on_name name moment (symlink set text caller) volume fileid;
}

abbrev pub mknod_call : List ℕ → Affinity → ℕ → List ℕ → Kind → SetAttributes → Caller → Moment → VolumeCall
mknod_call handle node fileid name kind set caller moment = record {
  call = Mknod handle name kind set;
  caller = unasked;
  node = node;
  fileid = fileid;
  run = λ volume. on_name name moment (mknod kind set caller) volume fileid;
}

abbrev pub remove_call : List ℕ → Affinity → ℕ → List ℕ → Moment → VolumeCall
remove_call handle node fileid name moment =
    record { call = Remove handle name; caller = unasked; node = node; fileid = fileid; run = λ volume. on_name name moment remove_name volume fileid }

abbrev pub rmdir_call : List ℕ → Affinity → ℕ → List ℕ → Moment → VolumeCall
rmdir_call handle node fileid name moment =
    record { call = Rmdir handle name; caller = unasked; node = node; fileid = fileid; run = λ volume. on_name name moment rmdir volume fileid }

-- from's handle comes to the volume; to's names another fileid there, or the same
abbrev pub rename_call : List ℕ → List ℕ → Affinity → ℕ → List ℕ → ℕ → List ℕ → Moment → VolumeCall
rename_call from to node from_id from_name to_id to_name moment = record {
  call = Rename from from_name to to_name;
  caller = unasked;
  node = node;
  fileid = from_id;
  run = λ volume. rename from_name to_name moment volume from_id to_id;
}

-- the node's handle comes to the volume; the directory's names another fileid there
abbrev pub link_call : List ℕ → List ℕ → Affinity → ℕ → ℕ → List ℕ → Moment → VolumeCall
link_call handle directory node fileid directory_id name moment = record {
  call = Link handle directory name;
  caller = unasked;
  node = node;
  fileid = fileid;
  run = λ volume. link name moment volume fileid directory_id;
}

-- ---- what they come to

abbrev pub create_done : ℕ → ℕ → List ℕ → CreateMode → Caller → Moment → LogicalSet → LogicalAnswer
create_done v fileid name mode caller moment s = on_held_name v fileid name moment (held_create mode caller) s

abbrev pub mkdir_done : ℕ → ℕ → List ℕ → SetAttributes → Caller → Moment → LogicalSet → LogicalAnswer
mkdir_done v fileid name set caller moment s = on_held_name v fileid name moment (held_mkdir set caller) s

abbrev pub symlink_done : ℕ → ℕ → List ℕ → SetAttributes → List ℕ → Caller → Moment → LogicalSet → LogicalAnswer
symlink_done v fileid name set text caller moment s = on_held_name v fileid name moment (held_symlink set text caller) s

abbrev pub mknod_done : ℕ → ℕ → List ℕ → Kind → SetAttributes → Caller → Moment → LogicalSet → LogicalAnswer
mknod_done v fileid name kind set caller moment s = on_held_name v fileid name moment (held_mknod kind set caller) s

abbrev pub remove_done : ℕ → ℕ → List ℕ → Moment → LogicalSet → LogicalAnswer
remove_done v fileid name moment s = on_held_name v fileid name moment held_remove s

abbrev pub rmdir_done : ℕ → ℕ → List ℕ → Moment → LogicalSet → LogicalAnswer
rmdir_done v fileid name moment s = on_held_name v fileid name moment held_rmdir s

abbrev pub rename_done : ℕ → ℕ → List ℕ → ℕ → List ℕ → Moment → LogicalSet → LogicalAnswer
rename_done v from_id from_name to_id to_name moment s = on_held_names v from_id from_name to_id to_name moment held_rename s

-- ---- Whatever the rest of the volume is, the answer and what is left under Logical are the serial server's.

-- so of a call that comes to this
abbrev pub IsDone : ℕ → VolumeCall → LogicalSet → LogicalAnswer → Type 0
IsDone v c s done = RightOnVolume v logical_lens (ServesOn c false) [] [] s (Replied (Success done.answer)) done.set

abbrev pub SetattrIsDone : Type 0
SetattrIsDone = (v fileid : ℕ) (handle : List ℕ) (node : Affinity) (set : SetAttributes) (guard : Option Moment) (caller : Caller) (moment : Moment)
    (s : LogicalSet) → IsDone v (setattr_call handle node fileid set guard caller moment) s (held_setattr v fileid set guard caller moment s)

abbrev pub CreateIsDone : Type 0
CreateIsDone = (v fileid : ℕ) (handle name : List ℕ) (node : Affinity) (mode : CreateMode) (caller : Caller) (moment : Moment) (s : LogicalSet)
    → IsDone v (create_call handle node fileid name mode caller moment) s (create_done v fileid name mode caller moment s)

abbrev pub MkdirIsDone : Type 0
MkdirIsDone = (v fileid : ℕ) (handle name : List ℕ) (node : Affinity) (set : SetAttributes) (caller : Caller) (moment : Moment) (s : LogicalSet)
    → IsDone v (mkdir_call handle node fileid name set caller moment) s (mkdir_done v fileid name set caller moment s)

abbrev pub SymlinkIsDone : Type 0
SymlinkIsDone = (v fileid : ℕ) (handle name : List ℕ) (node : Affinity) (set : SetAttributes) (text : List ℕ) (caller : Caller) (moment : Moment)
    (s : LogicalSet) → IsDone v (symlink_call handle node fileid name set text caller moment) s (symlink_done v fileid name set text caller moment s)

abbrev pub MknodIsDone : Type 0
MknodIsDone = (v fileid : ℕ) (handle name : List ℕ) (node : Affinity) (kind : Kind) (set : SetAttributes) (caller : Caller) (moment : Moment)
    (s : LogicalSet) → IsDone v (mknod_call handle node fileid name kind set caller moment) s (mknod_done v fileid name kind set caller moment s)

abbrev pub RemoveIsDone : Type 0
RemoveIsDone = (v fileid : ℕ) (handle name : List ℕ) (node : Affinity) (moment : Moment) (s : LogicalSet)
    → IsDone v (remove_call handle node fileid name moment) s (remove_done v fileid name moment s)

abbrev pub RmdirIsDone : Type 0
RmdirIsDone = (v fileid : ℕ) (handle name : List ℕ) (node : Affinity) (moment : Moment) (s : LogicalSet)
    → IsDone v (rmdir_call handle node fileid name moment) s (rmdir_done v fileid name moment s)

abbrev pub RenameIsDone : Type 0
RenameIsDone = (v from_id to_id : ℕ) (from from_name to to_name : List ℕ) (node : Affinity) (moment : Moment) (s : LogicalSet)
    → IsDone v (rename_call from to node from_id from_name to_id to_name moment) s (rename_done v from_id from_name to_id to_name moment s)

abbrev pub LinkIsDone : Type 0
LinkIsDone = (v fileid directory_id : ℕ) (handle directory name : List ℕ) (node : Affinity) (moment : Moment) (s : LogicalSet)
    → IsDone v (link_call handle directory node fileid directory_id name moment) s (link_done v fileid directory_id name moment s)

-- ---- memory may run out where a node would be made, or would come under another name

abbrev pub MayStarve : ℕ → VolumeCall → LogicalSet → Type 0
MayStarve v c s = RightOnVolume v logical_lens (WorksOn c) [] [] s Starved s

abbrev pub CreateMayStarve : Type 0
CreateMayStarve = (v fileid : ℕ) (handle name : List ℕ) (node : Affinity) (mode : CreateMode) (caller : Caller) (moment : Moment) (s : LogicalSet)
    (made : List ℕ) (object : Shown) (directory : Wcc)
    → (create_done v fileid name mode caller moment s).answer ≡ MadeDone made object directory → fileid_found (entries_of s.own fileid) name ≡ None
    → MayStarve v (create_call handle node fileid name mode caller moment) s

abbrev pub MkdirMayStarve : Type 0
MkdirMayStarve = (v fileid : ℕ) (handle name : List ℕ) (node : Affinity) (set : SetAttributes) (caller : Caller) (moment : Moment) (s : LogicalSet)
    (made : List ℕ) (object : Shown) (directory : Wcc)
    → (mkdir_done v fileid name set caller moment s).answer ≡ MadeDone made object directory
    → MayStarve v (mkdir_call handle node fileid name set caller moment) s

abbrev pub SymlinkMayStarve : Type 0
SymlinkMayStarve = (v fileid : ℕ) (handle name : List ℕ) (node : Affinity) (set : SetAttributes) (text : List ℕ) (caller : Caller) (moment : Moment)
    (s : LogicalSet) (made : List ℕ) (object : Shown) (directory : Wcc)
    → (symlink_done v fileid name set text caller moment s).answer ≡ MadeDone made object directory
    → MayStarve v (symlink_call handle node fileid name set text caller moment) s

abbrev pub MknodMayStarve : Type 0
MknodMayStarve = (v fileid : ℕ) (handle name : List ℕ) (node : Affinity) (kind : Kind) (set : SetAttributes) (caller : Caller) (moment : Moment)
    (s : LogicalSet) (made : List ℕ) (object : Shown) (directory : Wcc)
    → (mknod_done v fileid name kind set caller moment s).answer ≡ MadeDone made object directory
    → MayStarve v (mknod_call handle node fileid name kind set caller moment) s

abbrev pub LinkMayStarve : Type 0
LinkMayStarve = (v fileid directory_id : ℕ) (handle directory name : List ℕ) (node : Affinity) (moment : Moment) (s : LogicalSet)
    (object : Shown) (change : Wcc) → (link_done v fileid directory_id name moment s).answer ≡ LinkDone object change
    → MayStarve v (link_call handle directory node fileid directory_id name moment) s

-- where to's handle names that fileid there, and the names aren't of one node
abbrev pub RenameMayStarve : Type 0
RenameMayStarve = (v from_id to_id volumes : ℕ) (from from_name to to_name : List ℕ) (node : Affinity) (moment : Moment) (s : LogicalSet)
    (from_change to_change : Wcc)
    → handle_of volumes to ≡ Some (record { volume = v; fileid = to_id })
    → are_one (fileid_found (entries_of s.own from_id) from_name) (fileid_found (entries_of s.own to_id) to_name) ≡ false
    → (rename_done v from_id from_name to_id to_name moment s).answer ≡ RenameDone from_change to_change
    → MayStarve v (rename_call from to node from_id from_name to_id to_name moment) s
