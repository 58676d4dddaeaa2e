-- What calls on names come to, by what is under Logical (RFC 1813 sections 3.3.3, 3.3.4, 3.3.5, 3.3.16, 3.3.17, 3.3.19, 3.3.20 and 3.3.21; MNT
-- below a root, its appendix I).
use Rattle.std.specs.Prelude.{◌≡◌, ℕ, Bool, false, List, []}
use Rattle.nfs_model.specs.Types.{Moment, Caller, Listed, ListedPlus, Shown, Lookup, CheckAccess, Readlink, Readdir, Readdirplus, Fsinfo, Pathconf}
use Rattle.nfs_model.specs.Types.{Commit, MountBelow, ReadlinkDone, ReaddirDone, ReaddirplusDone, Success}
use Rattle.nfs_model.specs.Tree.{Affinity}
use Rattle.nfs_model.specs.Locate.{on_name}
use Rattle.nfs_model.specs.Serial.Lookup.{lookup}
use Rattle.nfs_model.specs.Serial.Readlink.{readlink}
use Rattle.nfs_model.specs.Serial.Readdir.{readdir}
use Rattle.nfs_model.specs.Serial.Readdirplus.{readdirplus}
use Rattle.nfs_model.specs.Serial.Access.{access}
use Rattle.nfs_model.specs.Serial.Fsinfo.{fsinfo}
use Rattle.nfs_model.specs.Serial.Pathconf.{pathconf}
use Rattle.nfs_model.specs.Serial.Commit.{commit}
use Rattle.nfs_model.specs.Serial.Mount.{parts_below}
use Rattle.nfs_model.specs.Serial.MountBelow.{mount_below}
use Rattle.filer_state.specs.state.Jobs.{Replied}
use Rattle.filer_state.specs.state.Lenses.{LogicalSet, logical_lens}
use Rattle.filer_state.specs.state.Promises.{RightOnVolume}
use Rattle.nfs_model.specs.Work.{Starved}
use Rattle.filer_state.specs.state.Calls.{VolumeCall, ServesOn, WorksOn, unasked}
use Rattle.filer_state.specs.names.Answers.{lookup_answer, readdir_answer, readdirplus_answer, commit_answer, access_answer, fsinfo_answer, pathconf_answer}
use Rattle.filer_state.specs.names.Answers.{mount_answer, readlink_answer}

abbrev pub lookup_call : List ℕ → Affinity → ℕ → List ℕ → Moment → VolumeCall
lookup_call handle node fileid name moment =
    record { call = Lookup handle name; caller = unasked; node = node; fileid = fileid; run = λ volume. on_name name moment lookup volume fileid }

abbrev pub readlink_call : List ℕ → Affinity → ℕ → VolumeCall
readlink_call handle node fileid = record { call = Readlink handle; caller = unasked; node = node; fileid = fileid; run = λ volume. readlink volume fileid }

abbrev pub readdir_call : List ℕ → Affinity → ℕ → ℕ → List ℕ → ℕ → VolumeCall
readdir_call handle node fileid cookie verifier count = record {
  call = Readdir handle cookie verifier count;
  caller = unasked;
  node = node;
  fileid = fileid;
  run = λ volume. readdir cookie verifier count volume fileid;
}

abbrev pub readdirplus_call : List ℕ → Affinity → ℕ → ℕ → List ℕ → ℕ → ℕ → Caller → VolumeCall
readdirplus_call handle node fileid cookie verifier names_count count caller = record {
  call = Readdirplus handle cookie verifier names_count count;
  caller = unasked;
  node = node;
  fileid = fileid;
  run = λ volume. readdirplus cookie verifier names_count count caller volume fileid;
}

abbrev pub commit_call : List ℕ → Affinity → ℕ → VolumeCall
commit_call handle node fileid = record { call = Commit handle; caller = unasked; node = node; fileid = fileid; run = λ volume. commit volume fileid }

abbrev pub access_call : List ℕ → Affinity → ℕ → ℕ → Caller → VolumeCall
access_call handle node fileid asked caller =
    record { call = CheckAccess handle asked; caller = unasked; node = node; fileid = fileid; run = λ volume. access asked caller volume fileid }

abbrev pub fsinfo_call : List ℕ → Affinity → ℕ → VolumeCall
fsinfo_call handle node fileid = record { call = Fsinfo handle; caller = unasked; node = node; fileid = fileid; run = λ volume. fsinfo volume fileid }

abbrev pub pathconf_call : List ℕ → Affinity → ℕ → Caller → VolumeCall
pathconf_call handle node fileid caller = record { call = Pathconf handle; caller = unasked; node = node; fileid = fileid; run = λ volume. pathconf caller volume fileid }

abbrev pub mount_call : List ℕ → Affinity → ℕ → List ℕ → Caller → VolumeCall
mount_call root node fileid path caller =
    record { call = MountBelow root path; caller = unasked; node = node; fileid = fileid; run = λ volume. mount_below (parts_below path) caller volume fileid }

-- Whatever the rest of the volume is: the answer told by inodes, entries and touches is the serial server's, and nothing changes.
abbrev pub LookupIsRight : Type 0
LookupIsRight = (v fileid : ℕ) (handle name : List ℕ) (node : Affinity) (moment : Moment) (set : LogicalSet)
    → RightOnVolume v logical_lens (ServesOn (lookup_call handle node fileid name moment) false) [] [] set
    (Replied (Success (lookup_answer v fileid name set))) set

abbrev pub ReadlinkIsRight : Type 0
ReadlinkIsRight = (v fileid : ℕ) (handle : List ℕ) (node : Affinity) (set : LogicalSet)
    → RightOnVolume v logical_lens (ServesOn (readlink_call handle node fileid) false) [] [] set
    (Replied (Success (readlink_answer v fileid set))) set

-- where it would tell a text, memory may run out
abbrev pub ReadlinkMayStarve : Type 0
ReadlinkMayStarve = (v fileid : ℕ) (handle : List ℕ) (node : Affinity) (set : LogicalSet) (object : Shown) (text : List ℕ)
    → readlink_answer v fileid set ≡ ReadlinkDone object text
    → RightOnVolume v logical_lens (WorksOn (readlink_call handle node fileid)) [] [] set Starved set

abbrev pub ReaddirIsRight : Type 0
ReaddirIsRight = (v fileid : ℕ) (handle : List ℕ) (node : Affinity) (cookie : ℕ) (verifier : List ℕ) (count : ℕ) (set : LogicalSet)
    → RightOnVolume v logical_lens (ServesOn (readdir_call handle node fileid cookie verifier count) false) [] [] set
    (Replied (Success (readdir_answer v fileid cookie verifier count set))) set

-- where it would list, memory may run out
abbrev pub ReaddirMayStarve : Type 0
ReaddirMayStarve = (v fileid : ℕ) (handle : List ℕ) (node : Affinity) (cookie : ℕ) (verifier : List ℕ) (count : ℕ) (set : LogicalSet)
    (directory : Shown) (page : List Listed) (eof : Bool) → readdir_answer v fileid cookie verifier count set ≡ ReaddirDone directory page eof
    → RightOnVolume v logical_lens (WorksOn (readdir_call handle node fileid cookie verifier count)) [] [] set Starved set

abbrev pub ReaddirplusIsRight : Type 0
ReaddirplusIsRight = (v fileid : ℕ) (handle : List ℕ) (node : Affinity) (cookie : ℕ) (verifier : List ℕ) (names_count count : ℕ) (caller : Caller)
    (set : LogicalSet)
    → RightOnVolume v logical_lens (ServesOn (readdirplus_call handle node fileid cookie verifier names_count count caller) false) [] [] set
    (Replied (Success (readdirplus_answer v fileid cookie verifier names_count count caller set))) set

abbrev pub ReaddirplusMayStarve : Type 0
ReaddirplusMayStarve = (v fileid : ℕ) (handle : List ℕ) (node : Affinity) (cookie : ℕ) (verifier : List ℕ) (names_count count : ℕ) (caller : Caller)
    (set : LogicalSet) (directory : Shown) (page : List ListedPlus) (eof : Bool)
    → readdirplus_answer v fileid cookie verifier names_count count caller set ≡ ReaddirplusDone directory page eof
    → RightOnVolume v logical_lens (WorksOn (readdirplus_call handle node fileid cookie verifier names_count count caller)) [] [] set Starved set

abbrev pub CommitIsRight : Type 0
CommitIsRight = (v fileid : ℕ) (handle : List ℕ) (node : Affinity) (set : LogicalSet)
    → RightOnVolume v logical_lens (ServesOn (commit_call handle node fileid) false) [] [] set
    (Replied (Success (commit_answer v fileid set))) set

abbrev pub AccessIsRight : Type 0
AccessIsRight = (v fileid : ℕ) (handle : List ℕ) (node : Affinity) (asked : ℕ) (caller : Caller) (set : LogicalSet)
    → RightOnVolume v logical_lens (ServesOn (access_call handle node fileid asked caller) false) [] [] set
    (Replied (Success (access_answer v fileid asked caller set))) set

abbrev pub FsinfoIsRight : Type 0
FsinfoIsRight = (v fileid : ℕ) (handle : List ℕ) (node : Affinity) (set : LogicalSet)
    → RightOnVolume v logical_lens (ServesOn (fsinfo_call handle node fileid) false) [] [] set
    (Replied (Success (fsinfo_answer v fileid set))) set

abbrev pub PathconfIsRight : Type 0
PathconfIsRight = (v fileid : ℕ) (handle : List ℕ) (node : Affinity) (caller : Caller) (set : LogicalSet)
    → RightOnVolume v logical_lens (ServesOn (pathconf_call handle node fileid caller) false) [] [] set
    (Replied (Success (pathconf_answer v fileid caller set))) set

abbrev pub MountIsRight : Type 0
MountIsRight = (v fileid : ℕ) (root path : List ℕ) (node : Affinity) (caller : Caller) (set : LogicalSet)
    → RightOnVolume v logical_lens (ServesOn (mount_call root node fileid path caller) false) [] [] set
    (Replied (Success (mount_answer v (parts_below path) caller set fileid))) set
