-- What calls on attributes come to, by what is under Logical (RFC 1813 sections 3.3.1 and 3.3.2).
use Rattle.std.specs.Prelude.{ℕ, false, List, [], Option}
use Rattle.std.specs.FinMap.{get}
use Rattle.nfs_model.specs.Types.{Moment, Caller, SetAttributes, Getattr, Setattr, Success}
use Rattle.nfs_model.specs.Tree.{Affinity}
use Rattle.nfs_model.specs.Serial.Getattr.{getattr}
use Rattle.nfs_model.specs.Serial.Setattr.{setattr}
use Rattle.filer_state.specs.state.Tree.{file_touch}
use Rattle.filer_state.specs.state.Jobs.{Replied}
use Rattle.filer_state.specs.state.Lenses.{LogicalSet, logical_lens}
use Rattle.filer_state.specs.state.Promises.{RightOnVolume}
use Rattle.filer_state.specs.state.Calls.{VolumeCall, ServesOn, unasked}
use Rattle.filer_state.specs.state.Changes.{getattr_answer}

abbrev pub getattr_call : List ℕ → Affinity → ℕ → VolumeCall
getattr_call handle node fileid = record { call = Getattr handle; caller = unasked; node = node; fileid = fileid; run = λ volume. getattr volume fileid }

abbrev pub setattr_call : List ℕ → Affinity → ℕ → SetAttributes → Option Moment → Caller → Moment → VolumeCall
setattr_call handle node fileid set guard caller moment =
    record { call = Setattr handle set guard; caller = unasked; node = node; fileid = fileid; run = λ volume. setattr set guard caller moment volume fileid }

-- whatever the rest of the volume is: the answer told by the inode and the touch is the serial server's, and nothing changes
abbrev pub GetattrIsRight : Type 0
GetattrIsRight = (v fileid : ℕ) (handle : List ℕ) (node : Affinity) (set : LogicalSet)
    → RightOnVolume v logical_lens (ServesOn (getattr_call handle node fileid) false) [] [] set
    (Replied (Success (getattr_answer v fileid (get set.own.inodes.inodes fileid) (file_touch set.stripes fileid)))) set
