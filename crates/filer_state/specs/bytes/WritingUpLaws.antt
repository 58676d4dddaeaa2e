-- What WRITE comes to by what is under Volume Logical, and by what is under Volume (RFC 1813 section 3.3.7).
use Rattle.std.specs.Prelude.{◌≡◌, ℕ, suc, false, nat_lt, ◌+◌, ◌<◌, List, length, Ok}
use Rattle.std.specs.FinMap.{get}
use Rattle.std.specs.FinSet.{len}
use Rattle.nfs_model.specs.Tree.{Volume, Logical}
use Rattle.nfs_model.specs.Serial.Write.{Writing}
use Rattle.nfs_model.specs.Work.{Outcome, Starved}
use Rattle.filer_state.specs.state.Lenses.{LogicalSet, VolumeSet, logical_lens, volume_lens}
use Rattle.filer_state.specs.state.Running.{RunsOn}
use Rattle.filer_state.specs.bytes.WritingLaws.{write_call}
use Rattle.filer_state.specs.bytes.WritingUp.{LogicalWrites, VolumeWrites, bytes_due, holes_of, for_holes, all_blocks}

-- ---- Whatever the rest of the volume is: a reply is the serial server's, so is the volume that is left, blocks moved as the profile
-- says, and it moves exactly when the model says.

abbrev pub LogicalWriteIsRight : Type 0
LogicalWriteIsRight = (v fileid : ℕ) (handle : List ℕ) (w : Writing) (old new : LogicalSet) (outcome : Outcome)
    → LogicalWrites v fileid w old outcome new → RunsOn v logical_lens (write_call handle (Logical v) fileid w) old outcome new

abbrev pub VolumeWriteIsRight : Type 0
VolumeWriteIsRight = (v fileid : ℕ) (handle : List ℕ) (w : Writing) (old new : VolumeSet) (outcome : Outcome)
    → VolumeWrites v fileid w old outcome new → RunsOn v volume_lens (write_call handle (Volume v) fileid w) old outcome new

-- ---- where a hole would be filled, memory may run out

abbrev pub LogicalWriteMayStarve : Type 0
LogicalWriteMayStarve = (v fileid n : ℕ) (handle : List ℕ) (w : Writing) (s : LogicalSet)
    → bytes_due (get s.own.inodes.inodes fileid) s.own.largest w ≡ Ok (suc n)
    → nat_lt (len s.own.stock) (length (holes_of fileid w s)) ≡ false
    → 0 < length (holes_of fileid w s)
    → RunsOn v logical_lens (write_call handle (Logical v) fileid w) s Starved s

abbrev pub VolumeWriteMayStarve : Type 0
VolumeWriteMayStarve = (v fileid n : ℕ) (handle : List ℕ) (w : Writing) (s : VolumeSet)
    → bytes_due (get s.logical.own.inodes.inodes fileid) s.logical.own.largest w ≡ Ok (suc n)
    → nat_lt (all_blocks s) (s.logical.own.inodes.used + length (holes_of fileid w s.logical)) ≡ false
    → nat_lt (for_holes s) (length (holes_of fileid w s.logical)) ≡ false
    → 0 < length (holes_of fileid w s.logical)
    → RunsOn v volume_lens (write_call handle (Volume v) fileid w) s Starved s
