-- What WRITE promises on all parcels of a volume, and what comes of it step by step (RFC 1813 section 3.3.7; moves, and where blocks come
-- from, are our profile).
use Rattle.std.specs.Prelude.{◌≡◌, ℕ, suc, ◌+◌, ◌<◌, Bool, true, false, nat_lt, List, [], length, Option, Result, Ok, Err}
use Rattle.std.specs.FinMap.{get}
use Rattle.std.specs.declared.alloc.AllocError.{AllocError}
use Rattle.nfs_model.specs.Types.{Moment}
use Rattle.nfs_model.specs.Tree.{Volume}
use Rattle.nfs_model.specs.Serial.Write.{Writing, bytes_kept}
use Rattle.nfs_values.specs.declared.answer.WriteResults.{WriteResults}
use Rattle.nfs_values.specs.declared.status.Status.{Status}
use Rattle.filer_state.specs.state.Lenses.{VolumeSet, volume_lens}
use Rattle.filer_state.specs.state.Promises.{HasVolume}
use Rattle.filer_state.specs.state.Running.{RunsOn}
use Rattle.filer_state.specs.bytes.Extending.{holes, file_extended}
use Rattle.filer_state.specs.bytes.Permitted.{write_by}
use Rattle.filer_state.specs.bytes.WritingUp.{LeaveParts, VolumeWrites, all_blocks, bytes_due, for_holes}
use Rattle.service_data.specs.Holes.{extending_by}
use Rattle.service_data.specs.Writing.{written_outcome}
use Rattle.service_data.specs.declared.extension.Extension.{Extension}
use Rattle.service_data.specs.declared.extension.Extension.TheVariants.{Written, NoSpace, Short}

-- ---- what is promised

-- some sound volume has this under Volume
abbrev pub IsVolumeHeld : VolumeSet → Type 0
IsVolumeHeld set = (v : ℕ) × HasVolume v volume_lens [] set

-- A run of WRITE of a fileid by what is under Volume is right: by whatever handle, and whatever the rest of the volume is.
abbrev pub WritesInVolume : ℕ → Writing → VolumeSet → Result (Option (Result WriteResults Status)) AllocError → VolumeSet → Type 0
WritesInVolume fileid w old result new = (v : ℕ) (handle : List ℕ)
    → RunsOn v volume_lens (write_by handle (Volume v) fileid w) old (written_outcome v result) new

-- ---- what comes of it

-- how many holes of a file bytes meet that are to be written at an offset
abbrev pub hole_count : ℕ → ℕ → List ℕ → VolumeSet → ℕ
hole_count fileid offset written set = length (holes set.logical.stripes fileid offset (length written))

-- files and these holes are more than all blocks
abbrev pub lacks_space : ℕ → ℕ → List ℕ → VolumeSet → Bool
lacks_space fileid offset written set = nat_lt (all_blocks set) (set.logical.own.inodes.used + hole_count fileid offset written set)

-- too few blocks for them are outside of hands
abbrev pub lacks_numbers : ℕ → ℕ → List ℕ → VolumeSet → Bool
lacks_numbers fileid offset written set = nat_lt (for_holes set) (hole_count fileid offset written set)

-- a file is extended, its holes filled from the parts of the volume
pub record ExtendsFromParts (fileid offset : ℕ) (written : List ℕ) (moment : Moment) (old new : VolumeSet) : Type 0 where
  pub numbers : List ℕ
  pub left : VolumeSet
  pub as_many : length numbers ≡ hole_count fileid offset written old
  pub leave : LeaveParts numbers old left
  pub set : new ≡ record left { logical = file_extended (extending_by fileid offset written moment numbers) left.logical }

-- what it comes to: done, no space, too few blocks outside of hands, or memory ran out
abbrev pub ExtendsInVolume : ℕ → ℕ → List ℕ → Moment → VolumeSet → Result Extension AllocError → VolumeSet → Type 0
ExtendsInVolume fileid offset written moment old (Ok Written) new =
    (lacks_space fileid offset written old ≡ false) × (lacks_numbers fileid offset written old ≡ false)
    × ExtendsFromParts fileid offset written moment old new
ExtendsInVolume fileid offset written moment old (Ok NoSpace) new = (lacks_space fileid offset written old ≡ true) × (new ≡ old)
ExtendsInVolume fileid offset written moment old (Ok Short) new =
    (lacks_space fileid offset written old ≡ false) × (lacks_numbers fileid offset written old ≡ true) × (new ≡ old)
ExtendsInVolume fileid offset written moment old (Err e) new =
    (lacks_space fileid offset written old ≡ false) × (lacks_numbers fileid offset written old ≡ false)
    × (0 < hole_count fileid offset written old) × (new ≡ old)

-- Bytes are due, there is space, there are blocks for all holes, and there is one: memory may run out.
pub record MayStarveInVolume (fileid : ℕ) (w : Writing) (s : VolumeSet) : Type 0 where
  pub more : ℕ
  pub due : bytes_due (get s.logical.own.inodes.inodes fileid) s.logical.own.largest w ≡ Ok (suc more)
  pub space : lacks_space fileid w.offset (bytes_kept w) s ≡ false
  pub enough : lacks_numbers fileid w.offset (bytes_kept w) s ≡ false
  pub some : 0 < hole_count fileid w.offset (bytes_kept w) s

-- what has happened, by the definitions, where nothing is asked of the caller: on the volume of any number, where memory didn't run out
abbrev pub DoneInVolume : ℕ → Writing → VolumeSet → Result (Option (Result WriteResults Status)) AllocError → VolumeSet → Type 0
DoneInVolume fileid w old (Ok told) new = (v : ℕ) → VolumeWrites v fileid w old (written_outcome v (Ok told)) new
DoneInVolume fileid w old (Err e) new = MayStarveInVolume fileid w old × (new ≡ old)
