-- What WRITE comes to by what is under Volume Logical, and by what is under Volume (RFC 1813 section 3.3.7; moves, and where blocks come
-- from, are our profile).
use Rattle.std.specs.Prelude.{◌≡◌, ℕ, zero, suc, ◌+◌, ◌*◌, ◌<◌, Bool, true, false, not, ◌==◌, nat_lt, List, [], ◌∷◌, length, Option, Some, None}
use Rattle.std.specs.Prelude.{Result, Ok, Err, ◌⊎◌, slice_set, if◌then◌else◌}
use Rattle.std.specs.Ordering.{nat_cmp}
use Rattle.std.specs.FinMap.{get}
use Rattle.std.specs.FinSet as sets
use Rattle.std.specs.FinSet.{FinSet, contains, len}
use Rattle.nfs_model.specs.Types.{Status, Stale, Invalid, TooBig, NoSpace, Answer, WriteDone, Failed, Success}
use Rattle.nfs_model.specs.Tree.{Volume}
use Rattle.nfs_model.specs.Serial.Write.{Writing, bytes_kept}
use Rattle.nfs_model.specs.Work.{Outcome, Replied, Moved}
use Rattle.depot_rule.specs.Sums.{total}
use Rattle.nfs_model.specs.volume.Inodes.{InodeKind, RegularFile, Inode}
use Rattle.nfs_model.specs.volume.Ranges.{RangeValue, taken, without_numbers, dead_taken}
use Rattle.filer_state.specs.state.Tree.{ranges_used}
use Rattle.filer_state.specs.state.WellFormed.{range_at}
use Rattle.filer_state.specs.state.Lenses.{LogicalSet, VolumeSet}
use Rattle.filer_state.specs.bytes.Extending.{Extending, holes, file_extended}

-- ---- how many bytes are to be written

-- to a file: INVAL for a count that isn't the data's length; none for a count of 0; FBIG
abbrev pub file_due : ℕ → Writing → Result ℕ Status
file_due largest w =
    if not (w.count == length w.written) then Err Invalid
    else if w.count == 0 then Ok 0
    else if nat_lt largest (w.offset + length (bytes_kept w)) then Err TooBig
    else Ok (length (bytes_kept w))

-- INVAL for a directory
abbrev pub kind_due : InodeKind → ℕ → Writing → Result ℕ Status
kind_due (RegularFile size filled verifier) largest w = file_due largest w
kind_due kind largest w = Err Invalid

-- STALE where there is no inode
abbrev pub bytes_due : Option Inode → ℕ → Writing → Result ℕ Status
bytes_due None largest w = Err Stale
bytes_due (Some inode) largest w = kind_due inode.kind largest w

-- ---- what it comes to

-- an answer, and nothing changed
abbrev pub TellsOutcome : {S : Type 0} → Answer → S → Outcome → S → Type 0
TellsOutcome answer old outcome new = (outcome ≡ Replied (Success answer)) × (new ≡ old)

-- a move to Volume, and nothing changed
abbrev pub MovesUp : {S : Type 0} → ℕ → S → Outcome → S → Type 0
MovesUp v old outcome new = (outcome ≡ Moved (Volume v)) × (new ≡ old)

-- what is written, with the numbers for its holes
abbrev pub extending : ℕ → Writing → List ℕ → Extending
extending fileid w numbers = record { fileid = fileid; offset = w.offset; written = bytes_kept w; moment = w.moment; numbers = numbers }

-- the holes that it meets
abbrev pub holes_of : ℕ → Writing → LogicalSet → List ℕ
holes_of fileid w set = holes set.stripes fileid w.offset (length (bytes_kept w))

-- ---- by what is under Logical

-- numbers leave a set one after another
abbrev pub Leave : List ℕ → FinSet nat_cmp → FinSet nat_cmp → Type 0
Leave [] old new = new ≡ old
Leave (n ∷ numbers) old new = (contains old n ≡ true) × Leave numbers (without_numbers (n ∷ []) old) new

-- another stock
abbrev pub with_stock : FinSet nat_cmp → LogicalSet → LogicalSet
with_stock stock set = record set { own = record set.own { stock = stock } }

-- written, its holes filled from the stock
pub record WrittenFromStock (fileid : ℕ) (w : Writing) (old : LogicalSet) (outcome : Outcome) (new : LogicalSet) : Type 0 where
  pub numbers : List ℕ
  pub stock : FinSet nat_cmp
  pub as_many : length numbers ≡ length (holes_of fileid w old)
  pub leave : Leave numbers old.own.stock stock
  pub replied : outcome ≡ Replied (Success (WriteDone (length (bytes_kept w)) old.own.verifier))
  pub written : new ≡ file_extended (extending fileid w numbers) (with_stock stock old)

-- it moves where the stock is short
abbrev pub WrittenWhereEnough : Bool → ℕ → ℕ → Writing → LogicalSet → Outcome → LogicalSet → Type 0
WrittenWhereEnough true v fileid w old outcome new = MovesUp v old outcome new
WrittenWhereEnough false v fileid w old outcome new = WrittenFromStock fileid w old outcome new

abbrev pub DueInLogical : Result ℕ Status → ℕ → ℕ → Writing → LogicalSet → Outcome → LogicalSet → Type 0
DueInLogical (Err status) v fileid w old outcome new = TellsOutcome (Failed status 2) old outcome new
DueInLogical (Ok zero) v fileid w old outcome new = TellsOutcome (WriteDone 0 old.own.verifier) old outcome new
DueInLogical (Ok (suc n)) v fileid w old outcome new =
    WrittenWhereEnough (nat_lt (len old.own.stock) (length (holes_of fileid w old))) v fileid w old outcome new

-- WRITE on the volume of a number
abbrev pub LogicalWrites : ℕ → ℕ → Writing → LogicalSet → Outcome → LogicalSet → Type 0
LogicalWrites v fileid w old outcome new =
    DueInLogical (bytes_due (get old.own.inodes.inodes fileid) old.own.largest w) v fileid w old outcome new

-- ---- by what is under Volume

-- a number leaves the stock
pub record LeavesStock (n : ℕ) (old new : VolumeSet) : Type 0 where
  pub there : contains old.logical.own.stock n ≡ true
  pub left : new ≡ record old { logical = with_stock (without_numbers (n ∷ []) old.logical.own.stock) old.logical }

-- it leaves the bitmap of a range, since the stock is empty
pub record LeavesRange (n : ℕ) (old new : VolumeSet) : Type 0 where
  pub no_stock : old.logical.own.stock ≡ sets.empty
  pub range : ℕ
  pub within : range < length old.ranges
  pub there : contains (range_at old.ranges range).free n ≡ true
  pub left : new ≡ record old { ranges = slice_set old.ranges range (taken (n ∷ []) (range_at old.ranges range)) }

-- it leaves the dead, since the stock is empty and nothing is free
pub record LeavesDead (n : ℕ) (old new : VolumeSet) : Type 0 where
  pub no_stock : old.logical.own.stock ≡ sets.empty
  pub none_free : (range : ℕ) → range < length old.ranges → (range_at old.ranges range).free ≡ sets.empty
  pub there : contains old.logical.own.dead.blocks n ≡ true
  pub left : new
      ≡ record old { logical = record old.logical { own = record old.logical.own { dead = dead_taken (n ∷ []) old.logical.own.dead } } }

-- numbers leave one after another: those of the stock first, then the free, then the dead
abbrev pub LeaveParts : List ℕ → VolumeSet → VolumeSet → Type 0
LeaveParts [] old new = new ≡ old
LeaveParts (n ∷ numbers) old new =
    (next : VolumeSet) × (LeavesStock n old next ⊎ (LeavesRange n old next ⊎ LeavesDead n old next)) × LeaveParts numbers next new

-- how many blocks are free
abbrev pub free_count : List RangeValue → ℕ
free_count ranges = total (λ (r : RangeValue). len r.free) ranges

-- how many blocks there are for holes; the others are in files, or in hands
abbrev pub for_holes : VolumeSet → ℕ
for_holes set = len set.logical.own.stock + free_count set.ranges + len set.logical.own.dead.blocks

-- how many blocks the volume has
abbrev pub all_blocks : VolumeSet → ℕ
all_blocks set = set.logical.own.dead.range_blocks * ranges_used set.ranges

-- written, its holes filled from the parts of the volume
pub record WrittenFromParts (fileid : ℕ) (w : Writing) (old : VolumeSet) (outcome : Outcome) (new : VolumeSet) : Type 0 where
  pub numbers : List ℕ
  pub left : VolumeSet
  pub as_many : length numbers ≡ length (holes_of fileid w old.logical)
  pub leave : LeaveParts numbers old left
  pub replied : outcome ≡ Replied (Success (WriteDone (length (bytes_kept w)) old.logical.own.verifier))
  pub written : new ≡ record left { logical = file_extended (extending fileid w numbers) left.logical }

-- it waits again for Volume where the rest is in hands
abbrev pub WrittenWhereThere : Bool → ℕ → ℕ → Writing → VolumeSet → Outcome → VolumeSet → Type 0
WrittenWhereThere true v fileid w old outcome new = MovesUp v old outcome new
WrittenWhereThere false v fileid w old outcome new = WrittenFromParts fileid w old outcome new

-- NOSPC where files and holes are more than all blocks
abbrev pub WrittenWhereFits : Bool → ℕ → ℕ → Writing → VolumeSet → Outcome → VolumeSet → Type 0
WrittenWhereFits true v fileid w old outcome new = TellsOutcome (Failed NoSpace 2) old outcome new
WrittenWhereFits false v fileid w old outcome new =
    WrittenWhereThere (nat_lt (for_holes old) (length (holes_of fileid w old.logical))) v fileid w old outcome new

abbrev pub DueInVolume : Result ℕ Status → ℕ → ℕ → Writing → VolumeSet → Outcome → VolumeSet → Type 0
DueInVolume (Err status) v fileid w old outcome new = TellsOutcome (Failed status 2) old outcome new
DueInVolume (Ok zero) v fileid w old outcome new = TellsOutcome (WriteDone 0 old.logical.own.verifier) old outcome new
DueInVolume (Ok (suc n)) v fileid w old outcome new =
    WrittenWhereFits (nat_lt (all_blocks old) (old.logical.own.inodes.used + length (holes_of fileid w old.logical))) v fileid w old outcome new

-- WRITE on the volume of a number
abbrev pub VolumeWrites : ℕ → ℕ → Writing → VolumeSet → Outcome → VolumeSet → Type 0
VolumeWrites v fileid w old outcome new =
    DueInVolume (bytes_due (get old.logical.own.inodes.inodes fileid) old.logical.own.largest w) v fileid w old outcome new
