-- Block numbers that leave the parts of a volume: its stock, its ranges, its dead blocks.
use Rattle.std.specs.Prelude.{◌≡◌, ◌⊎◌, ℕ, ◌<◌, true, List, [], ◌∷◌, length, Option, Some, None, slice_set}
use Rattle.std.specs.FinSet as sets
use Rattle.std.specs.FinSet.{contains}
use Rattle.nfs_model.specs.volume.Ranges.{RangeValue, taken}
use Rattle.nfs_model.specs.volume.Stripes.{StripeValue}
use Rattle.filer_state.specs.state.Lenses.{VolumeSet}
use Rattle.filer_state.specs.state.Sets.{FilerRange, FilerVolume, volume_before}
use Rattle.filer_state.specs.state.WellFormed.{range_at}
use Rattle.parcels.specs.Filled.{volume_alike}
use Rattle.filer_state.specs.bytes.WritingUp.{LeavesStock, LeavesRange, LeavesDead, LeaveParts}
use Rattle.service_data.specs.Stripes.{HasStripes}
use Rattle.service_data.specs.Holes.{renumbered}

-- ---- the ranges

-- a number leaves the bitmap of a range
pub record LeavesFree (n : ℕ) (old new : List RangeValue) : Type 0 where
  pub range : ℕ
  pub within : range < length old
  pub there : contains (range_at old range).free n ≡ true
  pub left : new ≡ slice_set old range (taken (n ∷ []) (range_at old range))

-- no number is free
abbrev pub NoneFree : List RangeValue → Type 0
NoneFree ranges = (range : ℕ) → range < length ranges → (range_at ranges range).free ≡ sets.empty

module _ {P : Type 0} where
  -- the range in a place changed, if there is one
  abbrev pub range_changed : (RangeValue → RangeValue) → Option (FilerRange P) → Option (FilerRange P)
  range_changed change None = None
  range_changed change (Some held) = Some (record held { own = change held.own })

-- ---- the volume

-- with other stripes
abbrev pub restriped : List StripeValue → VolumeSet → VolumeSet
restriped stripes set = record set { logical = record set.logical { stripes = stripes } }

-- a number leaves the stock, else what is free, else what is dead
abbrev pub LeavesOne : ℕ → VolumeSet → VolumeSet → Type 0
LeavesOne n old new = LeavesStock n old new ⊎ (LeavesRange n old new ⊎ LeavesDead n old new)

-- blocks have numbers of the parts
pub record TakesParts {P : Type 0} (fileid : ℕ) (blocks : List ℕ) (old new : FilerVolume P) : Type 0 where
  pub numbers : List ℕ
  pub left : VolumeSet
  pub as_many : length numbers ≡ length blocks
  pub leave : LeaveParts numbers (volume_before old) left
  pub set : volume_before new ≡ restriped (renumbered fileid blocks numbers (volume_before old).logical.stripes) left
  pub alike : volume_alike old new
  pub there : HasStripes new.logical
