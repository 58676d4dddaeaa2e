-- Two sets of one form: a slot is filled in both or in neither, and what is in it is of one form too.
use Rattle.std.specs.Prelude.{◌≡◌, ℕ, Bool, true, false, List, Option, Some, None, slice_get}
use Rattle.parcels.specs.declared.sets.RangeHeld.{RangeHeld}
use Rattle.parcels.specs.declared.sets.VbnHeld.{VbnHeld}
use Rattle.parcels.specs.declared.sets.StripeHeld.{StripeHeld}
use Rattle.parcels.specs.declared.sets.LogicalHeld.{LogicalHeld}
use Rattle.parcels.specs.declared.sets.VolumeHeld.{VolumeHeld}
use Rattle.parcels.specs.declared.sets.AggrHeld.{AggrHeld}
use Rattle.parcels.specs.declared.sets.SerialHeld.{SerialHeld}

-- whether something is in a slot, if there is one
abbrev pub is_filled : {H : Type 0} → Option (Option H) → Bool
is_filled None = false
is_filled (Some None) = false
is_filled (Some (Some held)) = true

module _ {H : Type 0} where
  -- each slot is filled in both or in neither
  abbrev pub AreFilledAlike : List (Option H) → List (Option H) → Type 0
  AreFilledAlike old new = (i : ℕ) → is_filled (slice_get old i) ≡ is_filled (slice_get new i)

  -- what is in a slot in both
  abbrev pub InEachPlace : (H → H → Type 0) → List (Option H) → List (Option H) → Type 0
  InEachPlace Q old new = (i : ℕ) (x y : H) → slice_get old i ≡ Some (Some x) → slice_get new i ≡ Some (Some y) → Q x y

module _ {P R B S L V A X : Type 0} where
  -- one parcel has no slots
  abbrev pub range_alike : RangeHeld P R B S L V A X → RangeHeld P R B S L V A X → Type 0
  range_alike old new = Unit {0}

  abbrev pub stripe_alike : StripeHeld P R B S L V A X → StripeHeld P R B S L V A X → Type 0
  stripe_alike old new = Unit {0}

  abbrev pub vbn_alike : VbnHeld P R B S L V A X → VbnHeld P R B S L V A X → Type 0
  vbn_alike old new = AreFilledAlike old.ranges.at new.ranges.at

  abbrev pub logical_alike : LogicalHeld P R B S L V A X → LogicalHeld P R B S L V A X → Type 0
  logical_alike old new = AreFilledAlike old.stripes.at new.stripes.at

  abbrev pub volume_alike : VolumeHeld P R B S L V A X → VolumeHeld P R B S L V A X → Type 0
  volume_alike old new = logical_alike old.logical new.logical × vbn_alike old.vbn new.vbn

  abbrev pub aggregate_alike : AggrHeld P R B S L V A X → AggrHeld P R B S L V A X → Type 0
  aggregate_alike old new = AreFilledAlike old.volumes.at new.volumes.at × InEachPlace volume_alike old.volumes.at new.volumes.at

  abbrev pub serial_alike : SerialHeld P R B S L V A X → SerialHeld P R B S L V A X → Type 0
  serial_alike old new = AreFilledAlike old.aggregates.at new.aggregates.at × InEachPlace aggregate_alike old.aggregates.at new.aggregates.at
