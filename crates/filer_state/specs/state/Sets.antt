-- What a typed set holds, as plain data: the part of what is stored that it is.
use Rattle.std.specs.Prelude.{ℕ, List, length, Option, Some, None, slice_get, if◌then◌else◌, ◌==◌}
use Rattle.nfs_model.specs.Tree.{Layout, stripes_of, aggregate_of}
use Rattle.nfs_model.specs.Parts.{most_ranges}
use Rattle.parcels.specs.declared.sets.RangeHeld.{RangeHeld}
use Rattle.parcels.specs.declared.sets.VbnHeld.{VbnHeld}
use Rattle.parcels.specs.declared.sets.StripeHeld.{StripeHeld}
use Rattle.parcels.specs.declared.sets.LogicalHeld.{LogicalHeld}
use Rattle.parcels.specs.declared.sets.VolumeHeld.{VolumeHeld}
use Rattle.parcels.specs.declared.sets.AggrHeld.{AggrHeld}
use Rattle.parcels.specs.declared.sets.SerialHeld.{SerialHeld}
use Rattle.nfs_model.specs.volume.Stripes.{StripeValue}
use Rattle.nfs_model.specs.volume.Ranges.{RangeValue}
use Rattle.nfs_model.specs.volume.Logical.{LogicalValue}
use Rattle.filer_state.specs.state.Parcels.{no_range, no_stripe, no_logical}
use Rattle.filer_state.specs.state.Contents.{VolumeContents, FilerContents, each}
use Rattle.filer_state.specs.state.Lenses.{LogicalSet, VolumeSet, AggregateSet}

-- the sets of a filer's parcels, whose Vbn, Volume and Serial have nothing of their own
abbrev pub FilerRange : Type 0 → Type 0
FilerRange P = RangeHeld P RangeValue (Unit {0}) StripeValue LogicalValue (Unit {0}) ℕ (Unit {0})

abbrev pub FilerStripe : Type 0 → Type 0
FilerStripe P = StripeHeld P RangeValue (Unit {0}) StripeValue LogicalValue (Unit {0}) ℕ (Unit {0})

abbrev pub FilerVbn : Type 0 → Type 0
FilerVbn P = VbnHeld P RangeValue (Unit {0}) StripeValue LogicalValue (Unit {0}) ℕ (Unit {0})

abbrev pub FilerLogical : Type 0 → Type 0
FilerLogical P = LogicalHeld P RangeValue (Unit {0}) StripeValue LogicalValue (Unit {0}) ℕ (Unit {0})

abbrev pub FilerVolume : Type 0 → Type 0
FilerVolume P = VolumeHeld P RangeValue (Unit {0}) StripeValue LogicalValue (Unit {0}) ℕ (Unit {0})

abbrev pub FilerAggregate : Type 0 → Type 0
FilerAggregate P = AggrHeld P RangeValue (Unit {0}) StripeValue LogicalValue (Unit {0}) ℕ (Unit {0})

abbrev pub FilerSerial : Type 0 → Type 0
FilerSerial P = SerialHeld P RangeValue (Unit {0}) StripeValue LogicalValue (Unit {0}) ℕ (Unit {0})

-- what is in a place, if there is such a place
abbrev pub in_one : {H : Type 0} → Option (Option H) → Option H
in_one None = None
in_one (Some content) = content

-- what is in one of a set's places
abbrev pub placed : {H : Type 0} → List (Option H) → ℕ → Option H
placed places i = in_one (slice_get places i)

-- a volume with its set
abbrev pub volume_with : Layout → ℕ → VolumeSet → VolumeContents
volume_with layout v set = record {
  number = v;
  aggregate = aggregate_of layout v;
  logical = set.logical.own;
  stripes = set.logical.stripes;
  ranges = set.ranges;
}

module _ {P : Type 0} where
  abbrev pub range_value : Option (FilerRange P) → RangeValue
  range_value None = no_range
  range_value (Some held) = held.own

  abbrev pub stripe_value : Option (FilerStripe P) → StripeValue
  stripe_value None = no_stripe
  stripe_value (Some held) = held.own

  -- the 16 ranges of a volume
  abbrev pub vbn_set : FilerVbn P → List RangeValue
  vbn_set held = each (λ r. range_value (placed held.ranges.at r)) 0 most_ranges

  -- of a volume of n stripes
  abbrev pub logical_set : ℕ → FilerLogical P → LogicalSet
  logical_set n held = record { own = held.own; stripes = each (λ i. stripe_value (placed held.stripes.at i)) 0 n }

  abbrev pub volume_set : ℕ → FilerVolume P → VolumeSet
  volume_set n held = record { logical = logical_set n held.logical; ranges = vbn_set held.vbn }

  -- The number of stripes is that which the parcel gave before a call, for the set before it and for the set after it.
  abbrev pub logical_before : FilerLogical P → LogicalSet
  logical_before old = logical_set old.own.stripes old

  abbrev pub logical_after : FilerLogical P → FilerLogical P → LogicalSet
  logical_after old new = logical_set old.own.stripes new

  abbrev pub volume_before : FilerVolume P → VolumeSet
  volume_before old = volume_set old.logical.own.stripes old

  abbrev pub volume_after : FilerVolume P → FilerVolume P → VolumeSet
  volume_after old new = volume_set old.logical.own.stripes new

  abbrev pub volume_value : ℕ → Option (FilerVolume P) → VolumeSet
  volume_value n None = record {
    logical = record { own = no_logical; stripes = each (λ i. no_stripe) 0 n };
    ranges = each (λ r. no_range) 0 most_ranges;
  }
  volume_value n (Some held) = volume_set n held

  -- a volume in its place among those of an aggregate
  abbrev pub volume_placed : Layout → Option (FilerAggregate P) → ℕ → VolumeSet
  volume_placed layout None v = volume_value (stripes_of layout v) None
  volume_placed layout (Some held) v = volume_value (stripes_of layout v) (placed held.volumes.at v)

  -- the volumes that a layout puts on an aggregate
  abbrev pub aggregate_set : Layout → ℕ → FilerAggregate P → AggregateSet
  aggregate_set layout a held = record {
    spare = held.own;
    volumes = each (λ v. if aggregate_of layout v == a then Some (volume_placed layout (Some held) v) else None) 0 (length layout.volumes);
  }

  abbrev pub spare_value : Option (FilerAggregate P) → ℕ
  spare_value None = 0
  spare_value (Some held) = held.own

  -- all that is stored
  abbrev pub serial_set : Layout → FilerSerial P → FilerContents
  serial_set layout held = record {
    spare = each (λ a. spare_value (placed held.aggregates.at a)) 0 (length layout.spare);
    volumes = each (λ v. volume_with layout v (volume_placed layout (placed held.aggregates.at (aggregate_of layout v)) v)) 0 (length layout.volumes);
  }
