-- The parcels of each typed set, by the numbers of their nodes: that of its own node, and those of the sets below.
use Rattle.std.specs.Prelude.{ℕ, ◌==◌, true, Option, length}
use Rattle.nfs_model.specs.Tree as trees
use Rattle.nfs_model.specs.Tree.{Affinity, Layout, stripes_of, aggregate_of}
use Rattle.affinity.specs.Numbers.{number_of}
use Rattle.parcels.specs.Slots.{alone, or_else, in_places}
use Rattle.parcels.specs.declared.family.Parcel.{Parcel}
use Rattle.parcels.specs.declared.family.Parcel.TheVariants.{Range, Vbn, Stripe, Logical, Volume, Aggregate, Serial}
use Rattle.parcels.specs.declared.sets.RangeHeld.{RangeHeld}
use Rattle.parcels.specs.declared.sets.VbnHeld.{VbnHeld}
use Rattle.parcels.specs.declared.sets.StripeHeld.{StripeHeld}
use Rattle.parcels.specs.declared.sets.LogicalHeld.{LogicalHeld}
use Rattle.parcels.specs.declared.sets.VolumeHeld.{VolumeHeld}
use Rattle.parcels.specs.declared.sets.AggrHeld.{AggrHeld}
use Rattle.parcels.specs.declared.sets.SerialHeld.{SerialHeld}

-- the number by which an affinity's volume or aggregate is told
abbrev pub volume_around : Affinity → ℕ
volume_around trees.Serial = 0
volume_around (trees.Aggregate a) = 0
volume_around (trees.Volume v) = v
volume_around (trees.Logical v) = v
volume_around (trees.Stripe v i) = v
volume_around (trees.Vbn v) = v
volume_around (trees.Range v r) = v

abbrev pub aggregate_number : Affinity → ℕ
aggregate_number (trees.Aggregate a) = a
aggregate_number _ = 0

module _ {P R B S L V A X : Type 0} where
  unfoldable pub range_parcels : Layout → Affinity → RangeHeld P R B S L V A X → ℕ → Option (Parcel P R B S L V A X)
  range_parcels layout affinity held k = alone (number_of layout affinity) (Range held.own) k

  unfoldable pub stripe_parcels : Layout → Affinity → StripeHeld P R B S L V A X → ℕ → Option (Parcel P R B S L V A X)
  stripe_parcels layout affinity held k = alone (number_of layout affinity) (Stripe held.own) k

  -- all 16 ranges of a volume, in use or not
  unfoldable pub vbn_parcels : Layout → Affinity → VbnHeld P R B S L V A X → ℕ → Option (Parcel P R B S L V A X)
  vbn_parcels layout affinity held k =
      or_else
      (alone (number_of layout affinity) (Vbn held.own) k)
      (in_places (λ r. true) (λ r range. range_parcels layout (trees.Range (volume_around affinity) r) range k) held.ranges.at 16)

  -- as many stripes as the layout gives the volume
  unfoldable pub logical_parcels : Layout → Affinity → LogicalHeld P R B S L V A X → ℕ → Option (Parcel P R B S L V A X)
  logical_parcels layout affinity held k =
      or_else
      (alone (number_of layout affinity) (Logical held.own) k)
      (in_places (λ i. true) (λ i stripe. stripe_parcels layout (trees.Stripe (volume_around affinity) i) stripe k) held.stripes.at
      (stripes_of layout (volume_around affinity)))

  unfoldable pub volume_parcels : Layout → Affinity → VolumeHeld P R B S L V A X → ℕ → Option (Parcel P R B S L V A X)
  volume_parcels layout affinity held k =
      or_else
      (alone (number_of layout affinity) (Volume held.own) k)
      (or_else
      (logical_parcels layout (trees.Logical (volume_around affinity)) held.logical k)
      (vbn_parcels layout (trees.Vbn (volume_around affinity)) held.vbn k))

  -- those volumes that the layout puts on the aggregate
  unfoldable pub aggregate_parcels : Layout → Affinity → AggrHeld P R B S L V A X → ℕ → Option (Parcel P R B S L V A X)
  aggregate_parcels layout affinity held k =
      or_else
      (alone (number_of layout affinity) (Aggregate held.own) k)
      (in_places (λ v. aggregate_of layout v == aggregate_number affinity) (λ v volume. volume_parcels layout (trees.Volume v) volume k)
      held.volumes.at (length layout.volumes))

  unfoldable pub serial_parcels : Layout → Affinity → SerialHeld P R B S L V A X → ℕ → Option (Parcel P R B S L V A X)
  serial_parcels layout affinity held k =
      or_else
      (alone (number_of layout affinity) (Serial held.own) k)
      (in_places (λ a. true) (λ a aggregate. aggregate_parcels layout (trees.Aggregate a) aggregate k) held.aggregates.at (length layout.spare))
