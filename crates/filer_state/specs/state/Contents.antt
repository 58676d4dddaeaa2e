-- The parcels of a volume as one record, in which no node has a number: all that is said of a volume is said of this.
use Rattle.std.specs.Prelude.{ℕ, zero, suc, ◌+◌, List, [], ◌∷◌, length, Option, Some, slice_get}
use Rattle.nfs_model.specs.Tree as trees
use Rattle.nfs_model.specs.Tree.{Layout, Affinity, stripes_of, aggregate_of}
use Rattle.nfs_model.specs.Parts.{most_ranges}
use Rattle.affinity.specs.Numbers.{number_of}
use Rattle.parcels.specs.declared.family.Parcel.TheVariants.{Range, Stripe, Logical, Aggregate}
use Rattle.nfs_model.specs.volume.Stripes.{StripeValue}
use Rattle.nfs_model.specs.volume.Ranges.{RangeValue}
use Rattle.nfs_model.specs.volume.Logical.{LogicalValue}
use Rattle.filer_state.specs.state.Parcels.{FilerParcel, no_range, no_stripe, no_logical}

-- what is stored of a volume
pub record VolumeContents : Type 0 where
  pub number : ℕ
  pub aggregate : ℕ
  pub logical : LogicalValue
  pub stripes : List StripeValue  -- by number
  pub ranges : List RangeValue  -- by number, in use or not

-- what is stored of all volumes
pub record FilerContents : Type 0 where
  pub spare : List ℕ  -- the spare ranges of each aggregate
  pub volumes : List VolumeContents

-- a volume by its number, if it is there
abbrev pub volume_at : FilerContents → ℕ → Option VolumeContents
volume_at c v = slice_get c.volumes v

-- f of this many numbers from a number on
abbrev pub each : {A : Type 0} → (ℕ → A) → ℕ → ℕ → List A
each f from zero = []
each f from (suc n) = f from ∷ each f (from + 1) n

module _ {P : Type 0} where
  -- what is in a parcel
  abbrev pub logical_in : Option (FilerParcel P) → LogicalValue
  logical_in (Some (Logical value)) = value
  logical_in other = no_logical

  abbrev pub stripe_in : Option (FilerParcel P) → StripeValue
  stripe_in (Some (Stripe value)) = value
  stripe_in other = no_stripe

  abbrev pub range_in : Option (FilerParcel P) → RangeValue
  range_in (Some (Range value)) = value
  range_in other = no_range

  abbrev pub spare_in : Option (FilerParcel P) → ℕ
  spare_in (Some (Aggregate spare)) = spare
  spare_in other = 0

  -- the parcel of a node, of parcels by number
  abbrev pub at : Layout → (ℕ → Option (FilerParcel P)) → Affinity → Option (FilerParcel P)
  at layout f node = f (number_of layout node)

  -- the contents of a volume: of Logical, of as many stripes as the layout gives it, and of 16 ranges
  abbrev pub contents_of : Layout → (ℕ → Option (FilerParcel P)) → ℕ → VolumeContents
  contents_of layout f v = record {
    number = v;
    aggregate = aggregate_of layout v;
    logical = logical_in (at layout f (trees.Logical v));
    stripes = each (λ i. stripe_in (at layout f (trees.Stripe v i))) 0 (stripes_of layout v);
    ranges = each (λ r. range_in (at layout f (trees.Range v r))) 0 most_ranges;
  }

  -- the contents of all parcels
  abbrev pub filer_contents : Layout → (ℕ → Option (FilerParcel P)) → FilerContents
  filer_contents layout f = record {
    spare = each (λ a. spare_in (at layout f (trees.Aggregate a))) 0 (length layout.spare);
    volumes = each (contents_of layout f) 0 (length layout.volumes);
  }
