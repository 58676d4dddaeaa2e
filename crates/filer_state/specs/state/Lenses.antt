-- What is under a node, as a part of a volume or of all that is stored (our profile).
use Rattle.std.specs.Prelude.{ℕ, ◌==◌, List, [], ◌∷◌, map, Option, Some, None, slice_index_or, slice_set, if◌then◌else◌}
use Rattle.nfs_model.specs.volume.Logical.{LogicalValue}
use Rattle.nfs_model.specs.volume.Stripes.{StripeValue}
use Rattle.nfs_model.specs.volume.Ranges.{RangeValue}
use Rattle.filer_state.specs.state.Parcels.{no_logical}
use Rattle.filer_state.specs.state.Contents.{VolumeContents, FilerContents, volume_at}
use Rattle.filer_state.specs.state.Tree.{stripe_at}
use Rattle.filer_state.specs.state.WellFormed.{range_at}

-- a part S of a whole W: what a whole has of it, and the whole with another in its place
pub record Lens (W S : Type 0) : Type 0 where
  pub of : W → S
  pub put : S → W → W

-- ---- the parts of a volume

-- under Logical: its own, and the stripes
pub record LogicalSet : Type 0 where
  pub own : LogicalValue
  pub stripes : List StripeValue

-- under Volume: what is under Logical, and the ranges
pub record VolumeSet : Type 0 where
  pub logical : LogicalSet
  pub ranges : List RangeValue

abbrev pub stripe_lens : ℕ → Lens VolumeContents StripeValue
stripe_lens i = record { of = λ p. stripe_at p.stripes i; put = λ s p. record p { stripes = slice_set p.stripes i s } }

abbrev pub range_lens : ℕ → Lens VolumeContents RangeValue
range_lens r = record { of = λ p. range_at p.ranges r; put = λ x p. record p { ranges = slice_set p.ranges r x } }

abbrev pub vbn_lens : Lens VolumeContents (List RangeValue)
vbn_lens = record { of = λ p. p.ranges; put = λ ranges p. record p { ranges = ranges } }

abbrev pub logical_lens : Lens VolumeContents LogicalSet
logical_lens = record {
  of = λ p. record { own = p.logical; stripes = p.stripes };
  put = λ set p. record p { logical = set.own; stripes = set.stripes };
}

abbrev pub volume_lens : Lens VolumeContents VolumeSet
volume_lens = record {
  of = λ p. record { logical = logical_lens.of p; ranges = p.ranges };
  put = λ set p. record p { logical = set.logical.own; stripes = set.logical.stripes; ranges = set.ranges };
}

-- ---- the parts of all that is stored

-- where there is no volume
abbrev pub no_volume : VolumeContents
no_volume = record { number = 0; aggregate = 0; logical = no_logical; stripes = []; ranges = [] }

abbrev pub volume_or_none : Option VolumeContents → VolumeContents
volume_or_none None = no_volume
volume_or_none (Some p) = p

-- with another volume at a number
abbrev pub with_contents : FilerContents → ℕ → VolumeContents → FilerContents
with_contents c v p = record c { volumes = slice_set c.volumes v p }

-- a part of a volume, as a part of all
abbrev pub in_volume : {S : Type 0} → ℕ → Lens VolumeContents S → Lens FilerContents S
in_volume v lens = record {
  of = λ c. lens.of (volume_or_none (volume_at c v));
  put = λ s c. with_contents c v (lens.put s (volume_or_none (volume_at c v)));
}

-- under an Aggregate: its spare ranges, and by number the volumes on it; at the numbers of others there is nothing
pub record AggregateSet : Type 0 where
  pub spare : ℕ
  pub volumes : List (Option VolumeSet)

abbrev pub set_on : ℕ → VolumeContents → Option VolumeSet
set_on a p = if p.aggregate == a then Some (volume_lens.of p) else None

abbrev pub put_if : Option VolumeSet → VolumeContents → VolumeContents
put_if None p = p
put_if (Some set) p = volume_lens.put set p

abbrev pub put_each : List (Option VolumeSet) → List VolumeContents → List VolumeContents
put_each [] volumes = volumes
put_each (set ∷ sets) [] = []
put_each (set ∷ sets) (p ∷ volumes) = put_if set p ∷ put_each sets volumes

abbrev pub aggregate_lens : ℕ → Lens FilerContents AggregateSet
aggregate_lens a = record {
  of = λ c. record { spare = slice_index_or c.spare a 0; volumes = map (set_on a) c.volumes };
  put = λ set c. record { spare = slice_set c.spare a set.spare; volumes = put_each set.volumes c.volumes };
}

-- under Serial: all
abbrev pub serial_lens : Lens FilerContents FilerContents
serial_lens = record { of = λ c. c; put = λ new c. new }
