-- The layout of a run, and the tree of affinities over it (our profile).
use Rattle.std.specs.Prelude.{ℕ, Bool, true, false, ◌&&◌, ◌||◌, ◌==◌, List, [], ◌∷◌, Option, Some, None}
use Rattle.std.specs.Prelude.{slice_get}
use Rattle.nfs_model.specs.Types.{Moment, Ownership}

-- a volume as it is laid out at the start
pub record VolumeLayout : Type 0 where
  pub aggregate : ℕ
  pub ranges : ℕ
  pub stripes : ℕ
  pub mebibytes : ℕ  -- the largest size of a file
  pub range_blocks : ℕ  -- the blocks of a range
  pub inodes : ℕ  -- at most, the root with them
  pub most_steps : ℕ  -- of directories whose parents a RENAME looks at
  pub begun : Moment  -- the beginning of the run: the times of its root
  pub root : Ownership  -- of its root, as the run begins
  pub remembered : ℕ  -- the most replies that are remembered for calls that come again

-- aggregates and volumes, each numbered from 0
pub record Layout : Type 0 where
  pub spare : List ℕ  -- the spare ranges of each aggregate
  pub volumes : List VolumeLayout

-- the nodes of the tree: Serial above Aggregate above Volume above Logical and Vbn; Logical above
-- its Stripes, Vbn above its Ranges
pub data Affinity : Type 0 where
  Serial : Affinity
  Aggregate : (aggregate : ℕ) → Affinity
  Volume : (volume : ℕ) → Affinity
  Logical : (volume : ℕ) → Affinity
  Stripe : (volume stripe : ℕ) → Affinity
  Vbn : (volume : ℕ) → Affinity
  Range : (volume range : ℕ) → Affinity

-- the aggregate of a volume, if there is one
abbrev pub aggregate_in : Option VolumeLayout → ℕ
aggregate_in None = 0
aggregate_in (Some v) = v.aggregate

-- the number of stripes of a volume, if there is one
abbrev pub stripes_in : Option VolumeLayout → ℕ
stripes_in None = 8
stripes_in (Some v) = v.stripes

-- the aggregate of a volume by its number
abbrev pub aggregate_of : Layout → ℕ → ℕ
aggregate_of layout volume = aggregate_in (slice_get layout.volumes volume)

-- the number of stripes of a volume by its number
abbrev pub stripes_of : Layout → ℕ → ℕ
stripes_of layout volume = stripes_in (slice_get layout.volumes volume)

-- the blocks of a range of a volume, if there is one
abbrev pub range_blocks_in : Option VolumeLayout → ℕ
range_blocks_in None = 1024
range_blocks_in (Some v) = v.range_blocks

-- the blocks of a range of a volume by its number
abbrev pub range_blocks_of : Layout → ℕ → ℕ
range_blocks_of layout volume = range_blocks_in (slice_get layout.volumes volume)

-- the way from the root; Logical is the first child of its volume, Vbn the second
abbrev pub path : Layout → Affinity → List ℕ
path layout Serial = []
path layout (Aggregate a) = a ∷ []
path layout (Volume v) = aggregate_of layout v ∷ v ∷ []
path layout (Logical v) = aggregate_of layout v ∷ v ∷ 0 ∷ []
path layout (Stripe v i) = aggregate_of layout v ∷ v ∷ 0 ∷ i ∷ []
path layout (Vbn v) = aggregate_of layout v ∷ v ∷ 1 ∷ []
path layout (Range v r) = aggregate_of layout v ∷ v ∷ 1 ∷ r ∷ []

-- whether a list begins another
abbrev pub begins : List ℕ → List ℕ → Bool
begins [] b = true
begins (x ∷ xs) [] = false
begins (x ∷ xs) (y ∷ ys) = (x == y) && begins xs ys

-- two affinities of which one is the other or above it
abbrev pub excludes : Layout → Affinity → Affinity → Bool
excludes layout a b = begins (path layout a) (path layout b) || begins (path layout b) (path layout a)
