-- The tree of affinities over a layout: its nodes, the parent of each, and what is above what (our profile).
use Rattle.std.specs.Prelude.{◌≡◌, ℕ, ◌<◌, Bool, ◌&&◌, not, [], ◌∷◌, ◌++◌, length, Option, Some, None}
use Rattle.nfs_model.specs.Tree.{Layout, Affinity, Serial, Aggregate, Volume, Logical, Stripe, Vbn, Range, path, begins, aggregate_of, stripes_of}

-- an affinity that the layout has: all 16 ranges of a volume are there, in use or not
abbrev pub IsNode : Layout → Affinity → Type 0
IsNode layout Serial = Unit {0}
IsNode layout (Aggregate a) = a < length layout.spare
IsNode layout (Volume v) = v < length layout.volumes
IsNode layout (Logical v) = v < length layout.volumes
IsNode layout (Stripe v i) = (v < length layout.volumes) × (i < stripes_of layout v)
IsNode layout (Vbn v) = v < length layout.volumes
IsNode layout (Range v r) = (v < length layout.volumes) × (r < 16)

-- the volume that an affinity is of or below
abbrev pub volume_in : Affinity → Option ℕ
volume_in Serial = None
volume_in (Aggregate a) = None
volume_in (Volume v) = Some v
volume_in (Logical v) = Some v
volume_in (Stripe v i) = Some v
volume_in (Vbn v) = Some v
volume_in (Range v r) = Some v

-- the next node towards the root
abbrev pub parent_of : Layout → Affinity → Option Affinity
parent_of layout Serial = None
parent_of layout (Aggregate a) = Some Serial
parent_of layout (Volume v) = Some (Aggregate (aggregate_of layout v))
parent_of layout (Logical v) = Some (Volume v)
parent_of layout (Stripe v i) = Some (Logical v)
parent_of layout (Vbn v) = Some (Volume v)
parent_of layout (Range v r) = Some (Vbn v)

-- a is the parent of b: the way to b is the way to a and one step more
abbrev pub IsParent : Layout → Affinity → Affinity → Type 0
IsParent layout a b = (step : ℕ) × (path layout b ≡ path layout a ++ step ∷ [])

-- whether a is b or above it: the way to a begins the way to b
abbrev pub covers : Layout → Affinity → Affinity → Bool
covers layout a b = begins (path layout a) (path layout b)

-- whether a is above b: the way to a is a proper beginning of the way to b
abbrev pub is_above : Layout → Affinity → Affinity → Bool
is_above layout a b = begins (path layout a) (path layout b) && not (begins (path layout b) (path layout a))
