-- What it is that a parcel moved.
use Rattle.std.specs.Prelude.{◌≡◌, ℕ, Option, Some, None, IfSome}
use Rattle.nfs_model.specs.Tree.{Layout, Affinity}
use Rattle.affinity.specs.declared.affinity.Kind.{Kind}
use Rattle.affinity.specs.Affinity.{kind_of}
use Rattle.affinity.specs.Tree.{IsNode}
use Rattle.parcels.specs.Exact.{AllVacant}

-- At one node: what is taken was there before and isn't there after; where nothing is taken all is as before. Read the other way round it is a giving.
abbrev pub Moved : {T : Type 0} → Option T → Option T → Option T → Type 0
Moved before (Some taken) after = (before ≡ Some taken) × (after ≡ None)
Moved before None after = after ≡ before

-- a set's parcels, by the numbers of their nodes, moved; and nothing else did
abbrev pub AllMoved : {T : Type 0} → (ℕ → Option T) → (ℕ → Option T) → (ℕ → Option T) → Type 0
AllMoved before taken after = (k : ℕ) → Moved (before k) (taken k) (after k)

-- each parcel of a set may be given to its node
abbrev pub AllAllowed : {T : Type 0} → (ℕ → T → Type 0) → (ℕ → Option T) → Type 0
AllAllowed allows given = (k : ℕ) → IfSome (given k) (allows k)

-- The parcels of a set may be given back: they are those of a node of this kind, nothing is at the nodes under it, and each may be
-- given to its node.
pub record MayBeGiven {T : Type 0} (layout : Layout) (affinity : Affinity) (sort : Kind) (at : ℕ → Option T) (allows : ℕ → T → Type 0)
    (given : ℕ → Option T) : Type 0 where
  pub node : IsNode layout affinity
  pub kind : kind_of affinity ≡ sort
  pub vacant : AllVacant layout affinity at
  pub allowed : AllAllowed allows given
