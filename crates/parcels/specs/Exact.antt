-- The parcels of a part of the tree.
use Rattle.std.specs.Prelude.{◌≡◌, ◌≢◌, ℕ, Option, Some, None}
use Rattle.nfs_model.specs.Tree.{Layout, Affinity}
use Rattle.affinity.specs.declared.affinity.Kind.{Kind}
use Rattle.affinity.specs.declared.affinity.Kind.TheVariants as kinds
use Rattle.affinity.specs.Affinity.{kind_of}
use Rattle.affinity.specs.Numbers.{number_of}
use Rattle.affinity.specs.Under.{IsUnder}
use Rattle.parcels.specs.declared.family.Parcel.{Parcel}
use Rattle.parcels.specs.declared.family.Parcel.TheVariants.{Range, Vbn, Stripe, Logical, Volume, Aggregate, Serial}

-- a fact of each node under an affinity: of itself and of all below it
abbrev pub Under : Layout → Affinity → (Affinity → Type 0) → Type 0
Under layout affinity Q = (node : Affinity) → IsUnder layout affinity node → Q node

-- nothing is at a node
abbrev pub IsVacant : {T : Type 0} → Layout → (ℕ → Option T) → Affinity → Type 0
IsVacant layout f node = f (number_of layout node) ≡ None

-- the kind of node that a parcel is of
abbrev pub kind_in : {P R B S L V A X : Type 0} → Parcel P R B S L V A X → Kind
kind_in (Range p) = kinds.Range
kind_in (Vbn p) = kinds.VolumeVbn
kind_in (Stripe p) = kinds.Stripe
kind_in (Logical p) = kinds.VolumeLogical
kind_in (Volume p) = kinds.Volume
kind_in (Aggregate p) = kinds.Aggregate
kind_in (Serial p) = kinds.Serial

module _ {T : Type 0} (kind : T → Kind) where
  -- a parcel of the node's kind is at it
  abbrev pub IsPlaced : Layout → (ℕ → Option T) → Affinity → Type 0
  IsPlaced layout f node = (parcel : T) × (f (number_of layout node) ≡ Some parcel) × (kind parcel ≡ kind_of node)

  -- f has just the parcels under an affinity: each node's, of its kind, and no other
  pub record HasExactly (layout : Layout) (affinity : Affinity) (f : ℕ → Option T) : Type 0 where
    pub each : Under layout affinity (IsPlaced layout f)
    pub no_other : (k : ℕ) → Under layout affinity (λ node. k ≢ number_of layout node) → f k ≡ None

-- each node under an affinity has its parcel, of its kind
abbrev pub AllPlaced : {T : Type 0} → (T → Kind) → Layout → Affinity → (ℕ → Option T) → Type 0
AllPlaced kind layout affinity f = Under layout affinity (IsPlaced kind layout f)

-- no node under an affinity has one
abbrev pub AllVacant : {T : Type 0} → Layout → Affinity → (ℕ → Option T) → Type 0
AllVacant layout affinity f = Under layout affinity (IsVacant layout f)

abbrev pub HasParcel : {P R B S L V A X : Type 0} → Layout → (ℕ → Option (Parcel P R B S L V A X)) → Affinity → Type 0
HasParcel layout f node = IsPlaced kind_in layout f node
