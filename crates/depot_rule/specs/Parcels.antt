-- Parcels: each is at home in its node's slot, or with the one grant that covers the node.
use Rattle.std.specs.Prelude.{◌≡◌, ℕ, ◌+◌, ◌<◌, ◌≤◌, ◌==◌, List, length, slice_index_or, Option, Some, None}
use mathlib.Core.Option.{some}
use mathlib.Core.Option as maybe
use lib.ListN.{get_elem?}
use Rattle.depot_rule.specs.declared.view.View.{View}
use Rattle.affinity.specs.Ancestors.{one_if, tally, Covers}
use Rattle.depot_rule.specs.Sums.{total}
use Rattle.depot_rule.specs.Shares.{Each, Has}
use Rattle.affinity.specs.declared.affinity.Kind.{Kind}

-- 1 where the seat has the parcel of k, or its slot
abbrev pub has_out : {P E : Type 0} → ℕ → View P E → ℕ
has_out k v = tally k v.gone + one_if (v.out == k)

-- a parcel for the node k: of the kind of that which was there at the start
abbrev pub IsParcel : {P : Type 0} → (P → Kind) → List (Option P) → ℕ → Option P → Type 0
IsParcel kind_of first k y = (p : _) × (y ≡ Some p) × ((q : _) × (slice_index_or first k None ≡ Some q) × (kind_of p ≡ kind_of q))

module _ {P E : Type 0} where
  -- of what lies in the slots (none where a slot is out), and of one view
  pub record Carries (kind_of : P → Kind) (parents : List ℕ) (first : List (Option P)) (homes : List (maybe.Option (Option P))) (v : View P E) : Type 0 where
    pub opened : v.first ≡ first
    pub nodes : (b : ℕ) (g : List (Option P)) → Has v b g → (0 < b) × (b < length parents)
    pub single : (k : ℕ) → 0 < k → has_out k v ≤ 1
    -- what the seat has is covered by one of its grants
    pub cover : (k : ℕ) → 0 < k → 0 < has_out k v → (b : ℕ) × (g : List (Option P)) × Has v b g × Covers parents b k
    -- a grant has a parcel for each node that it covers
    pub whole : (b k : ℕ) (g : List (Option P)) → Has v b g → Covers parents b k → 0 < k → k < length parents
        → IsParcel kind_of first k (slice_index_or g k None)
    -- what it covers and hasn't taken lies in its slot as it was granted
    pub there : (b k : ℕ) (g : List (Option P)) → Has v b g → Covers parents b k → 0 < k → k < length parents → has_out k v ≡ 0
        → get_elem? homes k ≡ some (some (slice_index_or g k None))
    -- its slot is home, empty, where the seat has the parcel alone
    pub empty : (k : ℕ) → 0 < k → 0 < tally k v.gone → get_elem? homes k ≡ some (some None)

  -- the second pass: of what lies in the slots, and of all views
  pub record Parcels (kind_of : P → Kind) (parents : List ℕ) (first : List (Option P)) (homes : List (maybe.Option (Option P)))
      (views : List (List (View P E))) : Type 0 where
    pub slots : length homes ≡ length parents
    -- a parcel that no seat has is at home
    pub home : (k : ℕ) → 0 < k → k < length parents → total (total (has_out k)) views ≡ 0 → (y : Option P) × (get_elem? homes k ≡ some (some y))
        × IsParcel kind_of first k y
    pub carries : Each (Carries kind_of parents first homes) views
