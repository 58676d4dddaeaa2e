-- Where a running call stands: its place in the table, and the tree.
use Rattle.std.specs.Prelude.{◌≡◌, ℕ, ◌<◌, List, length, slice_index_or, Option, Some, None}
use Rattle.atomic_table.specs.Seated.{TableId}
use Rattle.atomic_table.specs.declared.shared.Seat.{Seat}
use Rattle.std.specs.declared.snapshot.Snapshot.{Snapshot}
use Rattle.depot_rule.specs.declared.view.View.{View}
use Rattle.affinity.specs.Ancestors.{IsTree, Covers, Excludes}
use Rattle.depot_rule.specs.Shares.{Has}
use Rattle.depot_rule.specs.Parcels.{has_out}
use Rattle.depot.specs.declared.table.Opening.{Opening}

-- the parents of a table that was opened so
abbrev pub tree_of : {P : Type 0} → Snapshot (Opening P) → List ℕ
tree_of key = key.value.parents.items

-- the place is in the table, which has a word for each node of the tree, also for this one
abbrev pub IsOn : TableId → TableId → List ℕ → ℕ → Type 0
IsOn place table ps node = (place ≡ table) × (node < table.words) × (table.words ≡ length ps)

-- the list is the tree's
abbrev pub IsTreeOf : List ℕ → List ℕ → Type 0
IsTreeOf parents ps = (parents ≡ ps) × IsTree parents

-- it is the same place, and as many slots are out with it
abbrev pub IsStill : {S V : Type 0} → Seat S V → Seat S V → Type 0
IsStill old new = (new.table_id ≡ old.table_id) × (new.me.1 ≡ old.me.1)

module _ {P E : Type 0} where
  -- the parcels of a grant of the node are at home
  abbrev pub AreHome : List ℕ → ℕ → View P E → Type 0
  AreHome ps node v = (k : ℕ) (g : List (Option P)) (p : P) → Has v node g → 0 < k → k < length ps → Covers ps node k
      → slice_index_or g k None ≡ Some p → has_out k v ≡ 0

  -- no other grant of the seat excludes the node
  abbrev pub IsAlone : View P E → ℕ → Type 0
  IsAlone v node = (c : ℕ) (h : List (Option P)) → Has v c h → Excludes v.tree node c → c ≡ node

  -- all that the node covers is out with the seat
  abbrev pub AreOut : List ℕ → ℕ → View P E → Type 0
  AreOut ps node v = (k : ℕ) → 0 < k → k < length ps → Covers ps node k → 0 < has_out k v

  -- of each node that is covered the list has a parcel, of the kind of that which was there at the start
  abbrev pub Fits : {K : Type 0} → (P → K) → List ℕ → ℕ → List (Option P) → View P E → Type 0
  Fits kind ps node left v = (k : ℕ) → 0 < k → k < length ps → Covers ps node k
      → (p : P) × (slice_index_or left k None ≡ Some p) × ((q : P) → slice_index_or v.first k None ≡ Some q → kind p ≡ kind q)
