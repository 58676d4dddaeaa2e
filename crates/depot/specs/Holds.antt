-- What a running call of a seat has at hand: the parcels of one of its grants that it hasn't taken.
use Rattle.std.specs.Prelude.{◌≡◌, ℕ, ◌<◌, ◌==◌, nat_lt, Bool, ◌&&◌, List, [], ◌∷◌, ◌++◌, length, slice_index_or, Option, Some, None, if◌then◌else◌}
use Rattle.depot_rule.specs.declared.view.View.{View}
use Rattle.depot_rule.specs.declared.view.Read.{Read}
use Rattle.affinity.specs.Ancestors.{tally, Covers, Excludes}
use Rattle.depot_rule.specs.Shares.{Has}
use Rattle.depot_rule.specs.History.{covers}
use Rattle.depot_rule.specs.Seats.{view_of}

abbrev pub listed_by : {P : Type 0} → Option (List (Option P)) → ℕ → Option P
listed_by None k = None
listed_by (Some g) k = slice_index_or g k None

module _ {P E : Type 0} where
  -- b covers the node k, and the seat hasn't its parcel
  abbrev pub is_untaken : View P E → ℕ → ℕ → Bool
  is_untaken v b k = (nat_lt 0 k && nat_lt k (length v.tree)) && (covers v.tree b k && (tally k v.gone == 0))

  -- what the seat's grant of b lists at k, where it hasn't been taken
  abbrev pub untaken : View P E → ℕ → ℕ → Option P
  untaken v b k = if is_untaken v b k then listed_by (slice_index_or v.held b None) k else None

  -- the parcel p is the one that the seat's grant of b lists at k
  abbrev pub Lists : View P E → ℕ → ℕ → P → Type 0
  Lists v b k p = (0 < k) × (k < length v.tree) × Covers v.tree b k × ((g : List (Option P)) × Has v b g × (slice_index_or g k None ≡ Some p))

  -- some parcels that b covers were taken or given, and nothing else
  abbrev pub Handled : ℕ → List (View P E) → List (View P E) → Type 0
  Handled b vs ws = (gone : List ℕ) × (more : List Read) × (ws ≡ record (view_of vs) { gone = gone; reads = more ++ (view_of vs).reads } ∷ [])
      × ((k : ℕ) → (Covers (view_of vs).tree b k → ⊥) → tally k gone ≡ tally k (view_of vs).gone)

  -- each parcel of each open grant was taken
  abbrev pub IsGathered : View P E → Type 0
  IsGathered v = (b k : ℕ) (g : List (Option P)) → Has v b g → 0 < k → k < length v.tree → Covers v.tree b k → 0 < tally k v.gone

  -- no grant of the seat excludes another
  abbrev pub IsApart : View P E → Type 0
  IsApart v = (b c : ℕ) (g h : List (Option P)) → Has v b g → Has v c h → Excludes v.tree b c → b ≡ c
