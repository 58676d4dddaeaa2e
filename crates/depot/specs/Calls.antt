-- What a call does to a seat's one view.
use Rattle.std.specs.Prelude.{◌≡◌, ◌≢◌, ◌⊎◌, ℕ, ◌<◌, ◌≤◌, List, [], ◌∷◌, ◌++◌, length, slice_set, slice_index_or, Option, Some, None}
use mathlib.Core.Option.{some}
use lib.ListN.{get_elem?}
use Rattle.depot_rule.specs.declared.view.View.{View}
use Rattle.depot_rule.specs.declared.view.Read.{Read}
use Rattle.affinity.specs.Ancestors.{tally, ancestors, Covers, Excludes}
use Rattle.depot_rule.specs.Shares.{exclusive, grant_shares, shares, Has}
use Rattle.depot_rule.specs.Parcels.{has_out, IsParcel}
use Rattle.depot_rule.specs.Seats.{view_of}
use Rattle.depot_rule.specs.Plays.{IsOnly}
use Rattle.affinity.specs.declared.affinity.Kind.{Kind}

abbrev pub IsAmong : {A : Type 0} → A → List A → Type 0
IsAmong x xs = (i : ℕ) × (get_elem? xs i ≡ some x)

-- what refuses a claim of b: a word above it that was claimed, or its own word that was not 0
abbrev pub Refuses : List ℕ → ℕ → ℕ → ℕ → Type 0
Refuses parents b node found = ((0 < tally node (ancestors parents b)) × (exclusive ≤ found)) ⊎ ((node ≡ b) × (found ≢ 0))

module _ {P E : Type 0} where
  -- one step on a word
  abbrev pub read_of : ℕ → ℕ → View P E → Read
  read_of word found v = record { word = word; value = found; shares = shares word v }

  -- the view has this path, and these reads more
  abbrev pub Moved : View P E → List ℕ → List Read → List (View P E) → Type 0
  Moved v path more vs = vs ≡ record v { path = path; reads = more ++ v.reads } ∷ []

  -- the seat was refused by a word: this call found this value there, and the seat then had no share in it but for its grants
  abbrev pub IsRead : View P E → ℕ → ℕ → List Read → Type 0
  IsRead v node found more = IsAmong (record { word = node; value = found; shares = grant_shares node v }) more

  -- a grant of the seat excludes b
  abbrev pub IsExcluded : View P E → ℕ → Type 0
  IsExcluded v b = (c : ℕ) × (h : List (Option P)) × Has v c h × Excludes v.tree b c

  -- the seat has a new grant g of b, with a parcel for each node that b covers, none of them taken yet
  abbrev pub IsGranted : (P → Kind) → View P E → ℕ → List (Option P) → List Read → List (View P E) → Type 0
  IsGranted kind_of v b g more vs = (vs ≡ record v { looked = 0; held = slice_set v.held b (Some g); reads = more ++ v.reads } ∷ [])
      × ((k : ℕ) → 0 < k → k < length v.tree → Covers v.tree b k → IsParcel kind_of v.first k (slice_index_or g k None))
      × ((k : ℕ) → 0 < k → Covers v.tree b k → has_out k v ≡ 0)
      × (get_elem? v.held b ≡ some None)

  abbrev pub MovedTo : View P E → List ℕ → List (View P E) → Type 0
  MovedTo v path vs = (more : List Read) × Moved v path more vs

  -- a word above b was found claimed; it is a grant of this seat's, if there is no other seat
  abbrev pub FoundClaimed : List ℕ → View P E → ℕ → ℕ → ℕ → List (View P E) → Type 0
  FoundClaimed parents v b node found vs = (more : List Read) × Moved v [] more vs × IsRead v node found more
      × (0 < tally node (ancestors parents b)) × (exclusive ≤ found) × (IsOnly v → (g : List (Option P)) × Has v node g)

  -- b wasn't granted; if there is no other seat, a grant of this one excludes it
  abbrev pub WasRefused : List ℕ → View P E → ℕ → ℕ → ℕ → List (View P E) → Type 0
  WasRefused parents v b node found vs = (more : List Read) × Moved v [] more vs × IsRead v node found more × Refuses parents b node found
      × (IsOnly v → IsExcluded v b)

  -- the view of a seat between two calls
  abbrev pub own_views : List (List (View P E)) → List (View P E)
  own_views [] = []
  own_views (vs ∷ more) = vs

  abbrev pub known : List (List (View P E)) → View P E
  known views = view_of (own_views views)
