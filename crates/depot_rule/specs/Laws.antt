-- What follows from the rule.
use Rattle.std.specs.Prelude.{◌≡◌, ◌⊎◌, ℕ, ◌<◌, ◌≤◌, nat_lt, List, [], ◌∷◌, ◌++◌, length, replicate, slice_index, slice_index_or, Option, Some, None}
use mathlib.Core.Option.{some}
use lib.ListN.{get_elem?}
use Rattle.atomic_table.specs.Table.{State, opening}
use Rattle.depot_rule.specs.declared.view.View.{View}
use Rattle.depot_rule.specs.declared.view.Entry.{Entry}
use Rattle.affinity.specs.Ancestors.{one_if, tally, IsTree, ancestors, Covers, Excludes}
use Rattle.depot_rule.specs.Sums.{total}
use Rattle.depot_rule.specs.History.{Behaviour, History, patched, after}
use Rattle.depot_rule.specs.Shares.{exclusive, too_many, Has, opening_view}
use Rattle.depot_rule.specs.Parcels.{has_out, IsParcel}
use Rattle.depot_rule.specs.Rule.{Base, Rule}
use Rattle.affinity.specs.declared.affinity.Kind.{Kind}

-- the i-th view of seat j has a grant of b
abbrev pub IsOpen : {P E : Type 0} → List (List (View P E)) → ℕ → ℕ → ℕ → Type 0
IsOpen views j i b = (vs : List _) × (v : View _ _) × (g : List (Option _)) × (get_elem? views j ≡ some vs) × (get_elem? vs i ≡ some v) × Has v b g

-- the parcel of k is at home
abbrev pub IsAtHome : {P E : Type 0} → (P → Kind) → List (Option P) → State (Option P) (List (View P E)) → ℕ → Type 0
IsAtHome kind_of first s k = (y : Option _) × (get_elem? s.homes k ≡ some (some y)) × IsParcel kind_of first k y

-- no entry is of a node that a excludes
abbrev pub AreElsewhere : {P C R : Type 0} → List ℕ → ℕ → List (Entry P C R) → Type 0
AreElsewhere parents a es = (i : ℕ) (e : _) → get_elem? es i ≡ some e → Excludes parents a e.node → ⊥

-- what is put in at b changes nothing that a covers, where a doesn't exclude b
abbrev pub PutInElsewhere : Type 0 → Type 0
PutInElsewhere P = (parents : List ℕ) → IsTree parents → (a b k : ℕ) (inner outer : ℕ → Option P)
    → (Excludes parents a b → ⊥) → Covers parents a k → patched parents b inner outer k ≡ outer k

-- entries of such nodes, which a history has besides, change nothing that a covers
abbrev pub StaysElsewhere : Type 0 → Type 0 → Type 0 → Type 0
StaysElsewhere P C R = (parents : List ℕ) → IsTree parents → (f : ℕ → Option P) (es more : List (Entry P C R)) (a k : ℕ)
    → AreElsewhere parents a more → Covers parents a k → after parents f (es ++ more) k ≡ after parents f es k

module _ (P E : Type 0) where
  -- two grants that exclude each other are one and the same
  abbrev pub GrantsAreApart : Type 0
  GrantsAreApart = (kind_of : P → Kind) (parents : List ℕ) (first : List (Option P)) (s : State (Option P) (List (View P E))) → Base kind_of parents first s
      → (j i b j' i' b' : ℕ) → IsOpen s.views j i b → IsOpen s.views j' i' b' → Excludes parents b b' → (j ≡ j') × (i ≡ i') × (b ≡ b')

  -- a parcel is at home, or a grant covers its node
  abbrev pub ParcelsArePlaced : Type 0
  ParcelsArePlaced = (kind_of : P → Kind) (parents : List ℕ) (first : List (Option P)) (s : State (Option P) (List (View P E))) → Base kind_of parents first s
      → (k : ℕ) → 0 < k → k < length parents → IsAtHome kind_of first s k ⊎ ((j : ℕ) × (i : ℕ) × (b : ℕ) × IsOpen s.views j i b × Covers parents b k)

  -- at most one seat has it
  abbrev pub ParcelsAreSingle : Type 0
  ParcelsAreSingle = (kind_of : P → Kind) (parents : List ℕ) (first : List (Option P)) (s : State (Option P) (List (View P E))) → Base kind_of parents first s
      → (k : ℕ) → 0 < k → total (total (has_out k)) s.views ≤ 1

  -- the word of a node above a grant's has a share and no claim
  abbrev pub GrantsHaveEntered : Type 0
  GrantsHaveEntered = (kind_of : P → Kind) (parents : List ℕ) (first : List (Option P)) (s : State (Option P) (List (View P E))) → Base kind_of parents first s
      → (j i b a : ℕ) → IsOpen s.views j i b → 0 < tally a (ancestors parents b) → (0 < slice_index s.words a) × (slice_index s.words a < exclusive)

  -- a word has its exclusive part exactly when a grant of that very node is open
  abbrev pub ExclusiveIsGranted : Type 0
  ExclusiveIsGranted = (kind_of : P → Kind) (parents : List ℕ) (first : List (Option P)) (s : State (Option P) (List (View P E))) → Base kind_of parents first s
      → (a : ℕ) → 0 < a → a < length parents
      → (exclusive ≤ slice_index s.words a → (j : ℕ) × (i : ℕ) × IsOpen s.views j i a) × ((j i : ℕ) → IsOpen s.views j i a → exclusive ≤ slice_index s.words a)

  -- the rule holds of a new depot: all words 0, each parcel in its slot, and one seat that has nothing
  abbrev pub OpensWithin : Type 0
  OpensWithin = (kind_of : P → Kind) (parents : List ℕ) (first : List (Option P)) → IsTree parents → length parents ≤ 1024 → length first ≡ length parents
      → ((k : ℕ) → 0 < k → k < length parents → (p : P) × (slice_index_or first k None ≡ Some p))
      → Base {E = E} kind_of parents first (opening (replicate (length parents) 0) first (opening_view parents first ∷ []))

  -- where the only seat has no grant, every parcel is at home
  abbrev pub ClosesWhole : Type 0
  ClosesWhole = (kind_of : P → Kind) (parents : List ℕ) (first : List (Option P)) (s : State (Option P) (List (View P E))) → Base kind_of parents first s
      → (id : ℕ) (v : View P E) → get_elem? s.views id ≡ some (v ∷ []) → v.parts ≡ 64 → ((b : ℕ) (g : List (Option P)) → Has v b g → ⊥)
      → (k : ℕ) → 0 < k → k < length parents → IsAtHome kind_of first s k

module _ {P C R B : Type 0} (kind_of : P → Kind) (m : Behaviour P C R B) where
  -- there is one history of all seats (`History`), and the ticket says how long it is: fewer than 2^62 + 300,000 entries
  abbrev pub HistoryIsOne : Type 0
  HistoryIsOne = (parents : List ℕ) (first : List (Option P)) (s : State (Option P) (List (View P (Entry P C R)))) → Rule kind_of m parents first s
      → (h : History m parents first s) × (slice_index s.words 0 ≡ length h.log) × (length h.log < too_many)

  -- the only seat has seen all of it, and its entries are all entries
  abbrev pub OnlySeatHasAll : Type 0
  OnlySeatHasAll = (parents : List ℕ) (first : List (Option P)) (s : State (Option P) (List (View P (Entry P C R)))) (r : Rule kind_of m parents first s)
      → (id : ℕ) (v : View P (Entry P C R)) → get_elem? s.views id ≡ some (v ∷ []) → v.parts ≡ 64
      → (r.history.log ≡ v.seen) × ((p : ℕ) → tally p v.mine ≡ one_if (nat_lt p (length v.seen)))
