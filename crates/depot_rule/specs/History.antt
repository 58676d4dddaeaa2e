-- The one history: a list of entries, each of which put parcels in. Each parcel is as the history left it.
use Rattle.std.specs.Prelude.{◌≡◌, ℕ, zero, suc, ◌+◌, ◌<◌, ◌==◌, nat_lt, Bool, ◌||◌, List, [], ◌∷◌, ◌++◌, length, slice_index_or, slice_get, Option, Some, None}
use mathlib.Core.Option.{some}
use lib.ListN.{get_elem?}
use Rattle.atomic_table.specs.Table.{State}
use Rattle.depot_rule.specs.declared.view.View.{View}
use Rattle.depot_rule.specs.declared.view.Entry.{Entry}
use Rattle.affinity.specs.Ancestors.{one_if, tally, ancestors, Covers}
use Rattle.depot_rule.specs.Sums.{total}
use Rattle.depot_rule.specs.Shares.{Each, Has}
use Rattle.depot_rule.specs.Parcels.{has_out}
use Rattle.depot_rule.specs.Seats.{if_less}

-- whether b is k, or above it
abbrev pub covers : List ℕ → ℕ → ℕ → Bool
covers parents b k = (b == k) || nat_lt 0 (tally b (ancestors parents k))

-- parcels by node: the inner ones where a covers the node, else the outer ones
abbrev pub patched : {P : Type 0} → List ℕ → ℕ → (ℕ → Option P) → (ℕ → Option P) → ℕ → Option P
patched parents a inner outer k = if_less (covers parents a k) (inner k) (outer k)

-- parcels by node, of a list
abbrev pub listed : {P : Type 0} → List (Option P) → ℕ → Option P
listed ys k = slice_index_or ys k None

-- parcels by node as a list, of this many places
abbrev pub by_number : {P : Type 0} → (ℕ → Option P) → ℕ → List (Option P)
by_number f zero = []
by_number f (suc n) = by_number f n ++ f n ∷ []

-- numbers in ascending order
abbrev pub Ascends : List ℕ → Type 0
Ascends [] = Unit {0}
Ascends (x ∷ xs) = ((y : ℕ) → 0 < tally y xs → x < y) × Ascends xs

-- the second list begins the first
abbrev pub StartsWith : {A : Type 0} → List A → List A → Type 0
StartsWith xs start = (rest : List _) × (start ++ rest ≡ xs)

-- before the others, an element if there is one
abbrev pub or_nothing : {A : Type 0} → Option A → List A → List A
or_nothing None xs = xs
or_nothing (Some x) xs = x ∷ xs

-- what stands at these places
abbrev pub chosen : {A : Type 0} → List A → List ℕ → List A
chosen xs [] = []
chosen xs (p ∷ ps) = or_nothing (slice_get xs p) (chosen xs ps)

-- of the tree, a call's node, the call, the parcels before it, its reply and the parcels after it
abbrev pub Steps : Type 0 → Type 0 → Type 0 → Type 1
Steps P C R = List ℕ → ℕ → C → (ℕ → Option P) → R → (ℕ → Option P) → Type 0

-- of the tree, all parcels, all batches in hands and the count of entries
abbrev pub Invariant : Type 0 → Type 0 → Type 1
Invariant P B = List ℕ → (ℕ → Option P) → List B → ℕ → Type 0

-- what a machine does: the steps of calls, the batches that they take into hands and give from them, and what has to hold
pub record Behaviour (P C R B : Type 0) : Type 1 where
  pub steps : Steps P C R
  pub takes : C → R → List B
  pub gives : C → R → List B
  pub invariant : Invariant P B

abbrev pub behaviour : {P C R B : Type 0} → Steps P C R → (C → R → List B) → (C → R → List B) → Invariant P B → Behaviour P C R B
behaviour steps takes gives invariant = record { steps = steps; takes = takes; gives = gives; invariant = invariant }

-- parcels at home, and those that grants list, are as f has them
pub record Current {P E : Type 0} (parents : List ℕ) (f : ℕ → Option P) (s : State (Option P) (List (View P E))) : Type 0 where
  pub now : (k : ℕ) → 0 < k → k < length parents → total (total (has_out k)) s.views ≡ 0 → get_elem? s.homes k ≡ some (some (f k))
  pub granted : Each (λ (v : View P E). (b k : ℕ) (g : List (Option P)) → Has v b g → Covers parents b k → 0 < k → k < length parents
      → slice_index_or g k None ≡ f k) s.views

-- the entries that a seat made
abbrev pub entries_of : {P E : Type 0} → View P E → List E
entries_of v = chosen v.seen v.mine

module _ {P C R : Type 0} where
  -- what an entry left, put in
  abbrev pub put_in : List ℕ → Entry P C R → (ℕ → Option P) → ℕ → Option P
  put_in parents e f = patched parents e.node (listed e.left) f

  -- the opening parcels with what each entry left put in, in order
  abbrev pub after : List ℕ → (ℕ → Option P) → List (Entry P C R) → ℕ → Option P
  after parents f [] = f
  after parents f (e ∷ es) = after parents (put_in parents e f) es

  -- each call is a step from the parcels that it found to its reply and the parcels that it left
  abbrev pub Legal : Steps P C R → List ℕ → (ℕ → Option P) → List (Entry P C R) → Type 0
  Legal steps parents f [] = Unit {0}
  Legal steps parents f (e ∷ es) = steps parents e.node e.call f e.reply (put_in parents e f) × Legal steps parents (put_in parents e f) es

  -- the batches that entries took, and those that they gave
  abbrev pub batches_of : {B : Type 0} → (C → R → List B) → List (Entry P C R) → List B
  batches_of batches [] = []
  batches_of batches (e ∷ es) = batches e.call e.reply ++ batches_of batches es

  -- the batches that were taken and not given, in any order: however batches are weighed, they weigh the difference
  abbrev pub AreHands : {B : Type 0} → (C → R → List B) → (C → R → List B) → List (Entry P C R) → List B → Type 0
  AreHands takes gives es hands = (weigh : _ → ℕ) → total weigh (batches_of gives es) + total weigh hands ≡ total weigh (batches_of takes es)

  -- at each place of the log, what has to hold of all parcels as the entries before it left them, and of all hands
  abbrev pub SoundThroughout : {B : Type 0} → Behaviour P C R B → List ℕ → (ℕ → Option P) → List (Entry P C R) → Type 0
  SoundThroughout m parents f log = (earlier later : List (Entry P C R)) → earlier ++ later ≡ log
      → (hands : List _) × AreHands m.takes m.gives earlier hands × m.invariant parents (after parents f earlier) hands (length earlier)

  -- the third pass: of the whole state, for a machine
  pub record History {B : Type 0} (m : Behaviour P C R B) (parents : List ℕ) (first : List (Option P))
      (s : State (Option P) (List (View P (Entry P C R)))) : Type 0 where
    pub log : List (Entry P C R)
    pub legal : Legal m.steps parents (listed first) log
    pub current : Current parents (after parents (listed first) log) s
    -- each seat has seen a beginning
    pub seen : Each (λ (v : View P (Entry P C R)). StartsWith log v.seen) s.views
    -- each entry is one seat's
    pub mine : (p : ℕ) → total (total (λ (v : View P (Entry P C R)). tally p v.mine)) s.views ≡ one_if (nat_lt p (length log))
    -- who has seen it, and has its places in order
    pub own : Each (λ (v : View P (Entry P C R)). Ascends v.mine × ((p : ℕ) → 0 < tally p v.mine → p < length v.seen)) s.views
    -- the entries of all seats are those of the log, however entries are weighed
    pub shared : (weigh : Entry P C R → ℕ) → total (total (λ (v : View P (Entry P C R)). total weigh (entries_of v))) s.views ≡ total weigh log
    -- each seat's hand has what its entries took and didn't give, and all hands what all entries took and didn't give;
    -- of these the machine's invariant holds now, as it held of the hands at each place before
    pub hand : Each (λ (v : View P (Entry P C R)). (hand : List B) × AreHands m.takes m.gives (entries_of v) hand) s.views
    pub hands : List B
    pub all_hands : AreHands m.takes m.gives log hands
    pub sound : m.invariant parents (after parents (listed first) log) hands (length log)
    pub throughout : SoundThroughout m parents (listed first) log

  -- a history that a seat may know of that has seen so much, and has its own entries at these places: it begins with
  -- what was seen, and is legal, and the machine's invariant holds throughout. At its end all hands are the seat's hand
  -- and the others'
  pub record SoundHistory {B : Type 0} (m : Behaviour P C R B) (parents : List ℕ) (first : List (Option P)) (seen : List (Entry P C R))
      (mine : List ℕ) (log : List (Entry P C R)) : Type 0 where
    pub begins : StartsWith log seen
    pub legal : Legal m.steps parents (listed first) log
    pub hands : List B
    pub all_hands : AreHands m.takes m.gives log hands
    pub sound : m.invariant parents (after parents (listed first) log) hands (length log)
    pub throughout : SoundThroughout m parents (listed first) log
    pub hand : List B
    pub own_hand : AreHands m.takes m.gives (chosen seen mine) hand
    pub others : List B
    pub together : (weigh : B → ℕ) → total weigh hand + total weigh others ≡ total weigh hands

  -- the same of a seat's view
  abbrev pub IsHistory : {B : Type 0} → Behaviour P C R B → List ℕ → List (Option P) → View P (Entry P C R) → List (Entry P C R) → Type 0
  IsHistory m parents first v log = SoundHistory m parents first v.seen v.mine log
