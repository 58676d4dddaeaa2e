-- Words and shares. The word of a node is the sum of what the seats' views have added to it: 1 for each share, 2^32 for a claim.
use Rattle.std.specs.Prelude.{◌≡◌, ℕ, ◌+◌, ◌*◌, ◌<◌, ◌≤◌, ◌==◌, nat_lt, List, [], length, replicate, slice_index, Option, Some, None}
use mathlib.Core.Option.{some}
use lib.ListN.{get_elem?}
use Rattle.depot_rule.specs.declared.view.View.{View}
use Rattle.affinity.specs.Ancestors.{one_if, tally, IsTree, ancestors}
use Rattle.depot_rule.specs.Sums.{total, over_taken}

-- the part of a word that says that the node is claimed
abbrev pub exclusive : ℕ
exclusive = 4294967296

-- a ticket at which a call doesn't begin: 2^62
abbrev pub worn : ℕ
worn = 4611686018427387904

-- more entries than there ever are: 2^62 + 300,000
abbrev pub too_many : ℕ
too_many = 4611686018427687904

-- more rights to an entry than all seats have: a view has one for its look and one for each of at most 1,024 grants, and there are at most 64 views
abbrev pub most_rights : ℕ
most_rights = 128000

-- Q holds of each view of each seat
abbrev pub Each : {V : Type 0} → (V → Type 0) → List (List V) → Type 0
Each Q views = (j : ℕ) (vs : List _) → get_elem? views j ≡ some vs → (i : ℕ) (v : _) → get_elem? vs i ≡ some v → Q v

-- the first seat's view: all parts, nothing entered, granted or seen
abbrev pub opening_view : {P E : Type 0} → List ℕ → List (Option P) → View P E
opening_view parents first = record {
  parts = 64;
  tree = parents;
  unsure = 0;
  looked = 0;
  stamped = 0;
  path = [];
  held = replicate (length parents)
      None;
  out = 0;
  gone = [];
  reads = [];
  first = first;
  seen = [];
  mine = [];
}

module _ {P E : Type 0} where
  -- the view has a grant of b, with the parcels g by node
  abbrev pub Has : View P E → ℕ → List (Option P) → Type 0
  Has v b g = get_elem? v.held b ≡ some (Some g)

  abbrev pub parts : View P E → ℕ
  parts v = v.parts

  -- the entries that the view made
  abbrev pub made : View P E → ℕ
  made v = length v.mine

  abbrev pub open_grants : View P E → ℕ
  open_grants v = over_taken (λ b. 1) 0 v.held

  -- the entries that the view made, and those that it may make: for the call that begins, and for each open grant
  abbrev pub due : View P E → ℕ
  due v = (made v + v.looked) + open_grants v

  -- 1 where a grant was stamped and not yet given up
  abbrev pub unsettled : View P E → ℕ
  unsettled v = one_if (nat_lt 0 v.stamped)

  -- 1 where the view has a grant of a itself
  abbrev pub claims : ℕ → View P E → ℕ
  claims a v = over_taken (λ b. one_if (b == a)) 0 v.held

  -- the shares in a that the view has for its grants of nodes below a
  abbrev pub lower : ℕ → View P E → ℕ
  lower a v = over_taken (λ b. tally a (ancestors v.tree b)) 0 v.held

  -- its shares in a that were found free of a claim
  abbrev pub entered : ℕ → View P E → ℕ
  entered a v = tally a v.path + lower a v

  -- what its open grants have added to the word of a
  abbrev pub grant_shares : ℕ → View P E → ℕ
  grant_shares a v = lower a v + exclusive * claims a v

  -- what the view has added to the word of a
  abbrev pub shares : ℕ → View P E → ℕ
  shares a v = (entered a v + one_if (v.unsure == a)) + exclusive * claims a v

  -- of one view: it has a part, knows the tree, has a place for each node, entered no word twice, and looked for one call at most
  pub record IsWellFormed (parents : List ℕ) (v : View P E) : Type 0 where
    pub some_part : 0 < v.parts
    pub tree : v.tree ≡ parents
    pub wide : length v.held ≡ length parents
    pub once : (a : ℕ) → tally a v.path ≤ 1
    pub looked : v.looked ≤ 1

  -- the first pass: of the words, and of the views of all seats, seat by seat. Word 0 is the ticket, and no node's
  pub record Shares (parents : List ℕ) (words : List ℕ) (views : List (List (View P E))) : Type 0 where
    pub tree : IsTree parents
    pub few : length parents ≤ 1024
    pub as_many : length words ≡ length parents
    -- the splits of all seats, and the seats
    pub seats : total (total parts) views ≡ 64
    pub counted : (a : ℕ) → 0 < a → a < length parents → slice_index words a ≡ total (total (shares a)) views
    -- the ticket counts the entries of all views. What is made and what may be made is little more than 2^62; a grant that was stamped has used up its right
    pub ticket : slice_index words 0 ≡ total (total made) views
    pub bounded : total (total due) views ≤ (worn + most_rights) + total (total unsettled) views
    -- a node that is claimed is claimed once, and no share in it was found free
    pub alone : (a : ℕ) → 0 < a → a < length parents → 0 < total (total (claims a)) views → (total (total (claims a)) views ≡ 1)
        × (total (total (entered a)) views ≡ 0)
    pub sound : Each (IsWellFormed parents) views
