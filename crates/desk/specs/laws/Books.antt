-- What is lent to workers, and the parcels as they are now.
use Rattle.std.specs.Prelude.{◌≡◌, ℕ, ◌+◌, ◌<◌, true, List, [], ◌∷◌, length, replicate, Option, Some, None}
use mathlib.Core.Option.{some}
use lib.ListN.{get_elem?}
use Rattle.nfs_model.specs.Tree.{Layout, Affinity, excludes}
use Rattle.affinity.specs.Ancestors.{Covers}
use Rattle.affinity.specs.Numbers.{number_of, node_count, parents}
use Rattle.depot_rule.specs.declared.view.Entry.{Entry}
use Rattle.depot_rule.specs.History.{Behaviour, AreHands, patched, listed, by_number, after}

-- what a worker was lent: the parcels under an affinity, as they are now
pub record Lent (P : Type 0) : Type 0 where
  pub affinity : Affinity
  pub parcels : ℕ → Option P

-- what is seen of a desk: the parcels at the start, the history, and by worker what is lent
pub record Books (P C R : Type 0) : Type 0 where
  pub layout : Layout
  pub first : ℕ → Option P
  pub entries : List (Entry P C R)
  pub lent : List (Option (Lent P))

-- parcels by node, with those that are lent as they are
abbrev pub overlaid : {P : Type 0} → Layout → List (Option (Lent P)) → (ℕ → Option P) → ℕ → Option P
overlaid layout [] f = f
overlaid layout (None ∷ ls) f = overlaid layout ls f
overlaid layout (Some l ∷ ls) f = overlaid layout ls (patched (parents layout) (number_of layout l.affinity) l.parcels f)

module _ {P C R : Type 0} where
  -- the parcels as the finished calls left them
  abbrev pub settled : Books P C R → ℕ → Option P
  settled b = after (parents b.layout) b.first b.entries

  -- the parcels as they are, with what the workers have changed
  abbrev pub now : Books P C R → ℕ → Option P
  now b = overlaid b.layout b.lent (settled b)

  -- how many calls were finished
  abbrev pub stamps : Books P C R → ℕ
  stamps b = length b.entries

  -- a worker was lent this
  abbrev pub HasLent : Books P C R → ℕ → Lent P → Type 0
  HasLent b worker l = get_elem? b.lent worker ≡ some (Some l)

  -- a worker was lent nothing
  abbrev pub IsIdle : Books P C R → ℕ → Type 0
  IsIdle b worker = get_elem? b.lent worker ≡ some None

  -- something is lent that excludes an affinity
  abbrev pub IsTaken : Books P C R → Affinity → Type 0
  IsTaken b a = (worker : ℕ) × (l : Lent P) × HasLent b worker l × (excludes b.layout a l.affinity ≡ true)

  -- Q of each node under what is lent
  abbrev pub UnderLent : Books P C R → Lent P → (ℕ → Type 0) → Type 0
  UnderLent b l Q = (k : ℕ) → 0 < k → k < length (parents b.layout) → Covers (parents b.layout) (number_of b.layout l.affinity) k → Q k

  -- what is lent is as the finished calls left it
  abbrev pub IsUnchanged : Books P C R → Lent P → Type 0
  IsUnchanged b l = UnderLent b l (λ k. l.parcels k ≡ settled b k)

  -- the parcels are the same
  abbrev pub IsSame : Books P C R → Books P C R → Type 0
  IsSame b c = (k : ℕ) → now c k ≡ now b k

  -- a desk with this many workers and these parcels, at the start
  abbrev pub opening_books : Layout → (ℕ → Option P) → ℕ → Books P C R
  opening_books layout f workers = record {
    layout = layout;
    first = listed (by_number f (1 + node_count layout));
    entries = [];
    lent = replicate workers None;
  }

  module _ {B : Type 0} (m : Behaviour P C R B) where
    -- a call leads from the parcels as the finished calls left them to those that are lent
    abbrev pub IsWorked : Books P C R → Lent P → C → R → Type 0
    IsWorked b l call reply = (f : ℕ → Option P) × UnderLent b l (λ k. f k ≡ settled b k)
        × m.steps (parents b.layout) (number_of b.layout l.affinity) call f reply l.parcels

    -- the batches that were taken and not given
    abbrev pub HasHands : Books P C R → List B → Type 0
    HasHands b hands = AreHands m.takes m.gives b.entries hands

    -- the machine's invariant, of the parcels as the finished calls left them
    abbrev pub IsSettled : Books P C R → Type 0
    IsSettled b = (hands : List B) × HasHands b hands × m.invariant (parents b.layout) (settled b) hands (stamps b)
