-- How the only seat of a depot, and the grants that it has, back the books of a desk.
use Rattle.std.specs.Prelude.{◌≡◌, ◌≢◌, ℕ, Bool, true, false, List, map, Option, Some, None, option_map}
use mathlib.Core.Option.{some}
use lib.ListN.{get_elem?}
use Rattle.nfs_model.specs.Tree.{Layout, Affinity, excludes}
use Rattle.affinity.specs.declared.affinity.Kind.{Kind}
use Rattle.affinity.specs.Numbers.{number_of}
use Rattle.affinity.specs.Tree.{IsNode}
use Rattle.parcels.specs.Exact.{HasExactly}
use Rattle.depot_rule.specs.declared.view.View.{View}
use Rattle.depot_rule.specs.declared.view.Entry.{Entry}
use Rattle.depot_rule.specs.History.{Behaviour, listed, after, entries_of}
use Rattle.depot_rule.specs.Shares.{Has}
use Rattle.depot_rule.specs.Plays.{IsOnly}
use Rattle.depot.specs.Grants.{entry_of, IsSeatOf, HasWith, IsBegun, IsAfter, IsStep, HasInHand, IsFinished}
use Rattle.desk.specs.laws.Books.{Lent, Books, HasLent}
use Rattle.desk.specs.laws.Calls.{DoesTask}

-- what is lent, as a grant shows it in a layout
abbrev pub Shows : Type 0 → Type 0 → Type 0
Shows G P = Layout → G → Lent P

-- the books of a seat with this view, whose grants are lent to workers
abbrev pub books_of : {P C R G : Type 0} → Shows G P → Layout → View P (Entry P C R) → List (Option G) → Books P C R
books_of lent layout v grants = record { layout = layout; first = listed v.first; entries = v.seen; lent = map (λ g. option_map (lent layout) g) grants }

-- whether what a worker has excludes an affinity
abbrev pub excludes_lent : {P : Type 0} → Layout → Affinity → Option (Lent P) → Bool
excludes_lent layout a None = false
excludes_lent layout a (Some l) = excludes layout a l.affinity

-- of these grants by worker one excludes an affinity
abbrev pub IsTakenIn : {P G : Type 0} → Shows G P → Layout → List (Option G) → Affinity → Type 0
IsTakenIn lent layout grants a = (worker : ℕ) × (g : Option _) × (get_elem? grants worker ≡ some g)
    × (excludes_lent layout a (option_map (lent layout) g) ≡ true)

-- what is lent has just the parcels under its affinity
pub record IsWhole {P : Type 0} (kind : P → Kind) (layout : Layout) (l : Lent P) : Type 0 where
  pub exact : HasExactly kind layout l.affinity l.parcels

module _ {P C R : Type 0} (kind : P → Kind) where
  -- what is lent has just the parcels under its affinity, and the seat has a grant of them, as the finished calls left them
  pub record IsBacked (layout : Layout) (v : View P (Entry P C R)) (l : Lent P) : Type 0 where
    pub node : IsNode layout l.affinity
    pub exact : HasExactly kind layout l.affinity l.parcels
    pub granted : HasWith v (number_of layout l.affinity) (after v.tree (listed v.first) v.seen)

  -- the view is the only seat's of a depot, which made each entry; each grant that it has is lent to a worker, and no two
  -- that are lent exclude each other
  pub record IsBook (b : Books P C R) (v : View P (Entry P C R)) : Type 0 where
    pub seat : IsSeatOf kind b.layout v
    pub only : IsOnly v
    pub first : b.first ≡ listed v.first
    pub entries : b.entries ≡ v.seen
    pub own : entries_of v ≡ v.seen
    pub backed : (worker : ℕ) (l : Lent P) → HasLent b worker l → IsBacked b.layout v l
    pub all : (n : ℕ) (g : List (Option P)) → Has v n g → (worker : ℕ) × (l : Lent P) × HasLent b worker l × (number_of b.layout l.affinity ≡ n)
    pub apart : (i j : ℕ) (l k : Lent P) → HasLent b i l → HasLent b j k → i ≢ j → excludes b.layout l.affinity k.affinity ≡ false

  -- a depot granted a call on a, with what is lent
  pub record IsGranted {B : Type 0} (m : Behaviour P C R B) (layout : Layout) (v : View P (Entry P C R)) (a : Affinity) (l : Lent P)
      (w : View P (Entry P C R)) : Type 0 where
    pub affinity : l.affinity ≡ a
    pub exact : HasExactly kind layout l.affinity l.parcels
    pub begun : IsBegun v (number_of layout l.affinity) l.parcels w
    pub after : IsAfter m v (number_of layout l.affinity) l.parcels

  -- a depot can finish a call with what is lent
  pub record CanFinish {B : Type 0} (m : Behaviour P C R B) (layout : Layout) (v : View P (Entry P C R)) (l : Lent P) (call : C) (reply : R) : Type 0 where
    pub node : IsNode layout l.affinity
    pub exact : HasExactly kind layout l.affinity l.parcels
    pub step : IsStep m v (number_of layout l.affinity) call reply l.parcels
    pub hand : HasInHand m v call reply

  -- a depot finished a call with what is lent, and granted one on the same node, with what it left
  abbrev pub HasGoneOn : {B : Type 0} → Behaviour P C R B → Layout → View P (Entry P C R) → Lent P → C → R → View P (Entry P C R) → Type 0
  HasGoneOn m layout v l call reply w = (mid : View P (Entry P C R))
      × IsFinished m v (number_of layout l.affinity) (entry_of layout l.affinity l.parcels call reply) mid
      × IsGranted m layout mid l.affinity l w

-- a depot can take back what is lent
pub record CanPutBack {P C R : Type 0} (layout : Layout) (v : View P (Entry P C R)) (l : Lent P) : Type 0 where
  pub node : IsNode layout l.affinity
  pub as_granted : HasWith v (number_of layout l.affinity) l.parcels

-- a task changed what is lent
pub record IsDone {P O : Type 0} (does : DoesTask P O) (layout : Layout) (l : Lent P) (outcome : O) (l' : Lent P) : Type 0 where
  pub affinity : l'.affinity ≡ l.affinity
  pub did : does layout l.affinity l.parcels outcome l'.parcels
