-- Where lists of entries stand in one history.
use Rattle.std.specs.Prelude.{◌≡◌, ℕ, nat_lt, List, length, map}
use Rattle.std.specs.List.{AllByRecursion}
use Rattle.affinity.specs.Ancestors.{one_if, tally}
use Rattle.depot_rule.specs.declared.view.View.{View}
use Rattle.depot_rule.specs.Sums.{total}
use Rattle.depot_rule.specs.History.{Ascends, chosen}

module _ {E : Type 0} where
  -- Each list stands in the log at its own places, in the log's order: its places ascend, and what stands there is the list. And in all
  -- lists together each place stands this many times.
  pub record StandsAt (log : List E) (times : ℕ → ℕ) (lists : List (List E)) (places : List (List ℕ)) : Type 0 where
    pub ascend : AllByRecursion Ascends places
    pub chosen_are : map (chosen log) places ≡ lists
    pub each : (p : ℕ) → total (tally p) places ≡ times p

  -- These lists are the log's, each in the log's order, at its own places: each place of the log is in one list once.
  abbrev pub ArePlaced : List E → List (List E) → List (List ℕ) → Type 0
  ArePlaced log lists places = StandsAt log (λ p. one_if (nat_lt p (length log))) lists places

-- the entries of a seat are those of these lists, each of them in the history's order
abbrev pub HasPlaced : {P E : Type 0} → View P E → List (List E) → Type 0
HasPlaced v lists = (places : List (List ℕ)) × StandsAt v.seen (λ p. tally p v.mine) lists places
