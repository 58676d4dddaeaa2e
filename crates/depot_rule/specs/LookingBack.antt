-- What a seat learns that looks back on the one history.
use Rattle.std.specs.Prelude.{◌≡◌, ℕ, ◌<◌, nat_lt, List, length, Option}
use Rattle.atomic_table.specs.Table.{Step}
use Rattle.affinity.specs.Ancestors.{one_if, tally}
use Rattle.depot_rule.specs.declared.view.View.{View}
use Rattle.depot_rule.specs.declared.view.Entry.{Entry}
use Rattle.depot_rule.specs.Sums.{total}
use Rattle.depot_rule.specs.Shares.{too_many}
use Rattle.depot_rule.specs.Seats.{OnOne}
use Rattle.depot_rule.specs.Plays.{Place, IsOnly}
use Rattle.depot_rule.specs.History.{Behaviour, IsHistory, Ascends, entries_of}

module _ {P E : Type 0} where
  -- the seat has seen the whole history, each place there is its own, and so is each entry, however entries are weighed
  pub record HasAll (v : View P E) (log : List E) : Type 0 where
    pub seen : log ≡ v.seen
    pub places : (p : ℕ) → tally p v.mine ≡ one_if (nat_lt p (length log))
    pub entries : (weigh : E → ℕ) → total weigh (entries_of v) ≡ total weigh log

module _ {P C R B : Type 0} where
  -- There is one history, which begins with what the seat has seen, of fewer than 2^62 + 300,000 entries. The seat's own entries stand
  -- in what it has seen, each before those that it made later. The only seat has all of the history.
  pub record LooksBack (m : Behaviour P C R B) (v : View P (Entry P C R)) : Type 0 where
    pub log : List (Entry P C R)
    pub history : IsHistory m v.tree v.first v log
    pub few : length log < too_many
    pub order : Ascends v.mine
    pub within : (p : ℕ) → 0 < tally p v.mine → p < length v.seen
    pub all : IsOnly v → HasAll v log

  -- a load by which a seat learns that, and which changes nothing
  abbrev pub LookBackSays : Behaviour P C R B → Step (Option P) → Place P (Entry P C R) → ℕ → Place P (Entry P C R) → Type 0
  LookBackSays m st me found me' = (me' ≡ me) × OnOne (LooksBack m) me.0
