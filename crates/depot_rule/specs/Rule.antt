-- What holds between any two steps.
use Rattle.std.specs.Prelude.{ℕ, List, Option}
use Rattle.atomic_table.specs.Table.{State}
use Rattle.depot_rule.specs.declared.view.View.{View}
use Rattle.depot_rule.specs.declared.view.Entry.{Entry}
use Rattle.depot_rule.specs.Shares.{Shares}
use Rattle.depot_rule.specs.Parcels.{Parcels}
use Rattle.depot_rule.specs.History.{Behaviour, History}
use Rattle.affinity.specs.declared.affinity.Kind.{Kind}

-- the first two passes, of any entries. The tree and the opening parcels are fixed when the depot is made
pub record Base {P E : Type 0} (kind_of : P → Kind) (parents : List ℕ) (first : List (Option P)) (s : State (Option P) (List (View P E))) : Type 0 where
  pub shares : Shares parents s.words s.views
  pub parcels : Parcels kind_of parents first s.homes s.views

-- all three, for a machine
pub record Rule {P C R B : Type 0} (kind_of : P → Kind) (m : Behaviour P C R B) (parents : List ℕ) (first : List (Option P))
    (s : State (Option P) (List (View P (Entry P C R)))) : Type 0 where
  pub base : Base kind_of parents first s
  pub history : History m parents first s
