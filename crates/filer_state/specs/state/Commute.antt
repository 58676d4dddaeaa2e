-- Steps at nodes of which neither is the other or above it.
use Rattle.std.specs.Prelude.{ℕ, List, Option}
use Rattle.affinity.specs.Ancestors.{IsTree, Excludes}
use Rattle.depot_rule.specs.History.{Steps}

-- Two such steps, made one after the other, can be made in the other order, with the same replies, to the same parcels.
abbrev pub Commute : {P C R : Type 0} → Steps P C R → Type 0
Commute steps = (parents : List ℕ) → IsTree parents → (a b : ℕ) → (Excludes parents a b → ⊥)
    → (c d : _) (r s : _) (f f' f'' : ℕ → Option _) → steps parents a c f r f' → steps parents b d f' s f''
    → (g : ℕ → Option _) × steps parents b d f s g × steps parents a c g r f''
