-- The laws of what a depot serves.
use Rattle.std.specs.Prelude.{◌≡◌, ℕ, ◌+◌, List, Option}
use Rattle.depot_rule.specs.Sums.{total}
use Rattle.affinity.specs.Ancestors.{Covers}
use Rattle.depot_rule.specs.History.{patched, Steps, Invariant}

-- A call at a reads and writes only parcels that a covers: the others stay, and whatever they are it does the same
abbrev pub IsLocal : {P C R : Type 0} → Steps P C R → Type 0
IsLocal steps = (parents : List ℕ) (a : ℕ) (c : _) (f g : ℕ → Option _) (r : _) (f' : ℕ → Option _) → steps parents a c f r f'
    → ((k : ℕ) → (Covers parents a k → ⊥) → f' k ≡ f k)
    × (((k : ℕ) → Covers parents a k → g k ≡ f k) → steps parents a c g r (patched parents a f' g))

-- A call keeps what has to hold of all parcels, of all batches in hands (in any order) and of the count of entries
abbrev pub Keeps : {P C R B : Type 0} → Steps P C R → (C → R → List B) → (C → R → List B) → Invariant P B → Type 0
Keeps steps takes gives invariant = (parents : List ℕ) (a : ℕ) (c : _) (f : ℕ → Option _) (r : _) (f' : ℕ → Option _) (hands hands' : List _) (n : ℕ)
    → invariant parents f hands n → steps parents a c f r f'
    → ((weigh : _ → ℕ) → total weigh (gives c r) + total weigh hands' ≡ total weigh (takes c r) + total weigh hands)
    → invariant parents f' hands' (n + 1)
