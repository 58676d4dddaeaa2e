-- A tree as the list of its nodes' parents. Nodes have numbers from 1 on, parents before their children; a root has parent 0, and entry 0 is no node.
use Rattle.std.specs.Prelude.{◌≡◌, ◌⊎◌, ℕ, ◌+◌, ◌<◌, ◌==◌, zero, suc, Bool, true, false, List, [], ◌∷◌, slice_index}

abbrev pub one_if : Bool → ℕ
one_if true = 1
one_if false = 0

-- how often a stands in the list
abbrev pub tally : ℕ → List ℕ → ℕ
tally a [] = 0
tally a (x ∷ xs) = one_if (x == a) + tally a xs

abbrev pub IsTree : List ℕ → Type 0
IsTree parents = (b : ℕ) → 0 < b → slice_index parents b < b

-- a parent, if there is one, and the nodes above it
abbrev pub from_parent : (ℕ → List ℕ) → ℕ → List ℕ
from_parent further zero = []
from_parent further (suc p) = suc p ∷ further (suc p)

-- the nodes above b, at most as many as the first number says
abbrev pub upwards : List ℕ → ℕ → ℕ → List ℕ
upwards parents zero b = []
upwards parents (suc most) b = from_parent (upwards parents most) (slice_index parents b)

-- the nodes above b, the nearest first
abbrev pub ancestors : List ℕ → ℕ → List ℕ
ancestors parents b = upwards parents b b

-- b is k, or above it
abbrev pub Covers : List ℕ → ℕ → ℕ → Type 0
Covers parents b k = (b ≡ k) ⊎ (0 < tally b (ancestors parents k))

-- one of the two is the other, or above it
abbrev pub Excludes : List ℕ → ℕ → ℕ → Type 0
Excludes parents b c = (b ≡ c) ⊎ ((0 < tally b (ancestors parents c)) ⊎ (0 < tally c (ancestors parents b)))
