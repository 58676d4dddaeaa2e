-- Sums over lists.
use Rattle.std.specs.Prelude.{ℕ, ◌+◌, ◌==◌, suc, Bool, true, false, List, [], ◌∷◌, Option, Some, None}

-- f of each element, added up
abbrev pub total : {A : Type 0} → (A → ℕ) → List A → ℕ
total f [] = 0
total f (x ∷ xs) = f x + total f xs

-- f of each place that is taken, added up; the list's first place is the k-th
abbrev pub over_taken : {A : Type 0} → (ℕ → ℕ) → ℕ → List (Option A) → ℕ
over_taken f k [] = 0
over_taken f k (None ∷ xs) = over_taken f (suc k) xs
over_taken f k (Some x ∷ xs) = f k + over_taken f (suc k) xs

abbrev pub if_here : Bool → List ℕ → List ℕ → List ℕ
if_here true here further = here
if_here false here further = further

-- the list without the first a in it
abbrev pub without : ℕ → List ℕ → List ℕ
without a [] = []
without a (x ∷ xs) = if_here (x == a) xs (x ∷ without a xs)
