-- This many volumes of one plan.
use Rattle.std.proofs.Common.{◌≡◌, ℕ, zero, suc, ◌≤◌, ◌∷◌, map, take, refl, ap, arith}
use Rattle.std.specs.Prelude.{replicate}

pub some-of : {A B : Type 0} (f : A → B) (x : A) (n m : ℕ) → n ≤ m → map f (take n (replicate m x)) ≡ replicate n (f x)
some-of f x zero m few = refl
some-of f x (suc n) zero few = absurd (omega (arith, few))
some-of f x (suc n) (suc m) few = ap (λ xs. f x ∷ xs) (some-of f x n m (omega (arith, few)))
