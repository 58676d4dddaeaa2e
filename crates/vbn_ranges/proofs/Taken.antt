-- The lowest bits taken.
use Rattle.std.proofs.Common.{◌≡◌, refl, sym, ap, subst, ℕ, zero, suc, ◌≤◌}
use Rattle.std.proofs.Common.{List, [], ◌∷◌, ◌++◌, length, take, drop, ◌⊎◌, ⊎_elim, arith}

front-whole : (n : ℕ) (front : List ℕ) → length front ≤ n → (front ≡ take n (front ++ [])) × ([] ≡ drop n (front ++ []))
front-whole zero [] l = (refl, refl)
front-whole (suc n) [] l = (refl, refl)
front-whole zero (b ∷ front) l = absurd (omega arith)
front-whole (suc n) (b ∷ front) l = let r = front-whole n front (omega arith) in (ap (λ bs. b ∷ bs) r.0, r.1)

front-full : (n : ℕ) (front back : List ℕ) → length front ≡ n → (front ≡ take n (front ++ back)) × (back ≡ drop n (front ++ back))
front-full zero [] back e = (refl, refl)
front-full (suc n) [] back e = absurd (omega arith)
front-full zero (b ∷ front) back e = absurd (omega arith)
front-full (suc n) (b ∷ front) back e = let r = front-full n front back (omega arith) in (ap (λ bs. b ∷ bs) r.0, r.1)

pub all-taken : (n : ℕ) (front back whole : List ℕ) → front ++ back ≡ whole → length front ≤ n → (back ≡ []) ⊎ (n ≤ length front)
    → (front ≡ take n whole) × (back ≡ drop n whole)
all-taken n front back whole e l h =
    subst (λ (w : List ℕ). (front ≡ take n w) × (back ≡ drop n w)) e
    (⊎_elim
    (λ none. subst (λ (bs : List ℕ). (front ≡ take n (front ++ bs)) × (bs ≡ drop n (front ++ bs))) (sym none) (front-whole n front l))
    (λ full. front-full n front back (omega arith)) h)
