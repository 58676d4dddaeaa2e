-- Entries of a list that are changed one after the other.
use Rattle.std.proofs.Common.{◌≡◌, ◌<◌, ℕ, zero, suc, ◌+◌, List, [], ◌∷◌, map, length, take, drop, get_or, slice_index_or, slice_set, refl, ap, arith}

one_changed : {A B : Type 0} (p : A → B) (t : B → B) (g : A → A) (i : ℕ) (xs ys : List A) (d : A) → ((a : A) → p (g a) ≡ t (p a)) → i < length ys
    → map p (take i xs) ≡ map t (map p (take i ys)) → drop i xs ≡ drop i ys
    → (map p (take (suc i) (slice_set xs i (g (slice_index_or xs i d)))) ≡ map t (map p (take (suc i) ys)))
    × (drop (suc i) (slice_set xs i (g (slice_index_or xs i d))) ≡ drop (suc i) ys)
one_changed p t g i xs [] d h lt before behind = absurd (omega (arith, lt))
one_changed {A} {B} p t g zero xs (y ∷ ys) d h lt before behind =
    rw behind (ap (λ (b : B). b ∷ []) (h y), refl)
one_changed p t g (suc i) [] (y ∷ ys) d h lt before behind = absurd cc
one_changed {A} {B} p t g (suc i) (x ∷ xs) (y ∷ ys) d h lt before behind =
    let rest = one_changed p t g i xs ys d h (omega (arith, lt)) (ap (λ (l : List B). drop 1 l) before) behind in
    let first : p x ≡ t (p y) = ap (λ (l : List B). get_or l 0 (p d)) before in
    (rw (first, rest.0) refl, rest.1)

-- the one at a place is changed by g, which is seen by p as t of it
pub one_more : {A B : Type 0} (p : A → B) (t : B → B) (g : A → A) (i : ℕ) (xs ys : List A) (d : A) → ((a : A) → p (g a) ≡ t (p a)) → i < length ys
    → map p (take i xs) ≡ map t (map p (take i ys)) → drop i xs ≡ drop i ys
    → (map p (take (i + 1) (slice_set xs i (g (slice_index_or xs i d)))) ≡ map t (map p (take (i + 1) ys)))
    × (drop (i + 1) (slice_set xs i (g (slice_index_or xs i d))) ≡ drop (i + 1) ys)
one_more p t g i xs ys d h lt before behind =
    let next : i + 1 ≡ suc i = omega arith in
    rw next (one_changed p t g i xs ys d h lt before behind)
