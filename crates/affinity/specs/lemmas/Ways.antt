-- Ways from the root, of which one begins another.
use Rattle.std.proofs.Common.{◌≡◌, ℕ, ◌≤◌, ◌==◌, true, false, ◌||◌, List, [], ◌∷◌, ◌++◌, length, refl, sym, ◌∙◌, ap, arith, ◌⊎◌, inl, inr, ⊎_elim}
use Rattle.std.proofs.lemmas.Bool.{and_parts, and_from, eqb-true, eq-eqb}
use Rattle.nfs_model.specs.Tree.{begins}

-- a way begins itself
pub begins-self : (xs : List ℕ) → begins xs xs ≡ true
begins-self [] = refl
begins-self (x ∷ xs) = and_from (x == x) (begins xs xs) (eq-eqb x x refl) (begins-self xs)

-- and every way that goes on from one that it begins
pub begins-longer : (xs ys zs : List ℕ) → begins xs ys ≡ true → begins xs (ys ++ zs) ≡ true
begins-longer [] ys zs h = refl
begins-longer (x ∷ xs) [] zs h = cc
begins-longer (x ∷ xs) (y ∷ ys) zs h =
    let parts = and_parts (x == y) (begins xs ys) h in
    and_from (x == y) (begins xs (ys ++ zs)) parts.0 (begins-longer xs ys zs parts.1)

-- two ways that begin each other are one
pub begins-both : (xs ys : List ℕ) → begins xs ys ≡ true → begins ys xs ≡ true → xs ≡ ys
begins-both [] [] h k = refl
begins-both [] (y ∷ ys) h k = cc
begins-both (x ∷ xs) [] h k = cc
begins-both (x ∷ xs) (y ∷ ys) h k =
    let there = and_parts (x == y) (begins xs ys) h in
    let back = and_parts (y == x) (begins ys xs) k in
    let first : x ≡ y = eqb-true x y there.0 in
    let others : xs ≡ ys = begins-both xs ys there.1 back.1 in
    cc

-- a way is no longer than one that it begins
pub begins-length : (xs ys : List ℕ) → begins xs ys ≡ true → length xs ≤ length ys
begins-length [] ys h = omega arith
begins-length (x ∷ xs) [] h = absurd (let no : true ≡ false = sym h in cc)
begins-length (x ∷ xs) (y ∷ ys) h =
    let shorter = begins-length xs ys (and_parts (x == y) (begins xs ys) h).1 in
    omega arith

-- of two ways that begin a third, one begins the other
pub begins-either : (xs ys zs : List ℕ) → begins xs zs ≡ true → begins ys zs ≡ true → (begins xs ys || begins ys xs) ≡ true
begins-either [] ys zs h k = refl
begins-either (x ∷ xs) [] zs h k = refl
begins-either (x ∷ xs) (y ∷ ys) [] h k = cc
begins-either (x ∷ xs) (y ∷ ys) (z ∷ zs) h k =
    let left = and_parts (x == z) (begins xs zs) h in
    let right = and_parts (y == z) (begins ys zs) k in
    let first : x ≡ z = eqb-true x z left.0 in
    let second : y ≡ z = eqb-true y z right.0 in
    let there : (x == y) ≡ true = eq-eqb x y (first ∙ sym second) in
    let back : (y == x) ≡ true = eq-eqb y x (second ∙ sym first) in
    rw (there, back) (begins-either xs ys zs left.1 right.1)

-- a way begins one that is a step longer than another where it is that way or begins the other
pub begins-step : (xs ys : List ℕ) (z : ℕ) → begins xs (ys ++ z ∷ []) ≡ true → (begins xs ys ≡ true) ⊎ (xs ≡ ys ++ z ∷ [])
begins-step [] ys z h = inl refl
begins-step (x ∷ []) [] z h = inr (ap (λ (n : ℕ). n ∷ []) (eqb-true x z (and_parts (x == z) true h).0))
begins-step (x ∷ y ∷ xs) [] z h = absurd (let no : false ≡ true = (and_parts (x == z) false h).1 in cc)
begins-step (x ∷ xs) (y ∷ ys) z h =
    let parts = and_parts (x == y) (begins xs (ys ++ z ∷ [])) h in
    let first : x ≡ y = eqb-true x y parts.0 in
    ⊎_elim
    (λ (e : begins xs ys ≡ true). inl (and_from (x == y) (begins xs ys) parts.0 e))
    (λ (e : xs ≡ ys ++ z ∷ []). inr (let both : x ∷ xs ≡ y ∷ (ys ++ z ∷ []) = cc in both))
    (begins-step xs ys z parts.1)
