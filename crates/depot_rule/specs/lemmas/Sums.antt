-- Sums over views and over places.
use Rattle.std.proofs.Common.{◌≡◌, ◌≢◌, ℕ, zero, suc, ◌+◌, ◌*◌, ◌<◌, ◌≤◌, eqb, Bool, true, false, List, [], ◌∷◌, ◌++◌, replicate}
use Rattle.std.proofs.Common.{length, set, sym, refl, ap, ◌∙◌, arith, Option, Some, None, ne_eqb}
use mathlib.Core.Option.{some, some-injective, some-ne-none}
use mathlib.Core.Logic.{dite}
use native.Mathlib.Decide.{ℕ_discrete}
use lib.ListN.{get_elem?}
use Rattle.affinity.specs.Ancestors.{one_if, tally}
pub use Rattle.affinity.specs.lemmas.Standing.{one-same, one-other}
use Rattle.depot_rule.specs.Sums.{total, over_taken, if_here, without}

pub one-most : (b : Bool) → one_if b ≤ 1
one-most true = omega arith
one-most false = omega arith

pub one-is : (x y : ℕ) → 0 < one_if (eqb x y) → x ≡ y
one-is x y h = dite (ℕ_discrete x y) (λ e. e) (λ ne. let z = one-other x y ne in absurd (omega arith))

module _ {A : Type 0} where
  pub total-set : (f : A → ℕ) (l : List A) (i : ℕ) (x y : A) → get_elem? l i ≡ some x → total f (set l i y) + f x ≡ total f l + f y
  total-set f [] i x y e = absurd (some-ne-none x (sym e))
  total-set f (z ∷ zs) zero x y e = let is : f z ≡ f x = ap f (some-injective z x e) in omega arith
  total-set f (z ∷ zs) (suc i) x y e = let r = total-set f zs i x y e in omega arith

  -- an element counts
  pub total-at : (f : A → ℕ) (l : List A) (i : ℕ) (x : A) → get_elem? l i ≡ some x → f x ≤ total f l
  total-at f [] i x e = absurd (some-ne-none x (sym e))
  total-at f (z ∷ zs) zero x e = let is : f z ≡ f x = ap f (some-injective z x e) in omega arith
  total-at f (z ∷ zs) (suc i) x e = let r = total-at f zs i x e in omega arith

  -- and so do two
  pub total-two : (f : A → ℕ) (l : List A) (i j : ℕ) (x y : A) → get_elem? l i ≡ some x → get_elem? l j ≡ some y → i ≢ j → f x + f y ≤ total f l
  total-two f [] i j x y e d n = absurd (some-ne-none x (sym e))
  total-two f (z ∷ zs) zero zero x y e d n = absurd (n refl)
  total-two f (z ∷ zs) zero (suc j) x y e d n = let is : f z ≡ f x = ap f (some-injective z x e) in let t = total-at f zs j y d in omega arith
  total-two f (z ∷ zs) (suc i) zero x y e d n = let is : f z ≡ f y = ap f (some-injective z y d) in let t = total-at f zs i x e in omega arith
  total-two f (z ∷ zs) (suc i) (suc j) x y e d n = let t = total-two f zs i j x y e d (λ h. n (ap suc h)) in omega arith

  pub total-most : (f g : A → ℕ) (l : List A) → ((j : ℕ) (x : A) → get_elem? l j ≡ some x → f x ≤ 2000 * g x) → total f l ≤ 2000 * total g l
  total-most f g [] h = omega arith
  total-most f g (x ∷ xs) h = let a = h 0 x refl in let r = total-most f g xs (λ j y e. h (suc j) y e) in omega arith

  pub total-less : (f g : A → ℕ) → ((x : A) → f x ≤ g x) → (l : List A) → total f l ≤ total g l
  total-less f g h [] = omega arith
  total-less f g h (x ∷ xs) = let a = h x in let r = total-less f g h xs in omega arith

  pub total-zero : (f : A → ℕ) (l : List A) → ((j : ℕ) (x : A) → get_elem? l j ≡ some x → f x ≡ 0) → total f l ≡ 0
  total-zero f [] h = refl
  total-zero f (x ∷ xs) h = let a = h 0 x refl in let r = total-zero f xs (λ j y e. h (suc j) y e) in omega arith

  -- where g is all in one element, and f is 0 of each in which g is 0, f is all in that element too
  pub total-alone : (f g : A → ℕ) (l : List A) (i : ℕ) (x : A) → get_elem? l i ≡ some x → total g l ≡ g x → ((j : ℕ) (y : A) → get_elem? l j ≡ some y
      → g y ≡ 0 → f y ≡ 0) → total f l ≡ f x
  total-alone f g [] i x e all h = absurd (some-ne-none x (sym e))
  total-alone f g (z ∷ zs) zero x e all h =
      let is : f z ≡ f x = ap f (some-injective z x e) in
      let is' : g z ≡ g x = ap g (some-injective z x e) in
      let r = total-zero f zs (λ j y d. h (suc j) y d (let t = total-at g zs j y d in omega arith)) in omega arith
  total-alone f g (z ∷ zs) (suc i) x e all h =
      let m = total-at g zs i x e in let none : g z ≡ 0 = omega arith in let b = h 0 z refl none in
      let r = total-alone f g zs i x e (omega arith) (λ j y d. h (suc j) y d) in omega arith

  -- what counts is somewhere
  pub total-some : (f : A → ℕ) (l : List A) → 0 < total f l → (i : ℕ) × (x : A) × (get_elem? l i ≡ some x) × (0 < f x)
  total-some f [] h = absurd (omega arith)
  total-some f (x ∷ xs) h = dite (ℕ_discrete (f x) 0)
      (λ z. let r = total-some f xs (omega arith) in (suc r.0, r.1, r.2, r.3))
      (λ nz. (0, x, refl, (let p : 0 < f x = omega arith in p)))

  -- where each counts at most 1, and no two count, the sum is at most 1
  pub total-one : (f : A → ℕ) (l : List A) → ((i : ℕ) (x : A) → get_elem? l i ≡ some x → f x ≤ 1)
      → ((i j : ℕ) (x y : A) → get_elem? l i ≡ some x → get_elem? l j ≡ some y → 0 < f x → 0 < f y → i ≡ j) → total f l ≤ 1
  total-one f [] most two = omega arith
  total-one f (x ∷ xs) most two = let m = most 0 x refl in dite (ℕ_discrete (f x) 0)
      (λ z. let r = total-one f xs (λ i y e. most (suc i) y e) (λ i j y w e d p q. let t = two (suc i) (suc j) y w e d p q in omega arith) in omega arith)
      (λ nz. let r = total-zero f xs (λ j y e. dite (ℕ_discrete (f y) 0) (λ z. z)
      (λ ny. absurd (let t = two 0 (suc j) x y refl e (omega arith) (omega arith) in omega arith))) in omega arith)

  pub total-append : (f : A → ℕ) (xs ys : List A) → total f (xs ++ ys) ≡ total f xs + total f ys
  total-append f [] ys = omega arith
  total-append f (x ∷ xs) ys = let r = total-append f xs ys in omega arith

  -- a sum of two sums, the second 2^32 times
  pub total-parts : (f g h : A → ℕ) → ((x : A) → h x ≡ f x + 4294967296 * g x) → (l : List A) → total h l ≡ total f l + 4294967296 * total g l
  total-parts f g h e [] = omega arith
  total-parts f g h e (x ∷ xs) = let a = e x in let r = total-parts f g h e xs in omega arith

  -- a sum of sums, over lists of lists
  pub total-plus : (f g h : A → ℕ) → ((x : A) → h x ≡ f x + g x) → (l : List A) → total h l ≡ total f l + total g l
  total-plus f g h same [] = omega arith
  total-plus f g h same (x ∷ xs) = let a = same x in let r = total-plus f g h same xs in omega arith

  pub total-same : (f g : A → ℕ) → ((x : A) → f x ≡ g x) → (l : List A) → total f l ≡ total g l
  total-same f g e [] = refl
  total-same f g e (x ∷ xs) = let a = e x in let r = total-same f g e xs in omega arith

pub tally-append : (a : ℕ) (xs ys : List ℕ) → tally a (xs ++ ys) ≡ tally a xs + tally a ys
tally-append a [] ys = omega arith
tally-append a (x ∷ xs) ys = let r = tally-append a xs ys in omega arith

-- one k less
pub tally-without : (k m : ℕ) (xs : List ℕ) → 0 < tally k xs → tally m (without k xs) + one_if (eqb k m) ≡ tally m xs
tally-without k m [] h = absurd (omega arith)
tally-without k m (x ∷ xs) h = by_test (eqb x k) refl (tally-without k m xs)
  where
    by_test : (t : Bool) → eqb x k ≡ t → (0 < tally k xs → tally m (without k xs) + one_if (eqb k m) ≡ tally m xs)
        → tally m (if_here t xs (x ∷ without k xs)) + one_if (eqb k m) ≡ one_if (eqb x m) + tally m xs
    by_test true e r =
        let is : x ≡ k = dite (ℕ_discrete x k) (λ q. q) (λ ne. absurd (let bad : true ≡ false = sym e ∙ ne_eqb x k ne in cc)) in
        let y : one_if (eqb x m) ≡ one_if (eqb k m) = ap (λ (q : ℕ). one_if (eqb q m)) is in omega arith
    by_test false e r = let z : one_if (eqb x k) ≡ 0 = ap one_if e in let t = r (omega arith) in omega arith

module _ {A : Type 0} where
  -- a place that is filled counts from then on
  over-fill : (f : ℕ → ℕ) (k : ℕ) (l : List (Option A)) (i : ℕ) (x : A) → get_elem? l i ≡ some None
      → over_taken f k (set l i (Some x)) ≡ over_taken f k l + f (k + i)
  over-fill f k [] i x e = absurd (some-ne-none None (sym e))
  over-fill f k (None ∷ ys) zero x e = let z : f (k + 0) ≡ f k = ap f (omega arith) in omega arith
  over-fill f k (Some y ∷ ys) zero x e = absurd (cc)
  over-fill f k (None ∷ ys) (suc i) x e = let r = over-fill f (suc k) ys i x e in let z : f (suc k + i) ≡ f (k + suc i) = ap f (omega arith) in omega arith
  over-fill f k (Some y ∷ ys) (suc i) x e = let r = over-fill f (suc k) ys i x e in let z : f (suc k + i) ≡ f (k + suc i) = ap f (omega arith) in omega arith

  -- and one that is emptied no more
  over-clear : (f : ℕ → ℕ) (k : ℕ) (l : List (Option A)) (i : ℕ) (x : A) → get_elem? l i ≡ some (Some x) → over_taken f k (set l i None) + f
      (k + i) ≡ over_taken f k l
  over-clear f k [] i x e = absurd (some-ne-none (Some x) (sym e))
  over-clear f k (Some y ∷ ys) zero x e = let z : f (k + 0) ≡ f k = ap f (omega arith) in omega arith
  over-clear f k (None ∷ ys) zero x e = absurd (cc)
  over-clear f k (None ∷ ys) (suc i) x e = let r = over-clear f (suc k) ys i x e in let z : f (suc k + i) ≡ f (k + suc i) = ap f (omega arith) in omega arith
  over-clear f k (Some y ∷ ys) (suc i) x e = let r = over-clear f (suc k) ys i x e in let z : f (suc k + i) ≡ f (k + suc i) = ap f (omega arith) in omega arith

  -- what stands at a taken place doesn't count, only that it is taken
  pub over-other : (f : ℕ → ℕ) (k : ℕ) (l : List (Option A)) (i : ℕ) (x y : A) → get_elem? l i ≡ some (Some x)
      → over_taken f k (set l i (Some y)) ≡ over_taken f k l
  over-other f k [] i x y e = absurd (some-ne-none (Some x) (sym e))
  over-other f k (Some z ∷ zs) zero x y e = refl
  over-other f k (None ∷ zs) zero x y e = absurd (cc)
  over-other f k (None ∷ zs) (suc i) x y e = over-other f (suc k) zs i x y e
  over-other f k (Some z ∷ zs) (suc i) x y e = let r = over-other f (suc k) zs i x y e in omega arith

  pub fill-at : (f : ℕ → ℕ) (l : List (Option A)) (i : ℕ) (x : A) → get_elem? l i ≡ some None → over_taken f 0 (set l i (Some x)) ≡ over_taken f 0 l + f i
  fill-at f l i x e = let t = over-fill f 0 l i x e in let z : f (0 + i) ≡ f i = ap f (omega arith) in omega arith

  pub clear-at : (f : ℕ → ℕ) (l : List (Option A)) (i : ℕ) (x : A) → get_elem? l i ≡ some (Some x) → over_taken f 0 (set l i None) + f i ≡ over_taken f 0 l
  clear-at f l i x e = let t = over-clear f 0 l i x e in let z : f (0 + i) ≡ f i = ap f (omega arith) in omega arith

  -- what stands at a place counts
  pub over-at : (f : ℕ → ℕ) (l : List (Option A)) (i : ℕ) (x : A) → get_elem? l i ≡ some (Some x) → f i ≤ over_taken f 0 l
  over-at f l i x e = let t = clear-at f l i x e in omega arith

  -- where nothing counts for a place, it is free
  free-from : (m k : ℕ) (l : List (Option A)) (i : ℕ) → m ≡ k + i → i < length l → over_taken (λ b. one_if (eqb b m)) k l ≡ 0 → get_elem? l i ≡ some None
  free-from m k [] i e lt z = absurd (omega arith)
  free-from m k (None ∷ ys) zero e lt z = refl
  free-from m k (Some y ∷ ys) zero e lt z = let one = one-same k m (omega arith) in absurd (omega arith)
  free-from m k (None ∷ ys) (suc i) e lt z = free-from m (suc k) ys i (omega arith) (omega arith) z
  free-from m k (Some y ∷ ys) (suc i) e lt z = free-from m (suc k) ys i (omega arith) (omega arith) (omega arith)

  pub free-at : (l : List (Option A)) (i : ℕ) → i < length l → over_taken (λ b. one_if (eqb b i)) 0 l ≡ 0 → get_elem? l i ≡ some None
  free-at l i lt z = free-from i 0 l i (omega arith) lt z

  pub over-most : (f : ℕ → ℕ) (k : ℕ) (l : List (Option A)) → ((b : ℕ) → f b ≤ 1) → over_taken f k l ≤ length l
  over-most f k [] h = omega arith
  over-most f k (None ∷ ys) h = let r = over-most f (suc k) ys h in omega arith
  over-most f k (Some y ∷ ys) h = let r = over-most f (suc k) ys h in let a = h k in omega arith

  -- what counts stands at some place
  some-from : (f : ℕ → ℕ) (k : ℕ) (l : List (Option A)) → 0 < over_taken f k l → (i : ℕ) × (x : A) × (get_elem? l i ≡ some (Some x)) × (0 < f (k + i))
  some-from f k [] h = absurd (omega arith)
  some-from f k (None ∷ ys) h = let r = some-from f (suc k) ys h in (
    suc r.0,
    r.1,
    r.2,
    (let z : f (suc k + r.0) ≡ f (k + suc r.0) = ap f (omega arith) in let p = r.3 in omega arith),
  )
  some-from f k (Some y ∷ ys) h = dite (ℕ_discrete (f k) 0)
      (λ z. let r = some-from f (suc k) ys (omega arith) in (
        suc r.0,
        r.1,
        r.2,
        (let e : f (suc k + r.0) ≡ f (k + suc r.0) = ap f (omega arith) in let p = r.3 in omega arith),
      ))
      (λ nz. (0, y, refl, (let e : f (k + 0) ≡ f k = ap f (omega arith) in omega arith)))

  pub over-some : (f : ℕ → ℕ) (l : List (Option A)) → 0 < over_taken f 0 l → (i : ℕ) × (x : A) × (get_elem? l i ≡ some (Some x)) × (0 < f i)
  over-some f l h = let r = some-from f 0 l h in (r.0, r.1, r.2, (let e : f (0 + r.0) ≡ f r.0 = ap f (omega arith) in let p = r.3 in omega arith))

pub over-none : (A : Type 0) (f : ℕ → ℕ) (k n : ℕ) → over_taken {A = A} f k (replicate n None) ≡ 0
over-none A f k zero = refl
over-none A f k (suc n) = over-none A f (suc k) n
