-- Lists that lose or gain their last.
use Rattle.std.proofs.Common.{◌≡◌, ℕ, ◌+◌, ◌≤◌, List, [], ◌∷◌, ◌++◌, length, refl, sym, ap, subst, arith}
use Rattle.std.specs.List.{AllByRecursion}
use Rattle.std.specs.Prelude.{All}
use Rattle.std.proofs.lemmas.List.Elements.{All-append, All-cons, All-nil, All-from_recursion, recursion_from_All}
use Rattle.depot_rule.specs.Sums.{total}
use Rattle.depot_rule.specs.lemmas.Sums.{total-append}

module _ {X : Type 0} (P : X → Type 0) where
  front : (xs : List X) (y : X) → AllByRecursion P (xs ++ y ∷ []) → AllByRecursion P xs × P y
  front [] y h = (tt, h.0)
  front (x ∷ xs) y h = let r = front xs y h.1 in ((h.0, r.0), r.1)

  pub all-popped : (all rest : List X) (x : X) → all ≡ rest ++ x ∷ [] → All P all → All P rest × P x
  all-popped all rest x is h =
      let r = front rest x (recursion_from_All P (rest ++ x ∷ []) (subst (λ (l : List X). All P l) is h)) in
      (All-from_recursion P rest r.0, r.1)

  pub all-pushed : (xs ys : List X) (x : X) → ys ≡ xs ++ x ∷ [] → All P xs → P x → All P ys
  all-pushed xs ys x is h p = subst (λ (l : List X). All P l) (sym is) (All-append P xs (x ∷ []) h (All-cons P x [] p (All-nil P)))

  pub all-none : (xs : List X) → xs ≡ [] → All P xs
  all-none xs none = subst (λ (l : List X). All P l) (sym none) (All-nil P)

module _ {X : Type 0} (f : X → ℕ) where
  -- a list's sum, without and with its last
  pub total-last : (all rest : List X) (x : X) → all ≡ rest ++ x ∷ [] → total f all ≡ total f rest + f x
  total-last all rest x is = let a = ap (total f) is in let b = total-append f rest (x ∷ []) in omega (arith, a, b)

  pub total-none : (xs : List X) → xs ≡ [] → total f xs ≡ 0
  total-none xs none = ap (total f) none

module _ {X : Type 0} where
  pub total-one : (xs : List X) → total (λ (x : X). 1) xs ≡ length xs
  total-one [] = refl
  total-one (x ∷ xs) = let r = total-one xs in omega arith

  pub none-left : (xs : List X) → length xs ≡ 0 → xs ≡ []
  none-left [] e = refl
  none-left (x ∷ xs) e = absurd (omega arith)

  -- where each counts for one at least, there are as many at most
  pub as-many : (f : X → ℕ) → ((x : X) → 1 ≤ f x) → (xs : List X) → length xs ≤ total f xs
  as-many f one [] = omega arith
  as-many f one (x ∷ xs) = let r = as-many f one xs in let o = one x in omega (arith, r, o)
