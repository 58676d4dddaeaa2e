-- Sums over views, and shares of the whole.
use Rattle.std.proofs.Common.{◌≡◌, ℕ, zero, suc, ◌+◌, ◌*◌, ◌-◌, ◌^◌, ◌<◌, ◌≤◌, List, [], ◌∷◌, set, sym, refl, ap, ◌∙◌, arith, mul-add, add-mul, mul_assoc}
use Rattle.std.proofs.Common.{mul-pos}
use Rattle.std.proofs.lemmas.Nat.{pow-add, pow_pos}
use mathlib.Core.Option.{some, some-injective, some-ne-none}
use lib.ListN.{get_elem?}
use Rattle.depot_rule.specs.Sums.{total}

module _ {V : Type 0} where
  pub total-set : (f : V → ℕ) (l : List V) (i : ℕ) (v w : V) → get_elem? l i ≡ some v → total f (set l i w) + f v ≡ total f l + f w
  total-set f [] i v w e = absurd (some-ne-none v (sym e))
  total-set f (x ∷ xs) zero v w e = let is : f x ≡ f v = ap f (some-injective x v e) in omega arith
  total-set f (x ∷ xs) (suc i) v w e = let r = total-set f xs i v w e in omega arith

  pub total-at : (f : V → ℕ) (l : List V) (i : ℕ) (v : V) → get_elem? l i ≡ some v → f v ≤ total f l
  total-at f [] i v e = absurd (some-ne-none v (sym e))
  total-at f (x ∷ xs) zero v e = let is : f x ≡ f v = ap f (some-injective x v e) in omega arith
  total-at f (x ∷ xs) (suc i) v e = let r = total-at f xs i v e in omega arith

  total-none : (f g : V → ℕ) (l : List V) → total g l ≡ 0 → ((j : ℕ) (u : V) → get_elem? l j ≡ some u → g u ≡ 0 → f u ≡ 0) → total f l ≡ 0
  total-none f g [] z h = refl
  total-none f g (x ∷ xs) z h = let a : g x ≡ 0 = omega arith in let b = h 0 x refl a in let r = total-none f g xs (omega arith) (λ j u e. h (suc j) u e) in
      omega arith

  -- where v has all of g, it has all of f
  pub total-alone : (f g : V → ℕ) (l : List V) (i : ℕ) (v : V) → get_elem? l i ≡ some v → g v ≡ total g l
      → ((j : ℕ) (u : V) → get_elem? l j ≡ some u → g u ≡ 0 → f u ≡ 0) → total f l ≡ f v
  total-alone f g [] i v e all h = absurd (some-ne-none v (sym e))
  total-alone f g (x ∷ xs) zero v e all h = let is : f x ≡ f v = ap f (some-injective x v e) in let is' : g x ≡ g v = ap g (some-injective x v e) in
      let r = total-none f g xs (omega arith) (λ j u e. h (suc j) u e) in omega arith
  total-alone f g (x ∷ xs) (suc i) v e all h = let m = total-at g xs i v e in let z : g x ≡ 0 = omega arith in let b = h 0 x refl z in
      let r = total-alone f g xs i v e (omega arith) (λ j u e. h (suc j) u e) in omega arith

-- a power, parted
pub power : (k l : ℕ) → l ≤ k → 2 ^ k ≡ 2 ^ l * 2 ^ (k - l)
power k l le = let s : k ≡ l + (k - l) = omega arith in ap (λ n. 2 ^ n) s ∙ pow-add 2 l (k - l)

-- half of a part, twice
pub halves : (n k l : ℕ) → suc l ≤ k → n * 2 ^ (k - l) ≡ n * 2 ^ (k - (l + 1)) + n * 2 ^ (k - (l + 1))
halves n k l le =
    let s : k - l ≡ (k - (l + 1)) + 1 = omega arith in
    let p : 2 ^ (k - l) ≡ 2 ^ (k - (l + 1)) * 2 ^ 1 = ap (λ j. 2 ^ j) s ∙ pow-add 2 (k - (l + 1)) 1 in
    let q : 2 ^ (k - l) ≡ 2 ^ (k - (l + 1)) + 2 ^ (k - (l + 1)) = omega arith in
    ap (λ j. n * j) q ∙ mul-add n (2 ^ (k - (l + 1))) (2 ^ (k - (l + 1)))

pub joined : (a b l m k : ℕ) → l + m ≤ k → (a * 2 ^ m + b * 2 ^ l) * 2 ^ (k - (l + m)) ≡ a * 2 ^ (k - l) + b * 2 ^ (k - m)
joined a b l m k le =
    let s : k - l ≡ m + (k - (l + m)) = omega arith in
    let t : k - m ≡ l + (k - (l + m)) = omega arith in
    let p : 2 ^ (k - l) ≡ 2 ^ m * 2 ^ (k - (l + m)) = ap (λ j. 2 ^ j) s ∙ pow-add 2 m (k - (l + m)) in
    let q : 2 ^ (k - m) ≡ 2 ^ l * 2 ^ (k - (l + m)) = ap (λ j. 2 ^ j) t ∙ pow-add 2 l (k - (l + m)) in
    let pa : a * 2 ^ (k - l) ≡ a * (2 ^ m * 2 ^ (k - (l + m))) = ap (λ j. a * j) p in
    let qb : b * 2 ^ (k - m) ≡ b * (2 ^ l * 2 ^ (k - (l + m))) = ap (λ j. b * j) q in
    let x = mul_assoc a (2 ^ m) (2 ^ (k - (l + m))) in
    let y = mul_assoc b (2 ^ l) (2 ^ (k - (l + m))) in
    let z = add-mul (a * 2 ^ m) (b * 2 ^ l) (2 ^ (k - (l + m))) in
    omega (arith, pa, qb, x, y, z)

-- a part of nothing is nothing, and only of nothing
pub part-none : (n j : ℕ) → n * 2 ^ j ≡ 0 → n ≡ 0
part-none zero j z = refl
part-none (suc n) j z = let p : 0 < suc n * 2 ^ j = mul-pos (omega arith) (pow_pos j) in absurd (omega arith)
