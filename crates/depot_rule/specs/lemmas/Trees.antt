-- The nodes above a node.
use Rattle.std.proofs.Common.{◌≡◌, ◌⊎◌, ℕ, zero, suc, ◌<◌, ◌≤◌, eqb, List, [], ◌∷◌, length, slice_index, sym, ap, ◌∙◌, subst, arith, refl, inl, inr, ⊎_elim}
use mathlib.Core.Logic.{dite}
use native.Mathlib.Decide.{ℕ_discrete, dec_lt}
use Rattle.affinity.specs.Ancestors.{tally, IsTree, from_parent, upwards, ancestors, Covers, Excludes}
pub use Rattle.affinity.specs.lemmas.Standing.{enough, ancestors-root, ancestors-parent}
use Rattle.depot_rule.specs.lemmas.Sums.{one-other, one-most}

from-lower : (f : ℕ → List ℕ) (p a : ℕ) → p < a → ((q : ℕ) → 0 < q → q ≤ a → tally a (f q) ≡ 0) → tally a (from_parent f p) ≡ 0
from-lower f zero a l r = refl
from-lower f (suc p) a l r = let z = one-other (suc p) a (λ e. omega arith) in let u = r (suc p) (omega arith) (omega arith) in omega arith

-- what is above b has a smaller number
lower-above : (ps : List ℕ) → IsTree ps → (m b a : ℕ) → 0 < b → b ≤ a → tally a (upwards ps m b) ≡ 0
lower-above ps t zero b a pos h = refl
lower-above ps t (suc m) b a pos h = let l = t b pos in from-lower (upwards ps m) (slice_index ps b) a (omega arith)
    (λ q qpos le. lower-above ps t m q a qpos le)

-- no node is above itself
pub not-above : (ps : List ℕ) → IsTree ps → (b : ℕ) → tally b (ancestors ps b) ≡ 0
not-above ps t zero = refl
not-above ps t (suc b) = lower-above ps t (suc b) (suc b) (suc b) (omega arith) (omega arith)

from-once : (f : ℕ → List ℕ) (p a : ℕ) → ((q : ℕ) → 0 < q → tally a (f q) ≤ 1) → ((q : ℕ) → 0 < q → q ≤ a → tally a (f q) ≡ 0) → tally a (from_parent f p) ≤ 1
from-once f zero a r z = omega arith
from-once f (suc p) a r z = dite (ℕ_discrete (suc p) a)
    (λ e. let l = z (suc p) (omega arith) (omega arith) in let o = one-most (eqb (suc p) a) in omega arith)
    (λ ne. let o = one-other (suc p) a ne in let u = r (suc p) (omega arith) in omega arith)

once-above : (ps : List ℕ) → IsTree ps → (m b a : ℕ) → 0 < b → tally a (upwards ps m b) ≤ 1
once-above ps t zero b a pos = omega arith
once-above ps t (suc m) b a pos = from-once (upwards ps m) (slice_index ps b) a (λ q qpos. once-above ps t m q a qpos)
    (λ q qpos le. lower-above ps t m q a qpos le)

-- each node above stands there once
pub ancestors-once : (ps : List ℕ) → IsTree ps → (a b : ℕ) → tally a (ancestors ps b) ≤ 1
ancestors-once ps t a zero = omega arith
ancestors-once ps t a (suc b) = once-above ps t (suc b) (suc b) a (omega arith)

from-line : (ps : List ℕ) (f : ℕ → List ℕ) (p b c : ℕ) → (0 < p → f p ≡ ancestors ps p) → (0 < p → 0 < tally b (f p) → 0 < tally c (f p) → Excludes ps b c)
    → 0 < tally b (from_parent f p) → 0 < tally c (from_parent f p) → Excludes ps b c
from-line ps f zero b c same further hb hc = absurd (omega arith)
from-line ps f (suc p) b c same further hb hc = dite (ℕ_discrete (suc p) b)
    (λ e. dite (ℕ_discrete (suc p) c) (λ e'. inl (sym e ∙ e'))
    (λ ne. let o = one-other (suc p) c ne in let u : 0 < tally c (f (suc p)) = omega arith in
    inr (inr (subst (λ (z : ℕ). 0 < tally c (ancestors ps z)) e (subst (λ (z : List ℕ). 0 < tally c z) (same (omega arith)) u)))))
    (λ nb. let o = one-other (suc p) b nb in let u : 0 < tally b (f (suc p)) = omega arith in dite (ℕ_discrete (suc p) c)
    (λ e. inr (inl (subst (λ (z : ℕ). 0 < tally b (ancestors ps z)) e (subst (λ (z : List ℕ). 0 < tally b z) (same (omega arith)) u))))
    (λ nc. let o' = one-other (suc p) c nc in further (omega arith) u (omega arith)))

line-above : (ps : List ℕ) → IsTree ps → (m k b c : ℕ) → 0 < k → k ≤ m → 0 < tally b (upwards ps m k) → 0 < tally c (upwards ps m k) → Excludes ps b c
line-above ps t zero k b c pos le hb hc = absurd (omega arith)
line-above ps t (suc m) k b c pos le hb hc = let l = t k pos in let p : ℕ = slice_index ps k in
    from-line ps (upwards ps m) p b c (λ some_parent. enough ps t m p p some_parent (omega arith) (omega arith))
    (λ some_parent ub uc. line-above ps t m p b c some_parent (omega arith) ub uc) hb hc

-- two nodes that cover one node exclude each other
pub cover-excludes : (ps : List ℕ) → IsTree ps → (b c k : ℕ) → Covers ps b k → Covers ps c k → Excludes ps b c
cover-excludes ps t b c k = ⊎_elim
    (λ (e : b ≡ k). ⊎_elim (λ (e' : c ≡ k). inl (e ∙ sym e')) (λ (u : 0 < tally c (ancestors ps k)). inr
    (inr (subst (λ (z : ℕ). 0 < tally c (ancestors ps z)) (sym e) u))))
    (λ (u : 0 < tally b (ancestors ps k)). ⊎_elim
    (λ (e : c ≡ k). inr (inl (subst (λ (z : ℕ). 0 < tally b (ancestors ps z)) (sym e) u)))
    (λ (w : 0 < tally c (ancestors ps k)). both k u w))
  where
    both : (k : ℕ) → 0 < tally b (ancestors ps k) → 0 < tally c (ancestors ps k) → Excludes ps b c
    both zero u w = absurd (omega arith)
    both (suc k) u w = line-above ps t (suc k) (suc k) b c (omega arith) (omega arith) u w

from-zero : (f : ℕ → List ℕ) (p : ℕ) → ((q : ℕ) → tally 0 (f q) ≡ 0) → tally 0 (from_parent f p) ≡ 0
from-zero f zero h = refl
from-zero f (suc p) h = let o = one-other (suc p) 0 (λ e. omega arith) in let z = h (suc p) in omega arith

zero-above : (ps : List ℕ) (m b : ℕ) → tally 0 (upwards ps m b) ≡ 0
zero-above ps zero b = refl
zero-above ps (suc m) b = from-zero (upwards ps m) (slice_index ps b) (λ q. zero-above ps m q)

-- what is above b is a node, and has a smaller number
pub above-smaller : (ps : List ℕ) → IsTree ps → (a b : ℕ) → 0 < tally a (ancestors ps b) → (0 < a) × (a < b)
above-smaller ps t a zero h = absurd (omega arith)
above-smaller ps t zero (suc b) h = let z = zero-above ps (suc b) (suc b) in absurd (omega arith)
above-smaller ps t (suc a) (suc b) h = elim (dec_lt (suc a) (suc b)) [
  | yes l ↦ (omega arith, l)
  | no n ↦ let z = lower-above ps t (suc b) (suc b)
      (suc a) (omega arith) (omega arith) in absurd (omega arith)
]

beyond : (ps : List ℕ) (k : ℕ) → length ps ≤ k → slice_index ps k ≡ 0
beyond [] k h = refl
beyond (p ∷ ps) zero h = absurd (omega arith)
beyond (p ∷ ps) (suc k) h = beyond ps k (omega arith)

-- what a node covers is a node
pub covers-below : (ps : List ℕ) (b k : ℕ) → 0 < k → b < length ps → Covers ps b k → k < length ps
covers-below ps b k pos lt c = elim (dec_lt k (length ps)) [
  | yes l ↦ l
  | no n ↦ absurd (⊎_elim
      (λ (e : b ≡ k). n (let l : k < length ps = omega arith in l))
      (λ (u : 0 < tally b (ancestors ps k)). let none : tally b (ancestors ps k) ≡ 0 = ap (tally b) (ancestors-root ps k (beyond ps k (omega arith)))
      in let no : ⊥ = absurd (omega arith) in no)
      c)
]

-- exclusion goes both ways
pub excludes-back : (ps : List ℕ) (b c : ℕ) → Excludes ps b c → Excludes ps c b
excludes-back ps b c = ⊎_elim
    (λ (e : b ≡ c). inl (sym e))
    (λ (o : (0 < tally b (ancestors ps c)) ⊎ (0 < tally c (ancestors ps b))). ⊎_elim
    (λ (u : 0 < tally b (ancestors ps c)). inr (inr u))
    (λ (u : 0 < tally c (ancestors ps b)). inr (inl u))
    o)
