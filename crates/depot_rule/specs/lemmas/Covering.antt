-- What a node covers, and parcels that are put in at a node.
use Rattle.std.proofs.Common.{◌≡◌, ℕ, ◌<◌, Bool, true, false, List, Option, eqb, eq-eqb, refl, sym, inl, inr, ⊎_elim}
use Rattle.std.specs.Prelude.{nat_lt}
use Rattle.std.proofs.lemmas.Bool.{or_cases, or_left, or_right, eqb-true, ltb-true, lt-ltb}
use Rattle.affinity.specs.Ancestors.{tally, ancestors, Covers}
use Rattle.depot_rule.specs.Seats.{if_less}
use Rattle.depot_rule.specs.History.{covers, patched}

pub covers-true : (ps : List ℕ) (b k : ℕ) → covers ps b k ≡ true → Covers ps b k
covers-true ps b k e = ⊎_elim
    (λ (h : eqb b k ≡ true). inl (eqb-true b k h))
    (λ (h : nat_lt 0 (tally b (ancestors ps k)) ≡ true). inr (ltb-true 0 (tally b (ancestors ps k)) h))
    (or_cases (eqb b k) (nat_lt 0 (tally b (ancestors ps k))) e)

pub true-covers : (ps : List ℕ) (b k : ℕ) → Covers ps b k → covers ps b k ≡ true
true-covers ps b k = ⊎_elim
    (λ (e : b ≡ k). or_left (eqb b k) (nat_lt 0 (tally b (ancestors ps k))) (eq-eqb b k e))
    (λ (u : 0 < tally b (ancestors ps k)). or_right (eqb b k) (nat_lt 0 (tally b (ancestors ps k))) (lt-ltb 0 (tally b (ancestors ps k)) u))

-- of a choice, where it is yes and where it is no
chosen-less : {A : Type 0} (b : Bool) (x y : A) → b ≡ true → if_less b x y ≡ x
chosen-less true x y e = refl
chosen-less false x y e = absurd cc

chosen-others : {A : Type 0} (b : Bool) (x y : A) → (b ≡ true → ⊥) → if_less b x y ≡ y
chosen-others true x y no_way = absurd (no_way refl)
chosen-others false x y no_way = refl

-- a choice of two things that are one where it is yes
pub if-alike : {A : Type 0} (b : Bool) (x y : A) → (b ≡ true → x ≡ y) → if_less b x y ≡ y
if-alike true x y h = h refl
if-alike false x y h = refl

chosen-twice : {A : Type 0} (b : Bool) (x y z : A) → if_less b (if_less b x y) z ≡ if_less b x z
chosen-twice true x y z = refl
chosen-twice false x y z = refl

module _ {P : Type 0} (ps : List ℕ) (a : ℕ) where
  -- at a node that a covers stands what was put in, and at all others what was there
  pub patched-in : (inner outer : ℕ → Option P) (k : ℕ) → Covers ps a k → patched ps a inner outer k ≡ inner k
  patched-in inner outer k cover = chosen-less (covers ps a k) (inner k) (outer k) (true-covers ps a k cover)

  pub patched-out : (inner outer : ℕ → Option P) (k : ℕ) → (Covers ps a k → ⊥) → patched ps a inner outer k ≡ outer k
  patched-out inner outer k out = chosen-others (covers ps a k) (inner k) (outer k) (λ e. out (covers-true ps a k e))

  -- putting in what was put in
  pub patched-twice : (f g h : ℕ → Option P) → patched ps a (patched ps a f g) h ≡ patched ps a f h
  patched-twice f g h = λ i k. chosen-twice (covers ps a k) (f k) (g k) (h k) i

  -- parcels that differ at what a covers alone, put into the others
  pub patched-itself : (f f' : ℕ → Option P) → ((k : ℕ) → (Covers ps a k → ⊥) → f' k ≡ f k) → patched ps a f' f ≡ f'
  patched-itself f f' others = λ i k. either k (covers ps a k) (λ e. others k (λ c. uncovered k e c)) i
    where
      uncovered : (k : ℕ) → covers ps a k ≡ false → Covers ps a k → ⊥
      uncovered k e c = let is_so = true-covers ps a k c in cc

      either : (k : ℕ) (b : Bool) → (b ≡ false → f' k ≡ f k) → if_less b (f' k) (f k) ≡ f' k
      either k true h = refl
      either k false h = sym (h refl)
