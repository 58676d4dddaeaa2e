-- Words that sum up others, and the lowest bit found by them.
use Rattle.std.proofs.Common.{◌≡◌, refl, sym, ap, ◌∙◌, ℕ, zero, suc, ◌+◌, ◌*◌, ◌/◌, ◌%◌, ◌^◌, ◌<◌, ◌≤◌, Bool, true, false, not, ◌==◌}
use Rattle.std.proofs.Common.{List, [], ◌∷◌, length, replicate, get_or, ⊎_elim, if◌then◌else◌, arith, length-set, set, w64}
use mathlib.Core.Bool.{beq}
use lib.Count.{count_trailing_zeros}
use borrow.Author.Tests.{eqb-true}
use Rattle.std.specs.Int.{bit_at}
use Rattle.std.proofs.lemmas.Bool.{cases_lt}
use Rattle.std.proofs.lemmas.Bool.Decides.{nat_tests}
use Rattle.std.proofs.lemmas.List.{get_or-set_same}
use Rattle.std.proofs.lemmas.Nat.Bits.{bit_at-zero, bit_at-trailing_zeros}
use Rattle.vbn_ranges.specs.Words.{has_bit}
use Rattle.vbn_ranges.specs.Summary.{IsSummary}
use Rattle.vbn_ranges.proofs.Bits.{ZeroBefore}
use Rattle.vbn_ranges.proofs.Single.{other-words}

-- ---- words

pub outside : (words : List ℕ) (k : ℕ) → length words ≤ k → get_or words k 0 ≡ 0
outside [] k l = refl
outside (w ∷ words) zero l = absurd (omega arith)
outside (w ∷ words) (suc k) l = outside words k (omega arith)

pub zero-from : (n : ℕ) (words : List ℕ) → ((k : ℕ) → k < n → get_or words k 0 ≡ 0) → ZeroBefore n words
zero-from zero words h = tt
zero-from (suc n) [] h = tt
zero-from (suc n) (w ∷ words) h = (h 0 (omega arith), zero-from n words (λ k l. h (suc k) (omega (arith, l))))

-- a bit of a word that is 0
no-bit : (words : List ℕ) (place : ℕ) → get_or words (place / 64) 0 ≡ 0 → has_bit words place ≡ false
no-bit words place e = ap (λ w. bit_at w (place % 64) == 1) e ∙ ap (λ b. b == 1) (bit_at-zero (place % 64))

zeros-at : (n k : ℕ) → ◌≡◌ {A = ℕ} (get_or (replicate n 0) k 0) 0
zeros-at zero k = refl
zeros-at (suc n) zero = refl
zeros-at (suc n) (suc k) = zeros-at n k

-- ---- the lowest bit

some-word : (word : ℕ) → not (word == 0) ≡ true → 0 < word
some-word zero e = absurd (grind (arith, nat_tests, e))
some-word (suc n) e = omega arith

no-word : (word : ℕ) → not (word == 0) ≡ false → word ≡ 0
no-word zero e = refl
no-word (suc n) e = absurd (grind (arith, nat_tests, e))

-- the number of the lowest bit, where a word is the first that isn't 0
abbrev pub lowest_place : List ℕ → ℕ → ℕ
lowest_place words k = k * 64 + count_trailing_zeros 64 (get_or words k 0)

module _ (words : List ℕ) (k : ℕ) (some : 0 < get_or words k 0) (fits : get_or words k 0 < 2 ^ 64) where
  pub lowest-set : has_bit words (lowest_place words k) ≡ true
  lowest-set =
      let found = bit_at-trailing_zeros w64 (get_or words k 0) some fits in
      let few = found.0 in
      let word : (k * 64 + count_trailing_zeros 64 (get_or words k 0)) / 64 ≡ k = omega (arith, few) in
      let bit : (k * 64 + count_trailing_zeros 64 (get_or words k 0)) % 64 ≡ count_trailing_zeros 64 (get_or words k 0) = omega (arith, few) in
      (λ i. bit_at (get_or words (word i) 0) (bit i) == 1) ∙ ap (λ b. b == 1) found.1

  pub below-lowest : ((j : ℕ) → j < k → get_or words j 0 ≡ 0) → (q : ℕ) → q < lowest_place words k → has_bit words q ≡ false
  below-lowest before q less =
      let found = bit_at-trailing_zeros w64 (get_or words k 0) some fits in
      let few = found.0 in
      ⊎_elim (λ (l : q / 64 < k). no-bit words q (before (q / 64) l))
      (λ (l : k ≤ q / 64).
      let word : q / 64 ≡ k = omega (arith, few, less, l) in
      let bit : q % 64 < count_trailing_zeros 64 (get_or words k 0) = omega (arith, few, less, word) in
      ap (λ j. bit_at (get_or words j 0) (q % 64) == 1) word ∙ ap (λ b. b == 1) (found.2 (q % 64) bit))
      (cases_lt (q / 64) k)

-- ---- summaries

-- what a bit of the upper words says of the lower
pub record IsFirstFilled (lower : List ℕ) (place : ℕ) : Type 0 where
  pub filled : 0 < get_or lower place 0
  pub within : place < length lower
  pub before : (k : ℕ) → k < place → get_or lower k 0 ≡ 0

pub first-filled : (lower upper : List ℕ) (place : ℕ) → IsSummary lower upper → has_bit upper place ≡ true
    → ((k : ℕ) → k < place → has_bit upper k ≡ false) → IsFirstFilled lower place
first-filled lower upper place h set before =
    let some = some-word (get_or lower place 0) (sym (h.bits place) ∙ set) in
    record {
      filled = some;
      within = ⊎_elim (λ (l : place < length lower). l)
          (λ (l : length lower ≤ place). let none = outside lower place l in absurd (omega (arith, some, none))) (cases_lt place (length lower));
      before = λ k l. no-word (get_or lower k 0) (sym (h.bits k) ∙ before k l);
    }

-- where the upper words are 0 the lower are
pub none-below : (lower upper : List ℕ) → IsSummary lower upper → ((k : ℕ) → get_or upper k 0 ≡ 0) → (k : ℕ) → get_or lower k 0 ≡ 0
none-below lower upper h none k = no-word (get_or lower k 0) (sym (h.bits k) ∙ no-bit upper k (none (k / 64)))

-- a lower word changed, and its bit with it
pub summary-again : (lower new upper told : List ℕ) (i : ℕ) → IsSummary lower upper
    → ((k : ℕ) → (k == i) ≡ false → get_or new k 0 ≡ get_or lower k 0) → length new ≡ length lower
    → ((n : ℕ) → has_bit told n ≡ (if n == i then not (get_or new i 0 == 0) else has_bit upper n)) → length told ≡ length upper
    → IsSummary new told
summary-again lower new upper told i h others same bits long = record {
  size = let size = h.size in omega (arith, size, same, long);
  bits = λ place. bits place ∙ at place (place == i) refl;
}
  where
    at : (place : ℕ) (t : Bool) → (place == i) ≡ t → (if t then not (get_or new i 0 == 0) else has_bit upper place) ≡ not (get_or new place 0 == 0)
    at place true e = ap (λ k. not (get_or new k 0 == 0)) (sym (eqb-true place i e))
    at place false e = h.bits place ∙ ap (λ w. not (w == 0)) (sym (others place e))

pub alike : (a b : Bool) → beq a b ≡ true → a ≡ b
alike true true e = refl
alike true false e = absurd (cc)
alike false true e = absurd (cc)
alike false false e = refl

-- a lower word changed that stays 0, or stays another
pub summary-kept : (lower upper : List ℕ) (i word : ℕ) → IsSummary lower upper → i < length lower → not (get_or lower i 0 == 0) ≡ not (word == 0)
    → IsSummary (set lower i word) upper
summary-kept lower upper i word h within same = record {
  size = let size = h.size in let long = length-set lower i word in omega (arith, size, long);
  bits = λ place. h.bits place ∙ at place (place == i) refl;
}
  where
    at : (place : ℕ) (t : Bool) → (place == i) ≡ t → not (get_or lower place 0 == 0) ≡ not (get_or (set lower i word) place 0 == 0)
    at place true e =
        let here = eqb-true place i e in
        ap (λ k. not (get_or lower k 0 == 0)) here ∙ same
        ∙ sym (ap (λ k. not (get_or (set lower i word) k 0 == 0)) here ∙ ap (λ w. not (w == 0)) (get_or-set_same lower i word 0 within))
    at place false e = ap (λ w. not (w == 0)) (sym (other-words lower i word place e))

-- words that are 0 sum up words that are
pub none-summed : (n m : ℕ) → n ≤ 64 * m → (lower upper : List ℕ) → lower ≡ replicate n 0 → upper ≡ replicate m 0 → length lower ≡ n → length upper ≡ m
    → IsSummary lower upper
none-summed n m l lower upper e f long wide = record {
  size = omega (arith, l, long, wide);
  bits = λ place.
      no-bit upper place (ap (λ ws. get_or ws (place / 64) 0) f ∙ zeros-at m (place / 64))
      ∙ sym (ap (λ w. not (w == 0)) (ap (λ ws. get_or ws place 0) e ∙ zeros-at n place));
}

-- ---- summed up one after the other

-- the bits of the first n lower words are right, and none is set past the lower words
pub record IsSummedUpTo (n : ℕ) (lower upper : List ℕ) : Type 0 where
  pub bits : (place : ℕ) → place < n → has_bit upper place ≡ not (get_or lower place 0 == 0)
  pub past : (place : ℕ) → length lower ≤ place → has_bit upper place ≡ false

-- where words were summed up, no bit is set past them
pub none-past : (lower upper : List ℕ) → IsSummary lower upper → (place : ℕ) → length lower ≤ place → has_bit upper place ≡ false
none-past lower upper h place l = h.bits place ∙ ap (λ w. not (w == 0)) (outside lower place l)
