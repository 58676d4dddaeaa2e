-- One bit of words.
use Rattle.std.proofs.Common.{◌≡◌, sym, ap, ◌∙◌, ℕ, zero, suc, ◌*◌, ◌/◌, ◌%◌, ◌^◌, ◌<◌, Bool, true, false, not, ◌||◌, eqb, refl, if◌then◌else◌}
use Rattle.std.proofs.Common.{List, length, get_or, ◌⊎◌, inl, inr, ⊎_elim, arith, bit_and, bit_or, w64, ◌==◌}
use Rattle.std.proofs.Math.ListN.{set}
use Rattle.std.specs.Int.{bit_at, bit_not}
use Rattle.std.proofs.lemmas.Bool.{cases_lt}
use Rattle.std.proofs.lemmas.Bool.Decides.{nat_tests}
use Rattle.std.proofs.lemmas.List.{get_or-set_same, get_or-set_other}
use Rattle.std.proofs.lemmas.Nat.{one_shl}
use Rattle.std.proofs.lemmas.Nat.Bits.{and_pow, bit_at-lt, bit_at_set_same, bit_at_set_other, bit_at_clear_same, bit_at_clear_other}
use lib.Pow.{pow_pos}
use Rattle.vbn_ranges.specs.Words.{has_bit}

tested : (b p : ℕ) → b < 2 → 0 < p → not (eqb (b * p) 0) ≡ (b == 1)
tested zero p l pos = let e : 0 * p ≡ 0 = omega arith in ap (λ n. not (eqb n 0)) e
tested (suc zero) p l pos = grind (arith, nat_tests)
tested (suc (suc b)) p l pos = absurd (omega arith)

pub has-is : (words : List ℕ) (place : ℕ)
    → not (eqb (bit_and (get_or words (place / 64) 0) (1 * 2 ^ (place % 64) % 2 ^ 64)) 0) ≡ has_bit words place
has-is words place =
    let word = get_or words (place / 64) 0 in
    let k = place % 64 in
    ap (λ m. not (eqb (bit_and word m) 0)) (one_shl k 64 (omega arith))
    ∙ ap (λ n. not (eqb n 0)) (and_pow word k)
    ∙ tested (bit_at word k) (2 ^ k) (bit_at-lt word k) (pow_pos k)

pub same : (a b : ℕ) → (a ≡ b) ⊎ (a ≡ b → ⊥)
same a b = ⊎_elim (λ l. inr (λ e. omega arith)) (λ l. ⊎_elim (λ m. inr (λ e. omega arith)) (λ m. inl (omega arith)) (cases_lt b a)) (cases_lt a b)

itself : (n place : ℕ) (t : Bool) → n ≡ place → true ≡ (n == place || t)
itself n place t e = grind (arith, nat_tests)

another : (n place : ℕ) (t : Bool) → (n ≡ place → ⊥) → t ≡ (n == place || t)
another n place t e = grind (arith, nat_tests)

pub insert-is : (words : List ℕ) (place : ℕ) → place / 64 < length words → (n : ℕ)
    → has_bit (set words (place / 64) (bit_or (get_or words (place / 64) 0) (1 * 2 ^ (place % 64) % 2 ^ 64))) n ≡ (n == place || has_bit words n)
insert-is words place l n =
    let i = place / 64 in
    let k = place % 64 in
    let word = get_or words i 0 in
    let new = bit_or word (1 * 2 ^ k % 2 ^ 64) in
    ⊎_elim
    (λ e.
    let read : get_or (set words i new) (n / 64) 0 ≡ new = ap (λ j. get_or (set words i new) j 0) e ∙ get_or-set_same words i new 0 l in
    ap (λ w. bit_at w (n % 64) == 1) read
    ∙ ⊎_elim
    (λ f. ap (λ b. b == 1) (ap (bit_at new) f ∙ bit_at_set_same w64 word k (omega arith)) ∙ itself n place (has_bit words n) (omega arith))
    (λ f. ap (λ b. b == 1) (bit_at_set_other w64 word k (omega arith) (n % 64) f)
    ∙ ap (λ j. bit_at (get_or words j 0) (n % 64) == 1) (sym e)
    ∙ another n place (has_bit words n) (λ is. f (ap (λ m. m % 64) is))) (same (n % 64) k))
    (λ e.
    ap (λ w. bit_at w (n % 64) == 1) (get_or-set_other words i (n / 64) new 0 e)
    ∙ another n place (has_bit words n) (λ is. e (ap (λ m. m / 64) is))) (same (n / 64) i)

-- ---- set or cleared

or-if : (b t : Bool) → (b || t) ≡ (if b then true else t)
or-if true t = refl
or-if false t = refl

chosen : (n place : ℕ) (t u : Bool) → n ≡ place → t ≡ (if n == place then t else u)
chosen n place t u e = grind (arith, nat_tests)

unchosen : (n place : ℕ) (t u : Bool) → (n ≡ place → ⊥) → u ≡ (if n == place then t else u)
unchosen n place t u e = grind (arith, nat_tests)

set-is : (words : List ℕ) (place : ℕ) → place / 64 < length words → (n : ℕ)
    → has_bit (set words (place / 64) (bit_or (get_or words (place / 64) 0) (1 * 2 ^ (place % 64) % 2 ^ 64))) n
    ≡ (if n == place then true else has_bit words n)
set-is words place l n = insert-is words place l n ∙ or-if (n == place) (has_bit words n)

clear-is : (words : List ℕ) (place : ℕ) → place / 64 < length words → (n : ℕ)
    → has_bit (set words (place / 64) (bit_and (get_or words (place / 64) 0) (bit_not w64 (1 * 2 ^ (place % 64) % 2 ^ 64)))) n
    ≡ (if n == place then false else has_bit words n)
clear-is words place l n =
    let i = place / 64 in
    let k = place % 64 in
    let word = get_or words i 0 in
    let new = bit_and word (bit_not w64 (1 * 2 ^ k % 2 ^ 64)) in
    ⊎_elim
    (λ e.
    let read : get_or (set words i new) (n / 64) 0 ≡ new = ap (λ j. get_or (set words i new) j 0) e ∙ get_or-set_same words i new 0 l in
    ap (λ w. bit_at w (n % 64) == 1) read
    ∙ ⊎_elim
    (λ f. ap (λ b. b == 1) (ap (bit_at new) f ∙ bit_at_clear_same w64 word k (omega arith))
    ∙ chosen n place false (has_bit words n) (omega arith))
    (λ f. ap (λ b. b == 1) (bit_at_clear_other w64 word k (omega arith) (n % 64) (omega arith) f)
    ∙ ap (λ j. bit_at (get_or words j 0) (n % 64) == 1) (sym e)
    ∙ unchosen n place false (has_bit words n) (λ is. f (ap (λ m. m % 64) is))) (same (n % 64) k))
    (λ e.
    ap (λ w. bit_at w (n % 64) == 1) (get_or-set_other words i (n / 64) new 0 e)
    ∙ unchosen n place false (has_bit words n) (λ is. e (ap (λ m. m / 64) is))) (same (n / 64) i)

never : (a b : ℕ) → (a == b) ≡ false → a ≡ b → ⊥
never a b e is = grind (arith, nat_tests, e, is)

-- the other words
pub other-words : (words : List ℕ) (i x k : ℕ) → (k == i) ≡ false → get_or (set words i x) k 0 ≡ get_or words k 0
other-words words i x k e = get_or-set_other words i k x 0 (never k i e)

-- where the word is known by another name
pub set-by : (words : List ℕ) (place word : ℕ) → word ≡ get_or words (place / 64) 0 → place / 64 < length words → (n : ℕ)
    → has_bit (set words (place / 64) (bit_or word (1 * 2 ^ (place % 64) % 2 ^ 64))) n ≡ (if n == place then true else has_bit words n)
set-by words place word is l n =
    ap (λ w. has_bit (set words (place / 64) (bit_or w (1 * 2 ^ (place % 64) % 2 ^ 64))) n) is ∙ set-is words place l n

pub insert-by : (words : List ℕ) (place word : ℕ) → word ≡ get_or words (place / 64) 0 → place / 64 < length words → (n : ℕ)
    → has_bit (set words (place / 64) (bit_or word (1 * 2 ^ (place % 64) % 2 ^ 64))) n ≡ (n == place || has_bit words n)
insert-by words place word is l n =
    ap (λ w. has_bit (set words (place / 64) (bit_or w (1 * 2 ^ (place % 64) % 2 ^ 64))) n) is ∙ insert-is words place l n

pub clear-by : (words : List ℕ) (place word : ℕ) → word ≡ get_or words (place / 64) 0 → place / 64 < length words → (n : ℕ)
    → has_bit (set words (place / 64) (bit_and word (bit_not w64 (1 * 2 ^ (place % 64) % 2 ^ 64)))) n
    ≡ (if n == place then false else has_bit words n)
clear-by words place word is l n =
    ap (λ w. has_bit (set words (place / 64) (bit_and w (bit_not w64 (1 * 2 ^ (place % 64) % 2 ^ 64)))) n) is ∙ clear-is words place l n
