-- Binary digits of a half.
use Rattle.std.proofs.Common.{◌≡◌, refl, ℕ, zero, suc, ◌+◌, ◌/◌, ◌<◌, ◌≤◌, Bool, true, false, ◌==◌, if◌then◌else◌, arith}
use Rattle.std.proofs.lemmas.Bool.Decides.{nat_tests}
use Rattle.directories.specs.Digits.{digits_within, binary_digits}

no-more-digits : (f g m n : ℕ) → m ≤ n → n ≤ g → digits_within f m ≤ digits_within g n
no-more-digits zero g m n l w = omega arith
no-more-digits (suc f) zero m n l w = let none : m ≡ 0 = omega arith in rw none (omega arith)
no-more-digits (suc f) (suc g) m n l w = by (m == 0) refl (n == 0) refl (λ p. no-more-digits f g (m / 2) (n / 2) (omega arith) (omega (arith, p)))
  where
    by : (b : Bool) → b ≡ (m == 0) → (c : Bool) → c ≡ (n == 0) → (1 ≤ n → digits_within f (m / 2) ≤ digits_within g (n / 2))
        → (if b then 0 else 1 + digits_within f (m / 2)) ≤ (if c then 0 else 1 + digits_within g (n / 2))
    by true p true q r = omega arith
    by true p false q r = omega arith
    by false p true q r = absurd (grind (arith, nat_tests, p, q))
    by false p false q r = let s = r (grind (arith, nat_tests, q)) in omega (arith, s)

digit-more : (g n : ℕ) → 0 < n → digits_within (suc g) n ≡ 1 + digits_within g (n / 2)
digit-more g n l = grind (arith, nat_tests)

-- half of something, or less, has a digit less
pub digit-less : (m n : ℕ) → 0 < n → m ≤ n / 2 → binary_digits m + 1 ≤ binary_digits n
unfolding binary_digits
digit-less m zero l h = absurd (omega arith)
digit-less m (suc n) l h =
    let r = no-more-digits m n m ((suc n) / 2) h (omega arith) in
    let e = digit-more n (suc n) l in
    omega (arith, r, e)

pub fewer-digits : (m n : ℕ) → m ≤ n → binary_digits m ≤ binary_digits n
unfolding binary_digits
fewer-digits m n l = no-more-digits m n m n l (omega arith)

few-within : (g n : ℕ) → n ≤ g → digits_within g n ≤ n
few-within zero n l = omega arith
few-within (suc g) n l = by (n == 0) refl (few-within g (n / 2))
  where
    by : (b : Bool) → b ≡ (n == 0) → (n / 2 ≤ g → digits_within g (n / 2) ≤ n / 2) → (if b then 0 else 1 + digits_within g (n / 2)) ≤ n
    by true p r = omega arith
    by false p r = let some : 0 < n = grind (arith, nat_tests, p) in let s = r (omega arith) in omega arith

pub few-digits : (n : ℕ) → binary_digits n ≤ n
unfolding binary_digits
few-digits n = few-within n n (omega arith)
