use Rattle.std.proofs.Common.{◌≡◌, ◌+◌, ◌*◌, ◌/◌, ◌%◌, ◌^◌, ◌<◌, ◌∷◌, ◌++◌, [], ℕ, List, length, take, get_or, arith, refl}
use Rattle.std.proofs.lemmas.Grind.{common_steps}
use Rattle.std.proofs.lemmas.Fmt.{decimal_digit, decimal_step}
use Rattle.std.proofs.lemmas.List.{take_more}
use Rattle.std.specs.Fmt.{decimal}
use Rattle.scripts.proofs.script.word.decimal_value.Goals as goal

-- a number of one more digit
decimal_more : (n d : ℕ) → 0 < n → d < 10 → n * 10 + d < 2 ^ 32 → decimal (n * 10 + d) ≡ decimal n ++ (48 + d) ∷ []
decimal_more n d some small fits =
    let quotient : (n * 10 + d) / 10 ≡ n = omega arith in
    let remainder : (n * 10 + d) % 10 ≡ d = omega arith in
    let step = decimal_step (n * 10 + d) (omega arith) (omega arith) in
    rw (quotient, remainder) at step

one_digit : (digits others : List ℕ) (first n : ℕ) → digits ≡ first ∷ others → n < 10 → first ≡ 48 + n → take 1 digits ≡ decimal n
one_digit digits others first n e small is = rw (e, is, decimal_digit n small) refl

more_digits : (digits others : List ℕ) (first i n d : ℕ) → digits ≡ first ∷ others → i < length others
    → take (i + 1) digits ≡ decimal n → 0 < n → get_or others i 0 ≡ 48 + d → d < 10 → n * 10 + d < 2 ^ 32
    → take (i + 1 + 1) digits ≡ decimal (n * 10 + d)
more_digits digits others first i n d e inside before some next small fits =
    let step = decimal_more n d some small fits in
    let taken = take_more digits (i + 1) 0 (rw e (omega arith)) in
    let at_next : get_or digits (i + 1) 0 ≡ 48 + d = rw e (grind (arith, common_steps)) in
    cc

pub loop-next-init : goal.loop-next-init
loop-next-init c =
    one_digit _ _ _ _ c.in_ok-first.ensures.cases.0 c.in_ok-number.ensures.0 c.in_ok-number.ensures.1

pub loop-next-preserved : goal.loop-next-preserved
loop-next-preserved c =
    let some : 0 < c.loop-next.number = omega arith in
    let product = c.in_ok-checked_mul.ensures.1 in
    let sum : c.in_ok-number-2.number ≡ c.loop-next.number * 10 + c.in_ok-digit.field-0 =
    omega (arith, product, c.in_ok-number-2.ensures.1) in
    let small : c.loop-next.number * 10 + c.in_ok-digit.field-0 < 2 ^ 32 =
    omega (arith, product, c.in_ok-number-2.ensures.0) in
    rw sum (more_digits _ _ _ _ _ _ c.in_ok-first.ensures.cases.0 c.loop-next-test.true c.loop-next.invariant some
    c.in_ok-digit.ensures.1 c.in_ok-digit.ensures.0 small)
