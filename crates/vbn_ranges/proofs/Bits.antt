-- The bits of words as numbers.
use Rattle.std.proofs.Common.{◌≡◌, refl, sym, ap, ◌∙◌, ℕ, zero, suc, ◌+◌, ◌-◌, ◌*◌, ◌/◌, ◌%◌, ◌^◌, ◌<◌, ◌≤◌, min, Bool, true, false, ◌||◌, cond, eqb}
use Rattle.std.proofs.Common.{List, [], ◌∷◌, ◌++◌, length, get_or, ◌⊎◌, ⊎_elim, map, length-append, one-add}
use Rattle.std.proofs.Common.{arith, bit_and}
use Rattle.std.proofs.Common.{if◌then◌else◌, ◌==◌, inl, inr}
use Rattle.std.proofs.Math.ListN.{set}
use Rattle.std.specs.List.{prefix_len}
use Rattle.std.specs.Int.{bit_at}
use lib.Count.{ones, ones_step, count_trailing_zeros, under}
use lib.Lanes.{sum_l}
use borrow.Author.Tests.{eqb-true}
use lib.Bits.{and_step}
use Rattle.std.proofs.lemmas.Bool.{cases_lt}
use Rattle.std.proofs.lemmas.List.Folds.{list_any-append}
use Rattle.std.proofs.lemmas.Nat.Bits.{bit_at_lowest, bit_at-suc, bit_at-zero, bit_at_and, same_from_bits}
use Rattle.vbn_ranges.specs.Words.{bits_from, members, has_bit}
use Rattle.vbn_ranges.proofs.Rising.{is_in, Rising, rising-weaker, rising-append, in-head, in-tail, not-below, not-above}

-- ---- one word

pub odd : (size first word : ℕ) → word % 2 ≡ 1 → bits_from (suc size) first word ≡ first ∷ bits_from size (first + 1) (word / 2)
unfolding bits_from
odd size first word e = ap (λ n. if n == 1 then first ∷ bits_from size (first + 1) (word / 2) else bits_from size (first + 1) (word / 2)) e

pub even : (size first word : ℕ) → word % 2 ≡ 0 → bits_from (suc size) first word ≡ bits_from size (first + 1) (word / 2)
unfolding bits_from
even size first word e = ap (λ n. if n == 1 then first ∷ bits_from size (first + 1) (word / 2) else bits_from size (first + 1) (word / 2)) e

pub none : (first word : ℕ) → bits_from zero first word ≡ []
unfolding bits_from
none first word = refl

-- the lowest bit is 0 or 1
pub lowest : (word : ℕ) → (word % 2 ≡ 0) ⊎ (word % 2 ≡ 1)
lowest word = ⊎_elim (λ l. inl (omega arith)) (λ l. inr (omega arith)) (cases_lt (word % 2) 1)

bits-rising : (size first high word : ℕ) → first + size ≡ high → Rising first high (bits_from size first word)
bits-rising zero first high word s = rw none (omega arith)
bits-rising (suc size) first high word s =
    let rest = bits-rising size (first + 1) high (word / 2) (omega arith) in
    ⊎_elim (λ e. rw (even size first word e) (rising-weaker (first + 1) first high _ (omega arith) rest))
    (λ e. rw (odd size first word e) (omega arith, rest)) (lowest word)

pub bits-zero : (size first : ℕ) → bits_from size first 0 ≡ []
bits-zero zero first = none first 0
bits-zero (suc size) first = even size first 0 refl ∙ bits-zero size (first + 1)

no-ones : (word : ℕ) → word ≡ 0 → 0 ≡ ones word
unfolding ones
no-ones word e = ap ones (sym e)

bits-count : (size first word : ℕ) → word < 2 ^ size → length (bits_from size first word) ≡ ones word
bits-count zero first word l = ap length (none first word) ∙ no-ones word (omega arith)
bits-count (suc size) first word l =
    let rest = bits-count size (first + 1) (word / 2) (omega arith) in
    ⊎_elim (λ e. ap length (even size first word e) ∙ omega (arith, rest, ones_step word, e))
    (λ e. ap length (odd size first word e) ∙ omega (arith, rest, ones_step word, e)) (lowest word)

-- which numbers they are
bits-in : (size first word q : ℕ) → q < size → is_in (bits_from size first word) (first + q) ≡ (bit_at word q == 1)
bits-in zero first word q l = absurd (omega arith)
bits-in (suc size) first word zero l =
    ⊎_elim
    (λ e. ap (λ bs. is_in bs (first + 0)) (even size first word e)
    ∙ not-below (first + 1) (first + 1 + size) _ (first + 0) (bits-rising size (first + 1) _ (word / 2) refl) (omega arith)
    ∙ sym (ap (λ n. n == 1) (bit_at_lowest word ∙ e)))
    (λ e. ap (λ bs. is_in bs (first + 0)) (odd size first word e)
    ∙ in-head first _ (first + 0) (omega arith)
    ∙ sym (ap (λ n. n == 1) (bit_at_lowest word ∙ e))) (lowest word)
bits-in (suc size) first word (suc q) l =
    let place : first + suc q ≡ first + 1 + q = omega arith in
    let step = ap (λ n. is_in (bits_from size (first + 1) (word / 2)) n) place
    ∙ bits-in size (first + 1) (word / 2) q (omega arith)
    ∙ sym (ap (λ n. n == 1) (bit_at-suc word q)) in
    ⊎_elim
    (λ e. ap (λ bs. is_in bs (first + suc q)) (even size first word e) ∙ step)
    (λ e. ap (λ bs. is_in bs (first + suc q)) (odd size first word e) ∙ in-tail first _ (first + suc q) (λ same. omega arith) ∙ step) (lowest word)

-- ---- the lowest bit that is set

and_itself : (n : ℕ) → bit_and n n ≡ n
and_itself n = same_from_bits _ _ (λ i. omega (arith, bit_at_and n n i))

at-even : (word first t : ℕ) → word % 2 ≡ 0 → first + 1 + t ≡ first + under (word % 2) t
at-even word first t e = omega arith ∙ ap (λ n. first + under n t) (sym e)

at-odd : (word first t : ℕ) → word % 2 ≡ 1 → first ≡ first + under (word % 2) t
at-odd word first t e = omega arith ∙ ap (λ n. first + under n t) (sym e)

or-false : (t : Bool) → (t || false) ≡ t
or-false true = refl
or-false false = refl

pub lowest-bit : (size first word : ℕ) → 0 < word → word < 2 ^ size
    → bits_from size first word ≡ (first + count_trailing_zeros size word) ∷ bits_from size first (bit_and word (word - 1))
unfolding count_trailing_zeros
lowest-bit zero first word p l = absurd (omega arith)
lowest-bit (suc size) first word p l =
    ⊎_elim
    (λ e.
    let halves : (word - 1) / 2 ≡ word / 2 - 1 = omega arith in
    let step : bit_and word (word - 1) ≡ bit_and (word / 2) (word / 2 - 1) * 2 + 0 =
    and_step word (word - 1) ∙ (λ i. bit_and (word / 2) (halves i) * 2 + min (e i) ((word - 1) % 2)) ∙ omega arith in
    let half : bit_and word (word - 1) / 2 ≡ bit_and (word / 2) (word / 2 - 1) = omega arith in
    even size first word e
    ∙ lowest-bit size (first + 1) (word / 2) (omega arith) (omega arith)
    ∙ (λ i. at-even word first (count_trailing_zeros size (word / 2)) e i ∷ bits_from size (first + 1) (sym half i))
    ∙ ap (λ bs. (first + under (word % 2) (count_trailing_zeros size (word / 2))) ∷ bs) (sym (even size first (bit_and word (word - 1)) (omega arith))))
    (λ e.
    let halves : (word - 1) / 2 ≡ word / 2 = omega arith in
    let step : bit_and word (word - 1) ≡ bit_and (word / 2) (word / 2) * 2 + min (word % 2) ((word - 1) % 2) =
    and_step word (word - 1) ∙ (λ i. bit_and (word / 2) (halves i) * 2 + min (word % 2) ((word - 1) % 2)) in
    let itself : bit_and (word / 2) (word / 2) ≡ word / 2 = and_itself (word / 2) in
    let half : bit_and word (word - 1) / 2 ≡ word / 2 = omega arith in
    odd size first word e
    ∙ (λ i. at-odd word first (count_trailing_zeros size (word / 2)) e i ∷ bits_from size (first + 1) (sym half i))
    ∙ ap (λ bs. (first + under (word % 2) (count_trailing_zeros size (word / 2))) ∷ bs) (sym (even size first (bit_and word (word - 1)) (omega arith))))
    (lowest word)

-- ---- words

pub members-rising : (first high : ℕ) (words : List ℕ) → first + 64 * length words ≡ high → Rising first high (members first words)
members-rising first high [] s = omega arith
members-rising first high (w ∷ words) s =
    rising-append first (first + 64) high (bits_from 64 first w) (members (first + 64) words) (bits-rising 64 first (first + 64) w refl)
    (members-rising (first + 64) high words (omega arith))

-- which numbers they are
pub members-in : (first : ℕ) (words : List ℕ) (q : ℕ) → is_in (members first words) (first + q) ≡ has_bit words q
members-in first [] q = sym (ap (λ n. n == 1) (bit_at-zero (q % 64)))
members-in first (w ∷ words) q =
    list_any-append (λ b. eqb b (first + q)) (bits_from 64 first w) (members (first + 64) words)
    ∙ ⊎_elim
    (λ l.
    let place : q / 64 ≡ 0 = omega arith in
    let bit : q % 64 ≡ q = omega arith in
    (λ i. bits-in 64 first w q l i
    || not-below (first + 64) (first + 64 + 64 * length words) (members (first + 64) words) (first + q)
    (members-rising (first + 64) _ words refl) (omega arith) i)
    ∙ or-false (bit_at w q == 1)
    ∙ sym (λ i. bit_at (get_or (w ∷ words) (place i) 0) (bit i) == 1))
    (λ l.
    let rest : first + q ≡ first + 64 + (q - 64) = omega arith in
    let place : q / 64 ≡ suc ((q - 64) / 64) = omega arith in
    let bit : q % 64 ≡ (q - 64) % 64 = omega arith in
    (λ i. not-above first (first + 64) (bits_from 64 first w) (first + q) (bits-rising 64 first (first + 64) w refl) (omega arith) i
    || is_in (members (first + 64) words) (rest i))
    ∙ members-in (first + 64) words (q - 64)
    ∙ sym (λ i. bit_at (get_or (w ∷ words) (place i) 0) (bit i) == 1))
    (cases_lt q 64)

pub members-count : (first : ℕ) (words : List ℕ) → ((k : ℕ) → get_or words k 0 < 2 ^ 64) → length (members first words) ≡ sum_l (map ones words)
members-count first [] l = refl
members-count first (w ∷ words) l =
    length-append (bits_from 64 first w) (members (first + 64) words)
    ∙ (λ i. bits-count 64 first w (l 0) i + members-count (first + 64) words (λ k. l (suc k)) i)

-- the words before a place are 0
abbrev pub ZeroBefore : ℕ → List ℕ → Type 0
ZeroBefore zero words = Unit {0}
ZeroBefore (suc k) [] = Unit {0}
ZeroBefore (suc k) (w ∷ words) = (w ≡ 0) × ZeroBefore k words

pub zero-prefix : (words : List ℕ) → ZeroBefore (prefix_len (λ w. w == 0) words) words
zero-prefix [] = tt
zero-prefix (w ∷ words) = by (w == 0) (eqb-true w 0) (zero-prefix words)
  where
    by : (t : Bool) → (t ≡ true → w ≡ 0) → ZeroBefore (prefix_len (λ w. w == 0) words) words
        → ZeroBefore (cond t (1 + prefix_len (λ w. w == 0) words) 0) (w ∷ words)
    by true e rest = rw one-add (e refl, rest)
    by false e rest = tt

pub zero-more : (k : ℕ) (words : List ℕ) → ZeroBefore k words → get_or words k 0 ≡ 0 → ZeroBefore (suc k) words
zero-more k [] z e = tt
zero-more zero (w ∷ words) z e = (e, tt)
zero-more (suc k) (w ∷ words) z e = (z.0, zero-more k words z.1 e)

pub zero-set : (k : ℕ) (words : List ℕ) (x : ℕ) → ZeroBefore k words → ZeroBefore k (set words k x)
zero-set zero words x z = tt
zero-set (suc k) [] x z = tt
zero-set (suc k) (w ∷ words) x z = (z.0, zero-set k words x z.1)

pub zero-whole : (k first : ℕ) (words : List ℕ) → length words ≤ k → ZeroBefore k words → members first words ≡ []
zero-whole k first [] l z = refl
zero-whole zero first (w ∷ words) l z = absurd (omega arith)
zero-whole (suc k) first (w ∷ words) l z =
    (λ i. bits_from 64 first (z.0 i) ++ zero-whole k (first + 64) words (omega arith) z.1 i) ∙ ap (λ bs. bs ++ []) (bits-zero 64 first)
