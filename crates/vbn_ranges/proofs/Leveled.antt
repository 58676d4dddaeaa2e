-- Bits of a word taken from words, and how many are left.
use Rattle.std.proofs.Common.{◌≡◌, refl, sym, ap, subst, ◌∙◌, ℕ, zero, suc, ◌+◌, ◌-◌, ◌*◌, ◌/◌, ◌^◌, ◌<◌, ◌≤◌, false, ◌||◌, ◌==◌}
use Rattle.std.proofs.Common.{List, [], ◌∷◌, ◌++◌, length, drop, replicate, get_or, ⊎_elim, append_assoc, length-append, arith, bit_and}
use lib.Count.{count_trailing_zeros}
use Rattle.std.proofs.Math.ListN.{set}
use Rattle.std.proofs.lemmas.List.{set-get_or}
use Rattle.std.specs.FinSet.{contains, contains-from_list_nat, len}
use Rattle.std.specs.List.{range_with_len}
use Rattle.nfs_model.specs.Parts.{IsAscending}
use Rattle.vbn_ranges.specs.Words.{bits_from, members, has_bit, set_of}
use Rattle.vbn_ranges.proofs.Rising.{Rising, ascending, rising-front}
use Rattle.vbn_ranges.proofs.Bits.{ZeroBefore, bits-zero, even, lowest, lowest-bit, members-in, members-rising, none, odd, zero-whole}
use Rattle.vbn_ranges.proofs.Counted.{rising-length}
use Rattle.vbn_ranges.proofs.DeadCounts.{len-with}
use Rattle.vbn_ranges.proofs.Marked.{ones-members, set-inserted, zeros-none}
use Rattle.vbn_ranges.proofs.Stocked.{len-members}
use Rattle.vbn_ranges.proofs.Summaries.{none-below, outside, zero-from}
use Rattle.vbn_ranges.specs.Summary.{IsSummary}

-- ---- one word of words

-- the numbers past a word
abbrev past : ℕ → ℕ → List ℕ → List ℕ
past first k words = members (first + k * 64 + 64) (drop (suc k) words)

shifted : (first k : ℕ) → first + 64 + k * 64 ≡ first + suc k * 64
shifted first k = omega arith

-- where the words before a place are 0, the numbers are those of its word and those past it
members-at : (k first x : ℕ) (words : List ℕ) → ZeroBefore k words → k < length words
    → members first (set words k x) ≡ bits_from 64 (first + k * 64) x ++ past first k words
members-at k first x [] z l = absurd (omega arith)
members-at zero first x (w ∷ words) z l =
    let same : first ≡ first + 0 * 64 = omega arith in
    λ i. bits_from 64 (same i) x ++ members (same i + 64) words
members-at (suc k) first x (w ∷ words) z l =
    (λ i. bits_from 64 first (z.0 i) ++ members (first + 64) (set words k x))
    ∙ ap (λ bs. bs ++ members (first + 64) (set words k x)) (bits-zero 64 first)
    ∙ members-at k (first + 64) x words z.1 (omega arith)
    ∙ (λ i. bits_from 64 (shifted first k i) x ++ members (shifted first k i + 64) (drop (suc k) words))

-- some of the bits of a word go into a batch
pub word-taken : (k first left : ℕ) (words batch new whole : List ℕ) → ZeroBefore k words → k < length words
    → new ++ bits_from 64 (first + k * 64) left ≡ batch ++ bits_from 64 (first + k * 64) (get_or words k 0)
    → batch ++ members first words ≡ whole → new ++ members first (set words k left) ≡ whole
word-taken k first left words batch new whole z l taken e =
    let word = get_or words k 0 in
    let rest = past first k words in
    ap (λ bs. new ++ bs) (members-at k first left words z l)
    ∙ sym (append_assoc new (bits_from 64 (first + k * 64) left) rest)
    ∙ ap (λ bs. bs ++ rest) taken
    ∙ append_assoc batch (bits_from 64 (first + k * 64) word) rest
    ∙ ap (λ bs. batch ++ bs) (sym (members-at k first word words z l) ∙ ap (members first) (set-get_or words k 0))
    ∙ e

-- the batch with the bits of a word ascends
pub word-ascending : (k first : ℕ) (words all batch : List ℕ) → ZeroBefore k words → k < length words → batch ++ members first words ≡ members first all
    → IsAscending (batch ++ bits_from 64 (first + k * 64) (get_or words k 0))
word-ascending k first words all batch z l e =
    let word = get_or words k 0 in
    let bits = bits_from 64 (first + k * 64) word in
    let rest = past first k words in
    let whole : (batch ++ bits) ++ rest ≡ members first all =
    append_assoc batch bits rest
    ∙ ap (λ bs. batch ++ bs) (sym (members-at k first word words z l) ∙ ap (members first) (set-get_or words k 0))
    ∙ e in
    ascending first _ (batch ++ bits)
    (rising-front first _ (batch ++ bits) rest (subst (Rising first (first + 64 * length all)) (sym whole) (members-rising first _ all refl)))

-- ---- one bit of a word

ascending-front : (xs ys : List ℕ) → IsAscending (xs ++ ys) → IsAscending xs
ascending-front [] ys h = tt
ascending-front (x ∷ []) ys h = tt
ascending-front (x ∷ (y ∷ xs)) ys h = (h.0, ascending-front (y ∷ xs) ys h.1)

-- the lowest bit of a word goes into a batch
pub bit-taken : (first left : ℕ) (batch new whole : List ℕ) → 0 < left → left < 2 ^ 64 → batch ++ bits_from 64 first left ≡ whole
    → new ≡ batch ++ (first + count_trailing_zeros 64 left) ∷ [] → new ++ bits_from 64 first (bit_and left (left - 1)) ≡ whole
bit-taken first left batch new whole some fits e is =
    ap (λ bs. bs ++ bits_from 64 first (bit_and left (left - 1))) is
    ∙ append_assoc batch ((first + count_trailing_zeros 64 left) ∷ []) (bits_from 64 first (bit_and left (left - 1)))
    ∙ ap (λ bs. batch ++ bs) (sym (lowest-bit 64 first left some fits))
    ∙ e

pub bit-ascending : (first left : ℕ) (batch whole : List ℕ) → 0 < left → left < 2 ^ 64 → batch ++ bits_from 64 first left ≡ whole → IsAscending whole
    → IsAscending (batch ++ (first + count_trailing_zeros 64 left) ∷ [])
bit-ascending first left batch whole some fits e h =
    ascending-front (batch ++ (first + count_trailing_zeros 64 left) ∷ []) (bits_from 64 first (bit_and left (left - 1)))
    (subst IsAscending (sym (bit-taken first left batch _ whole some fits e refl)) h)

-- all bits of a word that isn't 0 are some
pub bits-more : (first word : ℕ) (batch new : List ℕ) → 0 < word → word < 2 ^ 64 → new ++ bits_from 64 first 0 ≡ batch ++ bits_from 64 first word
    → length batch < length new
bits-more first word batch new some fits e =
    let left = ap (λ bs. length (new ++ bs)) (bits-zero 64 first) ∙ length-append new [] in
    let both = sym (length-append batch (bits_from 64 first word)) ∙ sym (ap length e) in
    let one = ap length (lowest-bit 64 first word some fits) in
    omega (arith, left, both, one)

-- ---- how many

bits-length : (size a b word : ℕ) → length (bits_from size a word) ≡ length (bits_from size b word)
bits-length zero a b word = ap length (none a word) ∙ sym (ap length (none b word))
bits-length (suc size) a b word =
    ⊎_elim
    (λ e. ap length (even size a word e) ∙ bits-length size (a + 1) (b + 1) (word / 2) ∙ sym (ap length (even size b word e)))
    (λ e. ap length (odd size a word e) ∙ ap suc (bits-length size (a + 1) (b + 1) (word / 2)) ∙ sym (ap length (odd size b word e)))
    (lowest word)

-- it doesn't hang on the first number
members-length : (a b : ℕ) (words : List ℕ) → length (members a words) ≡ length (members b words)
members-length a b [] = refl
members-length a b (w ∷ words) =
    length-append (bits_from 64 a w) (members (a + 64) words)
    ∙ (λ i. bits-length 64 a b w i + members-length (a + 64) (b + 64) words i)
    ∙ sym (length-append (bits_from 64 b w) (members (b + 64) words))

pub members-few : (first : ℕ) (words : List ℕ) → length (members first words) ≤ 64 * length words
members-few first words =
    let few = rising-length first (first + 64 * length words) (members first words) (members-rising first _ words refl) in omega (arith, few)

-- fewer by those that were taken
pub count-less : (count first any : ℕ) (words new batch : List ℕ) → ((f : ℕ) → count ≡ length (members f words))
    → batch ++ members first new ≡ members first words → count - length batch ≡ length (members any new)
count-less count first any words new batch counted e =
    let is = counted first in
    let parts = sym (length-append batch (members first new)) ∙ ap length e in
    let same = members-length first any new in
    omega (arith, is, parts, same)

-- one more
pub count-more : (count place any : ℕ) (words new : List ℕ) → ((f : ℕ) → count ≡ length (members f words)) → has_bit words place ≡ false
    → ((n : ℕ) → has_bit new n ≡ (n == place || has_bit words n)) → count + 1 ≡ length (members any new)
count-more count place any words new counted absent bits =
    let is = counted 0 in
    let absent-there : contains (set_of 0 words) (0 + place) ≡ false =
    contains-from_list_nat (members 0 words) (0 + place) ∙ members-in 0 words place ∙ absent in
    let more = len-members 0 new ∙ ap len (set-inserted 0 place words new bits) ∙ len-with (0 + place) (set_of 0 words) absent-there in
    let old = len-members 0 words in
    let same = members-length 0 any new in
    omega (arith, is, more, old, same)

-- all of them
range-length : (n first : ℕ) → length (range_with_len first n) ≡ n
range-length zero first = refl
range-length (suc n) first = ap suc (range-length n (first + 1))

pub count-all : (n first : ℕ) (words : List ℕ) → words ≡ replicate n (2 ^ 64 - 1) → n * 64 ≡ length (members first words)
count-all n first words e =
    let all = ap (λ ws. length (members first ws)) e ∙ ap length (ones-members n first) ∙ range-length (64 * n) first in
    omega (arith, all)

pub count-none : (n first : ℕ) (words : List ℕ) → words ≡ replicate n 0 → 0 ≡ length (members first words)
count-none n first words e = sym (ap (λ ws. length (members first ws)) e ∙ ap length (zeros-none n first))

-- ---- the words of levels

-- where the top is 0, no word has a bit
pub none-left : (words low middle top : List ℕ) (first : ℕ) → IsSummary words low → IsSummary low middle → IsSummary middle top → length top ≡ 1
    → get_or top 0 0 ≡ 0 → members first words ≡ []
none-left words low middle top first hl hm ht one zero-top =
    zero-whole (length words) first words (omega arith)
    (zero-from (length words) words (λ k l. none-below words low hl (none-below low middle hm (none-below middle top ht all-zero)) k))
  where
    all-zero : (k : ℕ) → get_or top k 0 ≡ 0
    all-zero zero = zero-top
    all-zero (suc k) = outside top (suc k) (omega (arith, one))
