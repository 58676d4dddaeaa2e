-- Words as the marks of a range.
use Rattle.std.proofs.Common.{◌≡◌, refl, sym, ap, subst, ◌∙◌, ℕ, zero, suc, ◌+◌, ◌-◌, ◌*◌, ◌/◌, ◌%◌, ◌^◌, ◌<◌, ◌≤◌, Bool, true, false}
use Rattle.std.proofs.Common.{◌||◌, nat_eq, ◌==◌}
use Rattle.std.proofs.Common.{List, [], ◌∷◌, ◌++◌, length, take, drop, replicate, ⊎_elim, min, add-zero, zero-add, arith}
use Rattle.std.proofs.lemmas.List.{take-append-drop}
use Rattle.std.proofs.lemmas.Bool.{cases_lt}
use Rattle.std.proofs.lemmas.Bool.Decides.{nat_tests}
use Rattle.std.proofs.lemmas.List.Folds.{list_any-append}
use Rattle.std.specs.List.{range_with_len}
use Rattle.std.specs.Ordering.{nat_cmp}
use Rattle.std.specs.Cmp.{nat_cmp_total}
use Rattle.std.specs.FinSet.{FinSet, contains, from_list, contains-union, contains-from_list_nat, same_set, nat_cmp-IsAntisymmetric}
use Rattle.nfs_model.specs.Parts.{most_carried}
use Rattle.nfs_model.specs.Moves.{in_range}
use Rattle.nfs_model.specs.volume.Ranges.{with_numbers, without_numbers}
use Rattle.vbn_ranges.specs.Words.{bits_from, members, set_of, has_bit}
use Rattle.vbn_ranges.specs.Marks.{MarksValue, marks_of, no_marks, all_marks, marked, unmarked, IsMarks}
use Rattle.vbn_ranges.proofs.Rising.{is_in, Rising, filter-rising, not-below, within-rising, set-left}
use Rattle.vbn_ranges.proofs.Bits.{ZeroBefore, odd, bits-zero, members-rising, members-in, zero-whole}
use Rattle.vbn_ranges.proofs.Quotients.{quotient-is, within-range}
use lib.Pow.{pow_pos}
use Rattle.vbn_ranges.proofs.Single.{same}

-- ---- what is marked

rising-words : (size first : ℕ) (words : List ℕ) → 64 * length words ≡ size → Rising first (first + size) (members first words)
rising-words size first words n = members-rising first (first + size) words (ap (λ k. first + k) n)

pub in-range-is : (size range : ℕ) (words : List ℕ) → 64 * length words ≡ size
    → in_range size range (set_of (size * range) words) ≡ members (size * range) words
unfolding in_range
in-range-is size range words n =
    filter-rising (contains (set_of (size * range) words)) size (size * range) (size * range + size)
    (members (size * range) words) refl (rising-words size (size * range) words n)
    (λ q l u. contains-from_list_nat (members (size * range) words) q)

pub is-marked : (size range : ℕ) (words : List ℕ) (block : ℕ) → 0 < size → block / size ≡ range
    → has_bit words (block % size) ≡ contains (set_of (size * range) words) block
is-marked size range words block some e =
    let number : size * range + block % size ≡ block = (within-range size range block some e).place in
    sym (contains-from_list_nat (members (size * range) words) block
    ∙ ap (is_in (members (size * range) words)) (sym number)
    ∙ members-in (size * range) words (block % size))

pub are-marks : (size range : ℕ) (words : List ℕ) → 64 * length words ≡ size → IsMarks (marks_of size range words)
are-marks size range words n b t =
    let w = within-rising _ _ _ b (rising-words size (size * range) words n) (sym (contains-from_list_nat (members (size * range) words) b) ∙ t) in
    quotient-is size range b w.0 w.1

-- ---- one more

hit : (n place low block : ℕ) (t : Bool) → low + place ≡ block → (n == place || t) ≡ (t || (nat_eq block (low + n) || false))
hit n place low block t e =
    ⊎_elim (λ is. here n place low block t e is) (λ is. there n place low block t e is) (same n place)
  where
    here : (n place low block : ℕ) (t : Bool) → low + place ≡ block → n ≡ place → (n == place || t) ≡ (t || (nat_eq block (low + n) || false))
    here n place low block true e is = grind (arith, nat_tests)
    here n place low block false e is = grind (arith, nat_tests)

    there : (n place low block : ℕ) (t : Bool) → low + place ≡ block → (n ≡ place → ⊥) → (n == place || t) ≡ (t || (nat_eq block (low + n) || false))
    there n place low block true e is = grind (arith, nat_tests)
    there n place low block false e is = grind (arith, nat_tests)

-- in the numbers below the range neither is
below-hit : (q low block : ℕ) (a b : Bool) → a ≡ false → b ≡ false → q < low → low ≤ block → a ≡ (b || is_in (block ∷ []) q)
below-hit q low block a b ea eb l u = ea ∙ (λ i. sym eb i || miss i)
  where
    miss : false ≡ is_in (block ∷ []) q
    miss = grind (arith, nat_tests)

inserted-at : (low place block : ℕ) (words new : List ℕ) → low + place ≡ block → ((n : ℕ) → has_bit new n ≡ (n == place || has_bit words n)) → (q : ℕ)
    → is_in (members low new) q ≡ (is_in (members low words) q || is_in (block ∷ []) q)
inserted-at low place block words new e bits q =
    ⊎_elim
    (λ l. below-hit q low block _ _ (not-below low _ (members low new) q (members-rising low _ new refl) l)
    (not-below low _ (members low words) q (members-rising low _ words refl) l) l (omega arith))
    (λ l.
    let n = q - low in
    let number : low + n ≡ q = omega arith in
    subst (λ (k : ℕ). is_in (members low new) k ≡ (is_in (members low words) k || is_in (block ∷ []) k)) number
    (members-in low new n ∙ bits n ∙ hit n place low block (has_bit words n) e
    ∙ ap (λ t. t || is_in (block ∷ []) (low + n)) (sym (members-in low words n)))) (cases_lt q low)

-- a number more among those of words
pub set-inserted : (first place : ℕ) (words new : List ℕ) → ((n : ℕ) → has_bit new n ≡ (n == place || has_bit words n))
    → set_of first new ≡ with_numbers ((first + place) ∷ []) (set_of first words)
set-inserted first place words new bits =
    same_set nat_cmp_total nat_cmp-IsAntisymmetric _ _
    (λ q. contains-from_list_nat (members first new) q
    ∙ inserted-at first place (first + place) words new refl bits q
    ∙ sym (contains-union nat_cmp_total (set_of first words) (from_list ((first + place) ∷ [])) q
    ∙ (λ i. contains-from_list_nat (members first words) q i || contains-from_list_nat ((first + place) ∷ []) q i)))

pub inserted : (size range : ℕ) (words new : List ℕ) (block : ℕ) → 0 < size → block / size ≡ range
    → ((n : ℕ) → has_bit new n ≡ (n == block % size || has_bit words n)) → marks_of size range new ≡ marked (block ∷ []) (marks_of size range words)
inserted size range words new block some e bits =
    let number : size * range + block % size ≡ block = (within-range size range block some e).place in
    ap (λ (s : FinSet nat_cmp). record { range_blocks = size; range = range; set = s })
    (set-inserted (size * range) (block % size) words new bits ∙ ap (λ n. with_numbers (n ∷ []) (set_of (size * range) words)) number)

-- ---- taken

pub lowest-taken : (size range most : ℕ) (words new : List ℕ) → 64 * length words ≡ size
    → members (size * range) new ≡ drop (min most most_carried) (members (size * range) words)
    → marks_of size range new ≡ unmarked (take (min most most_carried) (members (size * range) words)) (marks_of size range words)
lowest-taken size range most words new n e =
    let all = members (size * range) words in
    let k = min most most_carried in
    let whole = take-append-drop k all in
    ap (λ (s : FinSet nat_cmp). record { range_blocks = size; range = range; set = s })
    (ap from_list e
    ∙ set-left (size * range) (size * range + size) (take k all) (drop k all)
    (subst (Rising (size * range) (size * range + size)) (sym whole) (rising-words size (size * range) words n))
    ∙ ap (λ bs. without_numbers (take k all) (from_list bs)) whole)

-- ---- none and all

zeros-before : (k n : ℕ) → ZeroBefore k (replicate n 0)
zeros-before zero n = tt
zeros-before (suc k) zero = tt
zeros-before (suc k) (suc n) = (refl, zeros-before k n)

pub zeros-length : (n : ℕ) → length {A = ℕ} (replicate n 0) ≡ n
zeros-length zero = refl
zeros-length (suc n) = ap suc (zeros-length n)

pub zeros-none : (n first : ℕ) → members first (replicate n 0) ≡ []
zeros-none n first = zero-whole n first (replicate n 0) (let long = zeros-length n in omega (arith, long)) (zeros-before n n)

pub none-marked : (size range n : ℕ) (words : List ℕ) → words ≡ replicate n 0 → marks_of size range words ≡ no_marks size range
none-marked size range n words e =
    ap (λ (bs : List ℕ). record { range_blocks = size; range = range; set = from_list bs })
    (ap (members (size * range)) e ∙ zeros-none n (size * range))

range-append : (m n a : ℕ) → range_with_len a m ++ range_with_len (a + m) n ≡ range_with_len a (m + n)
range-append zero n a = λ i. range_with_len (add-zero a i) (sym (zero-add n) i)
range-append (suc m) n a =
    let place : a + suc m ≡ a + 1 + m = omega arith in
    let count : suc (m + n) ≡ suc m + n = omega arith in
    (λ i. a ∷ (range_with_len (a + 1) m ++ range_with_len (place i) n))
    ∙ ap (λ ns. a ∷ ns) (range-append m n (a + 1))
    ∙ ap (range_with_len a) count

ones-bits : (size first : ℕ) → bits_from size first (2 ^ size - 1) ≡ range_with_len first size
ones-bits zero first = bits-zero zero first
ones-bits (suc size) first =
    let some = pow_pos size in
    let half : (2 ^ suc size - 1) / 2 ≡ 2 ^ size - 1 = omega arith in
    odd size first (2 ^ suc size - 1) (omega arith)
    ∙ ap (λ w. first ∷ bits_from size (first + 1) w) half
    ∙ ap (λ ns. first ∷ ns) (ones-bits size (first + 1))

pub ones-members : (n first : ℕ) → members first (replicate n (2 ^ 64 - 1)) ≡ range_with_len first (64 * n)
ones-members zero first = refl
ones-members (suc n) first =
    let count : 64 + 64 * n ≡ 64 * suc n = omega arith in
    (λ i. ones-bits 64 first i ++ ones-members n (first + 64) i)
    ∙ range-append 64 (64 * n) first
    ∙ ap (range_with_len first) count

pub all-marked : (size range n : ℕ) (words : List ℕ) → 64 * n ≡ size → words ≡ replicate n (2 ^ 64 - 1)
    → marks_of size range words ≡ all_marks size range
all-marked size range n words s e =
    ap (λ (bs : List ℕ). record { range_blocks = size; range = range; set = from_list bs })
    (ap (members (size * range)) e ∙ ones-members n (size * range) ∙ ap (range_with_len (size * range)) s)

-- ---- more of them

or-assoc : (a b c : Bool) → ((a || b) || c) ≡ (a || (b || c))
or-assoc true b c = refl
or-assoc false b c = refl

or-false : (a : Bool) → a ≡ (a || false)
or-false true = refl
or-false false = refl

with-more : (bs cs : List ℕ) (s : FinSet nat_cmp) → with_numbers cs (with_numbers bs s) ≡ with_numbers (bs ++ cs) s
with-more bs cs s =
    same_set nat_cmp_total nat_cmp-IsAntisymmetric _ _
    (λ q. contains-union nat_cmp_total (with_numbers bs s) (from_list cs) q
    ∙ (λ i. contains-union nat_cmp_total s (from_list bs) q i || contains-from_list_nat cs q i)
    ∙ or-assoc (contains s q) (contains (from_list bs) q) (is_in cs q)
    ∙ (λ i. contains s q || (contains-from_list_nat bs q i || is_in cs q))
    ∙ sym (contains-union nat_cmp_total s (from_list (bs ++ cs)) q
    ∙ (λ i. contains s q || contains-from_list_nat (bs ++ cs) q i)
    ∙ (λ i. contains s q || list_any-append (λ b. nat_eq b q) bs cs i)))

with-none : (s : FinSet nat_cmp) → s ≡ with_numbers [] s
with-none s =
    same_set nat_cmp_total nat_cmp-IsAntisymmetric _ _
    (λ q. or-false (contains s q) ∙ sym (contains-union nat_cmp_total s (from_list []) q ∙ (λ i. contains s q || contains-from_list_nat [] q i)))

pub marked-more : (blocks : List ℕ) (b : ℕ) (m : MarksValue) → marked (b ∷ []) (marked blocks m) ≡ marked (blocks ++ b ∷ []) m
marked-more blocks b m = ap (λ (s : FinSet nat_cmp). record { range_blocks = m.range_blocks; range = m.range; set = s }) (with-more blocks (b ∷ []) m.set)

pub marked-none : (m : MarksValue) → m ≡ marked [] m
marked-none m = ap (λ (s : FinSet nat_cmp). record { range_blocks = m.range_blocks; range = m.range; set = s }) (with-none m.set)
