-- The marks of all ranges as one set.
use Rattle.std.proofs.Common.{◌≡◌, refl, sym, ap, subst, ◌∙◌, ℕ, zero, suc, ◌+◌, ◌*◌, ◌/◌, ◌<◌, ◌≤◌, Bool, true, false, not, ◌||◌, ◌&&◌, nat_eq, cond}
use Rattle.std.proofs.Common.{List, [], ◌∷◌, ◌++◌, length, drop, map, get_or, min, ◌⊎◌, inl, inr, ⊎_elim, arith}
use Rattle.std.proofs.Math.ListN.{set}
use Rattle.std.specs.List.{filter, range_with_len}
use Rattle.std.specs.Ordering.{nat_cmp}
use Rattle.std.specs.Cmp.{nat_cmp_total}
use Rattle.std.specs.FinSet.{FinSet, contains, union, from_list}
use Rattle.std.specs.FinSet.{contains-empty, contains-union, contains-difference, contains-from_list_nat, same_set, nat_cmp-IsAntisymmetric}
use Rattle.std.proofs.lemmas.Bool.{cases_lt}
use Rattle.std.proofs.lemmas.List.{take-append-drop}
use Rattle.std.proofs.lemmas.List.Folds.{list_any-append}
use borrow.Author.Tests.{eqb-true}
use Rattle.nfs_model.specs.Parts.{most_carried}
use Rattle.nfs_model.specs.Moves.{in_range, first_filled}
use Rattle.nfs_model.specs.volume.Ranges.{with_numbers, without_numbers, IsOfVolume}
use Rattle.vbn_ranges.specs.Marks.{MarksValue, no_marks, lowest_marked, marked, unmarked, IsMarks}
use Rattle.vbn_ranges.specs.Dead.{all_of, IsMarksOf, AreNumbered, AreDead, lowest_dead}
use Rattle.vbn_ranges.proofs.Rising.{is_in, Rising, rising-weaker, rising-front, within-rising}
use Rattle.vbn_ranges.proofs.Ranged.{not-both}
use Rattle.vbn_ranges.proofs.Quotients.{quotient-is, range-below, size-some}

-- ---- which numbers are there

if-never : (t : Bool) → (t ≡ true → ⊥) → t ≡ false
if-never true h = absurd (h refl)
if-never false h = refl

elsewhere : (size range : ℕ) (m : MarksValue) (q : ℕ) → IsMarksOf size range m → (q / size ≡ range → ⊥) → contains m.set q ≡ false
elsewhere size range m q h n =
    if-never (contains m.set q) (λ t. n (sym (ap (λ k. q / k) h.size_is) ∙ h.marks q t ∙ h.range_is))

pub in-union : (m : MarksValue) (marks : List MarksValue) (q : ℕ) → contains (all_of (m ∷ marks)) q ≡ (contains m.set q || contains (all_of marks) q)
in-union m marks q = contains-union nat_cmp_total m.set (all_of marks) q

below-all : (size from : ℕ) (marks : List MarksValue) (q : ℕ) → AreNumbered size from marks → q / size < from → contains (all_of marks) q ≡ false
below-all size from [] q h l = contains-empty nat_cmp q
below-all size from (m ∷ marks) q h l =
    in-union m marks q
    ∙ (λ i. elsewhere size from m q h.0 (λ e. omega (arith, l, e)) i || below-all size (from + 1) marks q h.1 (omega (arith, l)) i)

above-all : (size from : ℕ) (marks : List MarksValue) (q : ℕ) → AreNumbered size from marks → from + length marks ≤ q / size
    → contains (all_of marks) q ≡ false
above-all size from [] q h l = contains-empty nat_cmp q
above-all size from (m ∷ marks) q h l =
    in-union m marks q
    ∙ (λ i. elsewhere size from m q h.0 (λ e. omega (arith, l, e)) i || above-all size (from + 1) marks q h.1 (omega (arith, l)) i)

or-false : (t : Bool) → (t || false) ≡ t
or-false true = refl
or-false false = refl

pub in-all : (size from i : ℕ) (marks : List MarksValue) (d : MarksValue) (q : ℕ) → AreNumbered size from marks → i < length marks → q / size ≡ from + i
    → contains (all_of marks) q ≡ contains (get_or marks i d).set q
in-all size from i [] d q h l e = absurd (omega arith)
in-all size from zero (m ∷ marks) d q h l e =
    in-union m marks q ∙ (λ i. contains m.set q || below-all size (from + 1) marks q h.1 (omega (arith, e)) i) ∙ or-false (contains m.set q)
in-all size from (suc i) (m ∷ marks) d q h l e =
    in-union m marks q
    ∙ (λ j. elsewhere size from m q h.0 (λ is. omega (arith, e, is)) j || in-all size (from + 1) i marks d q h.1 (omega arith) (omega (arith, e)) j)

pub of-volume : (size : ℕ) (marks : List MarksValue) (count : ℕ) → AreDead size marks count → IsOfVolume size (all_of marks)
of-volume size marks count h = record {
  below = λ b t.
      ⊎_elim (λ (l : b / size < 16). range-below size 16 b (size-some size h.sized) l)
      (λ (l : 16 ≤ b / size).
      let all = h.all_ranges in
      absurd (not-both _ t (above-all size 0 marks b h.numbered (omega (arith, all, l))))) (cases_lt (b / size) 16);
}

-- ---- the marks of one range

pub numbered-at : (size from i : ℕ) (marks : List MarksValue) (d : MarksValue) → AreNumbered size from marks → i < length marks
    → IsMarksOf size (from + i) (get_or marks i d)
numbered-at size from i [] d h l = absurd (omega arith)
numbered-at size from zero (m ∷ marks) d h l =
    let range = h.0.range_is in record { size_is = h.0.size_is; range_is = omega (arith, range); marks = h.0.marks }
numbered-at size from (suc i) (m ∷ marks) d h l =
    let rest = numbered-at size (from + 1) i marks d h.1 (omega arith) in
    let range = rest.range_is in record { size_is = rest.size_is; range_is = omega (arith, range); marks = rest.marks }

pub numbered-set : (size from i : ℕ) (marks : List MarksValue) (m : MarksValue) → AreNumbered size from marks → IsMarksOf size (from + i) m
    → AreNumbered size from (set marks i m)
numbered-set size from i [] m h k = tt
numbered-set size from zero (x ∷ marks) m h k =
    let range = k.range_is in (record { size_is = k.size_is; range_is = omega (arith, range); marks = k.marks }, h.1)
numbered-set size from (suc i) (x ∷ marks) m h k =
    let range = k.range_is in
    (h.0, numbered-set size (from + 1) i marks m h.1 (record { size_is = k.size_is; range_is = omega (arith, range); marks = k.marks }))

pub none-numbered : (size n from : ℕ) → AreNumbered size from (map (no_marks size) (range_with_len from n))
none-numbered size zero from = tt
none-numbered size (suc n) from = (
  record { size_is = refl; range_is = refl; marks = λ b t. absurd (not-both _ t (contains-empty nat_cmp b)) },
  none-numbered size n (from + 1),
)

-- ---- one more

swapped : (a b c : Bool) → ((a || b) || c) ≡ ((a || c) || b)
swapped true b c = refl
swapped false true true = refl
swapped false true false = refl
swapped false false true = refl
swapped false false false = refl

regrouped : (a b c : Bool) → (a || (b || c)) ≡ ((a || b) || c)
regrouped true b c = refl
regrouped false b c = refl

pub all-marked-more : (i : ℕ) (marks : List MarksValue) (d : MarksValue) (blocks : List ℕ) → i < length marks
    → all_of (set marks i (marked blocks (get_or marks i d))) ≡ with_numbers blocks (all_of marks)
all-marked-more i [] d blocks l = absurd (omega arith)
all-marked-more zero (m ∷ marks) d blocks l =
    same_set nat_cmp_total nat_cmp-IsAntisymmetric _ _
    (λ q. contains-union nat_cmp_total (with_numbers blocks m.set) (all_of marks) q
    ∙ ap (λ t. t || contains (all_of marks) q) (contains-union nat_cmp_total m.set (from_list blocks) q)
    ∙ swapped (contains m.set q) (contains {R = nat_cmp} (from_list blocks) q) (contains (all_of marks) q)
    ∙ sym (contains-union nat_cmp_total (all_of (m ∷ marks)) (from_list blocks) q
    ∙ ap (λ t. t || contains {R = nat_cmp} (from_list blocks) q) (in-union m marks q)))
all-marked-more (suc i) (m ∷ marks) d blocks l =
    ap (union m.set) (all-marked-more i marks d blocks (omega arith))
    ∙ same_set nat_cmp_total nat_cmp-IsAntisymmetric _ _
    (λ q. contains-union nat_cmp_total m.set (with_numbers blocks (all_of marks)) q
    ∙ ap (λ t. contains m.set q || t) (contains-union nat_cmp_total (all_of marks) (from_list blocks) q)
    ∙ regrouped (contains m.set q) (contains (all_of marks) q) (contains {R = nat_cmp} (from_list blocks) q)
    ∙ sym (contains-union nat_cmp_total (all_of (m ∷ marks)) (from_list blocks) q
    ∙ ap (λ t. t || contains {R = nat_cmp} (from_list blocks) q) (in-union m marks q)))

-- ---- fewer

kept : (a b c : Bool) → (b ≡ true → c ≡ false) → ((a && not b) || c) ≡ ((a || c) && not b)
kept true true c h = h refl
kept true false c h = refl
kept false true true h = absurd (not-both true refl (h refl))
kept false true false h = refl
kept false false true h = refl
kept false false false h = refl

kept-beside : (a b c : Bool) → (b ≡ true → a ≡ false) → (a || (c && not b)) ≡ ((a || c) && not b)
kept-beside true true c h = absurd (not-both true refl (h refl))
kept-beside true false c h = refl
kept-beside false b c h = refl

pub all-marked-less : (size from i : ℕ) (marks : List MarksValue) (d : MarksValue) (blocks : List ℕ) → AreNumbered size from marks → i < length marks
    → ((q : ℕ) → is_in blocks q ≡ true → q / size ≡ from + i)
    → all_of (set marks i (unmarked blocks (get_or marks i d))) ≡ without_numbers blocks (all_of marks)
all-marked-less size from i [] d blocks h l o = absurd (omega arith)
all-marked-less size from zero (m ∷ marks) d blocks h l o =
    same_set nat_cmp_total nat_cmp-IsAntisymmetric _ _
    (λ q. contains-union nat_cmp_total (without_numbers blocks m.set) (all_of marks) q
    ∙ ap (λ t. t || contains (all_of marks) q) (contains-difference nat_cmp_total m.set (from_list blocks) q)
    ∙ kept (contains m.set q) (contains {R = nat_cmp} (from_list blocks) q) (contains (all_of marks) q)
    (λ t. let place = o q (sym (contains-from_list_nat blocks q) ∙ t) in below-all size (from + 1) marks q h.1 (omega (arith, place)))
    ∙ sym (contains-difference nat_cmp_total (all_of (m ∷ marks)) (from_list blocks) q
    ∙ ap (λ t. t && not (contains {R = nat_cmp} (from_list blocks) q)) (in-union m marks q)))
all-marked-less size from (suc i) (m ∷ marks) d blocks h l o =
    ap (union m.set) (all-marked-less size (from + 1) i marks d blocks h.1 (omega arith) (λ q t. let place = o q t in omega (arith, place)))
    ∙ same_set nat_cmp_total nat_cmp-IsAntisymmetric _ _
    (λ q. contains-union nat_cmp_total m.set (without_numbers blocks (all_of marks)) q
    ∙ ap (λ t. contains m.set q || t) (contains-difference nat_cmp_total (all_of marks) (from_list blocks) q)
    ∙ kept-beside (contains m.set q) (contains {R = nat_cmp} (from_list blocks) q) (contains (all_of marks) q)
    (λ t. let place = o q (sym (contains-from_list_nat blocks q) ∙ t) in elsewhere size from m q h.0 (λ e. omega (arith, place, e)))
    ∙ sym (contains-difference nat_cmp_total (all_of (m ∷ marks)) (from_list blocks) q
    ∙ ap (λ t. t && not (contains {R = nat_cmp} (from_list blocks) q)) (in-union m marks q)))

and-none : (t : Bool) → (t && true) ≡ t
and-none true = refl
and-none false = refl

pub without-none : (s : FinSet nat_cmp) → without_numbers [] s ≡ s
without-none s =
    same_set nat_cmp_total nat_cmp-IsAntisymmetric _ _
    (λ q. contains-difference nat_cmp_total s (from_list []) q
    ∙ ap (λ t. contains s q && not t) (contains-from_list_nat [] q)
    ∙ and-none (contains s q))

and-left : (a b : Bool) → (a && b) ≡ true → a ≡ true
and-left true b e = refl
and-left false b e = e

pub still-marks : (blocks : List ℕ) (m : MarksValue) → IsMarks m → IsMarks (unmarked blocks m)
still-marks blocks m h b t = h b (and-left (contains m.set b) _ (sym (contains-difference nat_cmp_total m.set (from_list blocks) b) ∙ t))

-- ---- the lowest of a range

pub filter-rises : (p : ℕ → Bool) (n low high : ℕ) → low + n ≡ high → Rising low high (filter p (range_with_len low n))
filter-rises p zero low high e = omega arith
filter-rises p (suc n) low high e = by (p low) (filter-rises p n (low + 1) high (omega arith))
  where
    by : (t : Bool) → Rising (low + 1) high (filter p (range_with_len (low + 1) n))
        → Rising low high (cond t (low ∷ filter p (range_with_len (low + 1) n)) (filter p (range_with_len (low + 1) n)))
    by true r = (omega arith, r)
    by false r = rising-weaker (low + 1) low high _ (omega arith) r

pub filter-in : (p : ℕ → Bool) (xs : List ℕ) (q : ℕ) → is_in (filter p xs) q ≡ true → p q ≡ true
filter-in p [] q t = absurd (not-both true refl (sym t))
filter-in p (x ∷ xs) q t = by (p x) refl (filter-in p xs q) t
  where
    either : (a b : Bool) → (a || b) ≡ true → (a ≡ true) ⊎ (b ≡ true)
    either true b e = inl refl
    either false b e = inr e

    by : (s : Bool) → p x ≡ s → (is_in (filter p xs) q ≡ true → p q ≡ true) → is_in (cond s (x ∷ filter p xs) (filter p xs)) q ≡ true → p q ≡ true
    by true e r t = ⊎_elim (λ is. subst (λ (n : ℕ). p n ≡ true) (eqb-true x q is) e) r (either (nat_eq x q) (is_in (filter p xs) q) t)
    by false e r t = r t

in-front : (xs ys : List ℕ) (q : ℕ) → is_in xs q ≡ true → is_in (xs ++ ys) q ≡ true
in-front xs ys q t = list_any-append (λ b. nat_eq b q) xs ys ∙ ap (λ s. s || is_in ys q) t

rising-range : (m : MarksValue)
    → Rising (m.range_blocks * m.range) (m.range_blocks * m.range + m.range_blocks) (in_range m.range_blocks m.range m.set)
unfolding in_range
rising-range m = filter-rises (contains m.set) m.range_blocks (m.range_blocks * m.range) _ refl

in-range-in : (m : MarksValue) (q : ℕ) → is_in (in_range m.range_blocks m.range m.set) q ≡ true → contains m.set q ≡ true
unfolding in_range
in-range-in m q t = filter-in (contains m.set) (range_with_len (m.range_blocks * m.range) m.range_blocks) q t

pub lowest-rising : (n : ℕ) (m : MarksValue)
    → Rising (m.range_blocks * m.range) (m.range_blocks * m.range + m.range_blocks) (lowest_marked n m)
lowest-rising n m =
    let k = min n most_carried in
    let all = in_range m.range_blocks m.range m.set in
    rising-front (m.range_blocks * m.range) (m.range_blocks * m.range + m.range_blocks) (lowest_marked n m) (drop k all)
    (subst (Rising (m.range_blocks * m.range) (m.range_blocks * m.range + m.range_blocks)) (sym (take-append-drop k all)) (rising-range m))

pub lowest-in : (n : ℕ) (m : MarksValue) (q : ℕ) → is_in (lowest_marked n m) q ≡ true → contains m.set q ≡ true
lowest-in n m q t =
    let k = min n most_carried in
    let all = in_range m.range_blocks m.range m.set in
    in-range-in m q
    (subst (λ (bs : List ℕ). is_in bs q ≡ true) (take-append-drop k all)
    (in-front (lowest_marked n m) (drop k all) q t))

pub lowest-of : (n : ℕ) (m : MarksValue) (q : ℕ) → is_in (lowest_marked n m) q ≡ true → q / m.range_blocks ≡ m.range
lowest-of n m q t =
    let w = within-rising _ _ (lowest_marked n m) q (lowest-rising n m) t in quotient-is m.range_blocks m.range q w.0 w.1

-- ---- the lowest of all

-- the ranges before a place have no number marked
abbrev pub EmptyBefore : ℕ → ℕ → List MarksValue → Type 0
EmptyBefore n zero marks = Unit {0}
EmptyBefore n (suc k) [] = Unit {0}
EmptyBefore n (suc k) (m ∷ marks) = (lowest_marked n m ≡ []) × EmptyBefore n k marks

pub empty-more : (n k : ℕ) (marks : List MarksValue) (d : MarksValue) → EmptyBefore n k marks → k < length marks → lowest_marked n (get_or marks k d) ≡ []
    → EmptyBefore n (suc k) marks
empty-more n k [] d h l e = absurd (omega arith)
empty-more n zero (m ∷ marks) d h l e = (e, tt)
empty-more n (suc k) (m ∷ marks) d h l e = (h.0, empty-more n k marks d h.1 (omega arith) e)

filled-some : (x : List ℕ) (rest : List (List ℕ)) → (x ≡ [] → ⊥) → first_filled (x ∷ rest) ≡ x
filled-some [] rest h = absurd (h refl)
filled-some (b ∷ bs) rest h = refl

filled-none : (x : List ℕ) (rest : List (List ℕ)) → x ≡ [] → first_filled (x ∷ rest) ≡ first_filled rest
filled-none x rest e = ap (λ (y : List ℕ). first_filled (y ∷ rest)) e

pub lowest-here : (n k : ℕ) (marks : List MarksValue) (d : MarksValue) → EmptyBefore n k marks → k < length marks
    → (lowest_marked n (get_or marks k d) ≡ [] → ⊥)
    → lowest_dead n marks ≡ lowest_marked n (get_or marks k d)
lowest-here n k [] d h l e = absurd (omega arith)
lowest-here n zero (m ∷ marks) d h l e = filled-some (lowest_marked n m) (map (lowest_marked n) marks) e
lowest-here n (suc k) (m ∷ marks) d h l e =
    filled-none (lowest_marked n m) (map (lowest_marked n) marks) h.0 ∙ lowest-here n k marks d h.1 (omega arith) e

pub lowest-none : (n k : ℕ) (marks : List MarksValue) → EmptyBefore n k marks → length marks ≤ k → lowest_dead n marks ≡ []
lowest-none n k [] h l = refl
lowest-none n zero (m ∷ marks) h l = absurd (omega arith)
lowest-none n (suc k) (m ∷ marks) h l =
    filled-none (lowest_marked n m) (map (lowest_marked n) marks) h.0 ∙ lowest-none n k marks h.1 (omega arith)
