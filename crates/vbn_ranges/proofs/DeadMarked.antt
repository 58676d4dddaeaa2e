-- No dead blocks, and one more.
use Rattle.std.proofs.Common.{◌≡◌, refl, sym, ap, subst, ◌∙◌, ℕ, zero, suc, ◌+◌, ◌*◌, ◌/◌, ◌<◌, ◌≤◌, Bool, true, false, ◌||◌, nat_eq}
use Rattle.std.proofs.Common.{List, [], ◌∷◌, ◌++◌, length, map, get_or, ◌⊎◌, inl, inr, ⊎_elim, zero-add, add-zero, arith}
use Rattle.std.proofs.Math.ListN.{set}
use Rattle.std.proofs.lemmas.List.{set-get_or, length-set}
use Rattle.std.specs.List.{filter, range_with_len}
use Rattle.std.specs.Ordering.{nat_cmp}
use Rattle.std.specs.Cmp.{nat_cmp_total}
use Rattle.std.specs.FinSet as sets
use Rattle.std.specs.FinSet.{FinSet, contains, union, len, from_list, len-empty, contains-empty, contains-union, contains-from_list_nat}
use Rattle.std.specs.FinSet.{same_set, nat_cmp-IsAntisymmetric}
use borrow.Author.Tests.{eqb-true}
use Rattle.nfs_model.specs.Parts.{most_ranges}
use Rattle.nfs_model.specs.volume.Ranges.{with_numbers, IsRangeSize}
use Rattle.vbn_ranges.specs.Marks.{MarksValue, IsMarks, no_marks, marked}
use Rattle.vbn_ranges.specs.Dead.{all_of, AreDead, IsMarksOf}
use Rattle.vbn_ranges.proofs.Rising.{is_in, ascending}
use Rattle.vbn_ranges.proofs.Counted.{rising-length}
use Rattle.vbn_ranges.proofs.Stocked.{ascending-apart, len-apart}
use Rattle.vbn_ranges.proofs.DeadSets.{in-all, of-volume, numbered-at, numbered-set, none-numbered, all-marked-more, filter-rises, filter-in}
use Rattle.vbn_ranges.proofs.DeadCounts.{len-with, with-same, filter-keeps}
use Rattle.vbn_ranges.proofs.Quotients.{below-range, size-some}

-- ---- none

pub none-more : (size n from : ℕ)
    → map (no_marks size) (range_with_len from n) ++ no_marks size (from + n) ∷ [] ≡ map (no_marks size) (range_with_len from (suc n))
none-more size zero from = ap (λ k. no_marks size k ∷ []) (add-zero from)
none-more size (suc n) from =
    let place : from + suc n ≡ from + 1 + n = omega arith in
    ap (λ k. no_marks size from ∷ (map (no_marks size) (range_with_len (from + 1) n) ++ no_marks size k ∷ [])) place
    ∙ ap (λ ms. no_marks size from ∷ ms) (none-more size n (from + 1))

none-all : (size n from : ℕ) → all_of (map (no_marks size) (range_with_len from n)) ≡ sets.empty
none-all size zero from = refl
none-all size (suc n) from =
    ap (union sets.empty) (none-all size n (from + 1))
    ∙ same_set nat_cmp_total nat_cmp-IsAntisymmetric _ _
    (λ q. contains-union nat_cmp_total sets.empty sets.empty q ∙ ap (λ t. t || contains {R = nat_cmp} sets.empty q) (contains-empty nat_cmp q))

none-length : (size n from : ℕ) → length (map (no_marks size) (range_with_len from n)) ≡ n
none-length size zero from = refl
none-length size (suc n) from = ap suc (none-length size n (from + 1))

pub none-dead : (size n : ℕ) (marks : List MarksValue) → IsRangeSize size → marks ≡ map (no_marks size) (range_with_len 0 n) → n ≡ most_ranges
    → AreDead size marks 0
none-dead size n marks h e s =
    subst (λ (ms : List MarksValue). AreDead size ms 0) (sym e)
    (record {
      sized = h;
      all_ranges = none-length size n 0 ∙ s;
      numbered = none-numbered size n 0;
      counted = sym (ap len (none-all size n 0) ∙ len-empty nat_cmp);
    })

pub none-set : (size n : ℕ) (marks : List MarksValue) → marks ≡ map (no_marks size) (range_with_len 0 n) → all_of marks ≡ sets.empty
none-set size n marks e = ap all_of e ∙ none-all size n 0

-- ---- how many there are at most

same-if : (a b : Bool) → (a ≡ true → b ≡ true) → (b ≡ true → a ≡ true) → a ≡ b
same-if true b h k = sym (h refl)
same-if false true h k = k refl
same-if false false h k = refl

few-below : (n : ℕ) (s : FinSet nat_cmp) → ((b : ℕ) → contains s b ≡ true → b < n) → len s ≤ n
few-below n s h =
    let bs = filter (contains s) (range_with_len 0 n) in
    let rises = filter-rises (contains s) n 0 n (omega arith) in
    let few = rising-length 0 n bs rises in
    let is : s ≡ from_list bs =
    same_set nat_cmp_total nat_cmp-IsAntisymmetric _ _
    (λ q. same-if (contains s q) (is_in bs q) (λ t. let low = h q t in filter-keeps (contains s) n 0 q (omega arith) (omega arith) t)
    (filter-in (contains s) (range_with_len 0 n) q)
    ∙ sym (contains-from_list_nat bs q)) in
    let size = ap len is in
    let long = len-apart bs (ascending-apart bs (ascending 0 n bs rises)) in
    omega arith

pub few-dead : (size : ℕ) (marks : List MarksValue) (count : ℕ) → AreDead size marks count → count ≤ 268435456
few-dead size marks count h =
    let counted = h.counted in
    let few = few-below (most_ranges * size) (all_of marks) (of-volume size marks count h).below in
    let most = h.sized.most in
    omega (arith, counted, few, most)

-- ---- one more

-- the marks of a block's range
pub record IsMarksAt (size : ℕ) (marks : List MarksValue) (block : ℕ) (m : MarksValue) : Type 0 where
  pub there : block / size < length marks
  pub same : m ≡ get_or marks (block / size) m
  pub marks_of : IsMarksOf size (block / size) m

pub marks-at : (size : ℕ) (marks : List MarksValue) (count block : ℕ) (m : MarksValue) → AreDead size marks count → block < most_ranges * size
    → m ≡ get_or marks (block / size) m → IsMarksAt size marks block m
marks-at size marks count block m h l e =
    let all = h.all_ranges in
    let below = below-range size most_ranges block (size-some size h.sized) l in
    let there : block / size < length marks = omega (arith, all, below) in
    let at = numbered-at size 0 (block / size) marks m h.numbered there in
    record {
      there = there;
      same = e;
      marks_of = subst (IsMarksOf size (block / size)) (sym e)
          (record { size_is = at.size_is; range_is = at.range_is ∙ zero-add (block / size); marks = at.marks });
    }

-- a block's range, by its marks
pub range-of : (size : ℕ) (marks : List MarksValue) (block : ℕ) (m : MarksValue) → IsMarksAt size marks block m → block / m.range_blocks ≡ m.range
range-of size marks block m o = ap (λ k. block / k) o.marks_of.size_is ∙ sym o.marks_of.range_is

marked-at : (size : ℕ) (marks : List MarksValue) (count block : ℕ) (m : MarksValue) → AreDead size marks count → IsMarksAt size marks block m
    → contains (all_of marks) block ≡ contains m.set block
marked-at size marks count block m h o =
    in-all size 0 (block / size) marks m block h.numbered o.there (sym (zero-add (block / size)))
    ∙ ap (λ (x : MarksValue). contains x.set block) (sym o.same)

all-with : (size : ℕ) (marks : List MarksValue) (block : ℕ) (m new : MarksValue) → IsMarksAt size marks block m → new ≡ marked (block ∷ []) m
    → all_of (set marks (block / size) new) ≡ with_numbers (block ∷ []) (all_of marks)
all-with size marks block m new o e =
    ap (λ (x : MarksValue). all_of (set marks (block / size) x)) (e ∙ ap (marked (block ∷ [])) o.same)
    ∙ all-marked-more (block / size) marks m (block ∷ []) o.there

one-marked : (block : ℕ) (m : MarksValue) → block / m.range_blocks ≡ m.range → IsMarks m → IsMarks (marked (block ∷ []) m)
one-marked block m e h b t =
    ⊎_elim (h b) (λ is. ap (λ n. n / m.range_blocks) (sym (only is)) ∙ e)
    (either (contains m.set b) _ (sym (contains-union nat_cmp_total m.set (from_list (block ∷ [])) b) ∙ t))
  where
    either : (x y : Bool) → (x || y) ≡ true → (x ≡ true) ⊎ (y ≡ true)
    either true y e = inl refl
    either false y e = inr e

    or-false : (x : Bool) → (x || false) ≡ x
    or-false true = refl
    or-false false = refl

    only : contains {R = nat_cmp} (from_list (block ∷ [])) b ≡ true → block ≡ b
    only is = eqb-true block b (sym (contains-from_list_nat (block ∷ []) b ∙ or-false (nat_eq block b)) ∙ is)

pub one-dead : (size : ℕ) (marks : List MarksValue) (count block : ℕ) (m new : MarksValue) → AreDead size marks count → IsMarksAt size marks block m
    → new ≡ marked (block ∷ []) m → contains m.set block ≡ false → AreDead size (set marks (block / size) new) (count + 1)
one-dead size marks count block m new h o e absent =
    record {
      sized = h.sized;
      all_ranges = length-set marks (block / size) new ∙ h.all_ranges;
      numbered = numbered-set size 0 (block / size) marks new h.numbered
          (subst (IsMarksOf size (0 + block / size)) (sym e)
          (record {
            size_is = o.marks_of.size_is;
            range_is = o.marks_of.range_is ∙ sym (zero-add (block / size));
            marks = one-marked block m (range-of size marks block m o) o.marks_of.marks;
          }));
      counted =
          let more = ap len (all-with size marks block m new o e) ∙ len-with block (all_of marks) (marked-at size marks count block m h o ∙ absent) in
          let counted = h.counted in
          omega (arith, more, counted);
    }

pub dead-with : (size : ℕ) (marks : List MarksValue) (block : ℕ) (m new : MarksValue) → IsMarksAt size marks block m → new ≡ marked (block ∷ []) m
    → all_of (set marks (block / size) new) ≡ with_numbers (block ∷ []) (all_of marks)
dead-with = all-with

pub dead-already : (size : ℕ) (marks : List MarksValue) (count block : ℕ) (m : MarksValue) → AreDead size marks count → IsMarksAt size marks block m
    → contains m.set block ≡ true → all_of (set marks (block / size) m) ≡ with_numbers (block ∷ []) (all_of marks)
dead-already size marks count block m h o there =
    ap (λ (x : MarksValue). all_of (set marks (block / size) x)) o.same
    ∙ ap all_of (set-get_or marks (block / size) m)
    ∙ with-same block (all_of marks) (marked-at size marks count block m h o ∙ there)
