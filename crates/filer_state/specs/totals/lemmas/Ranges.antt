-- The ranges of a volume in which more come into use: how many are in use then, and which numbers are free.
use Rattle.std.proofs.Common.{◌≡◌, ℕ, zero, suc, ◌+◌, ◌*◌, ◌<◌, ◌≤◌, Bool, true, false, List, [], ◌∷◌, length, refl, sym, ap, ◌∙◌, subst}
use Rattle.std.proofs.Common.{arith, nat_lt, nat_eq, ⊎_elim}
use Rattle.std.specs.Prelude.{if◌then◌else◌}
use Rattle.std.proofs.lemmas.Bool.{cases_lt, lt-ltb, le-ltb}
use Rattle.std.specs.List.{list_any}
use Rattle.std.specs.Ordering.{nat_cmp}
use Rattle.std.specs.FinSet.{contains, from_list, contains-from_list_nat, contains-empty}
use Rattle.nfs_model.specs.Parts.{one_if}
use Rattle.depot_rule.specs.Sums.{total}
use Rattle.nfs_model.specs.volume.Ranges.{RangeValue, put_in_use, range_numbers}
use Rattle.filer_state.specs.state.Tree.{ranges_used}
use Rattle.filer_state.specs.state.WellFormed.{RangeFits, range_at}
use Rattle.filer_state.specs.laws.lemmas.Sizes.{next-range}
use Rattle.filer_state.specs.laws.lemmas.Opening.{in-own}
use Rattle.filer_state.specs.laws.lemmas.OpeningRanges.{listed-once, same-below}
use Rattle.filer_state.specs.totals.Growing.{first_in_use}

-- ---- ranges from a number on, of which those below u are in use

abbrev pub AllFit : (size u k : ℕ) → List RangeValue → Type 0
AllFit size u k [] = Unit {0}
AllFit size u k (r ∷ ranges) = RangeFits size u k r × AllFit size u (k + 1) ranges

all-fit : (size u k : ℕ) (ranges : List RangeValue) → ((i : ℕ) → i < length ranges → RangeFits size u (k + i) (range_at ranges i)) → AllFit size u k ranges
all-fit size u k [] h = tt
all-fit size u k (r ∷ ranges) h = (
  subst (λ (m : ℕ). RangeFits size u m r) (let same : k + 0 ≡ k = omega arith in same) (h 0 (omega arith)),
  all-fit size u (k + 1) ranges (λ i less.
      subst (λ (m : ℕ). RangeFits size u m (range_at ranges i)) (let same : k + suc i ≡ k + 1 + i = omega arith in same) (h (suc i) (omega arith))),
)

each-fits : (size u k : ℕ) (ranges : List RangeValue) → AllFit size u k ranges → (i : ℕ) → i < length ranges → RangeFits size u (k + i) (range_at ranges i)
each-fits size u k [] fit i less = absurd (omega arith)
each-fits size u k (r ∷ ranges) fit zero less = subst (λ (m : ℕ). RangeFits size u m r) (let same : k ≡ k + 0 = omega arith in same) fit.0
each-fits size u k (r ∷ ranges) fit (suc i) less =
    subst (λ (m : ℕ). RangeFits size u m (range_at ranges i)) (let same : k + 1 + i ≡ k + suc i = omega arith in same)
    (each-fits size u (k + 1) ranges fit.1 i (omega arith))

-- all ranges of a volume, the first n of which are in use
pub all-here : (size u : ℕ) (ranges : List RangeValue) → ((i : ℕ) → i < length ranges → RangeFits size u i (range_at ranges i)) → AllFit size u 0 ranges
all-here size u ranges h = all-fit size u 0 ranges (λ i less.
    subst (λ (m : ℕ). RangeFits size u m (range_at ranges i)) (let same : i ≡ 0 + i = omega arith in same) (h i less))

pub each-here : (size u : ℕ) (ranges : List RangeValue) → AllFit size u 0 ranges → (i : ℕ) → i < length ranges → RangeFits size u i (range_at ranges i)
each-here size u ranges fit i less =
    subst (λ (m : ℕ). RangeFits size u m (range_at ranges i)) (let same : 0 + i ≡ i = omega arith in same) (each-fits size u 0 ranges fit i less)

-- where none of them is in use, it doesn't matter below which number they would be
unused-fit : (size u w k : ℕ) (ranges : List RangeValue) → u ≤ k → w ≤ k → AllFit size u k ranges → AllFit size w k ranges
unused-fit size u w k [] low also fit = tt
unused-fit size u w k (r ∷ ranges) low also fit = (
  record { blocks = fit.0.blocks; number = fit.0.number; in_use = fit.0.in_use ∙ le-ltb k u low ∙ sym (le-ltb k w also); free = fit.0.free },
  unused-fit size u w (k + 1) ranges (omega arith) (omega arith) fit.1,
)

-- ---- how many are in use

none-used : (size u k : ℕ) (ranges : List RangeValue) → u ≤ k → AllFit size u k ranges → ranges_used ranges ≡ 0
none-used size u k [] low fit = refl
none-used size u k (r ∷ ranges) low fit =
    let here : ranges_used (r ∷ ranges) ≡ 0 + ranges_used ranges =
    ap (λ (b : Bool). (if b then 1 else 0) + ranges_used ranges) (fit.0.in_use ∙ le-ltb k u low) in
    let others = none-used size u (k + 1) ranges (omega arith) fit.1 in
    omega (arith, here, others)

pub used-count : (size u k : ℕ) (ranges : List RangeValue) → k ≤ u → u ≤ k + length ranges → AllFit size u k ranges → ranges_used ranges + k ≡ u
used-count size u k [] low high fit = omega arith
used-count size u k (r ∷ ranges) low high fit = ⊎_elim
    (λ (less : k < u).
    let here : ranges_used (r ∷ ranges) ≡ 1 + ranges_used ranges =
    ap (λ (b : Bool). (if b then 1 else 0) + ranges_used ranges) (fit.0.in_use ∙ lt-ltb k u less) in
    let others = used-count size u (k + 1) ranges (omega arith) (omega arith) fit.1 in
    omega (arith, here, others))
    (λ (more : u ≤ k). let none = none-used size u k (r ∷ ranges) more fit in omega (arith, none, low))
    (cases_lt k u)

-- ---- one that comes into use

-- it is in use then
put-fits : (size u w k : ℕ) (r : RangeValue) → k < w → RangeFits size u k r → RangeFits size w k (put_in_use r)
put-fits size u w k r less fit = by r.is_used refl
  where
    by : (b : Bool) → r.is_used ≡ b
        → RangeFits size w k (if b then r else record r { is_used = true; free = from_list (range_numbers r.range_blocks r.number) })
    by true e = record { blocks = fit.blocks; number = fit.number; in_use = e ∙ sym (lt-ltb k w less); free = fit.free }
    by false e = record {
      blocks = fit.blocks;
      number = fit.number;
      in_use = sym (lt-ltb k w less);
      free = record { size = fit.free.size; own = λ b h. in-own r.range_blocks r.number b h; used = λ h. absurd cc };
    }

-- one that was in use stays as it is
put-used : (r : RangeValue) → r.is_used ≡ true → put_in_use r ≡ r
put-used r e = ap (λ (b : Bool). if b then r else record r { is_used = true; free = from_list (range_numbers r.range_blocks r.number) }) e

-- of one that wasn't, all numbers are free, none of which was
put-free : (size u k q : ℕ) (r : RangeValue) → u ≤ k → RangeFits size u k r
    → one_if (contains (put_in_use r).free q) + one_if (nat_lt q (size * k)) ≡ one_if (contains r.free q) + one_if (nat_lt q (size * (k + 1)))
put-free size u k q r low fit =
    let unused : r.is_used ≡ false = fit.in_use ∙ le-ltb k u low in
    let here : one_if (contains (put_in_use r).free q) ≡ one_if (list_any (λ y. nat_eq y q) (range_numbers size k)) =
    ap (λ (b : Bool). one_if (contains (if b then r else record r { is_used = true; free = from_list (range_numbers r.range_blocks r.number) }).free q)) unused
    ∙ (λ j. one_if (contains (from_list {R = nat_cmp} (range_numbers (fit.blocks j) (fit.number j))) q))
    ∙ ap one_if (contains-from_list_nat (range_numbers size k) q) in
    let none : one_if (contains r.free q) ≡ 0 = ap (λ s. one_if (contains s q)) (fit.free.used unused) ∙ ap one_if (contains-empty nat_cmp q) in
    let once = listed-once (size * k) size q in
    let next = same-below q (size * k + size) (size * (k + 1)) (next-range size k) in
    omega (arith, here, none, once, next)

-- ---- all that come into use

pub first-length : (n : ℕ) (ranges : List RangeValue) → length (first_in_use n ranges) ≡ length ranges
first-length zero ranges = refl
first-length (suc n) [] = refl
first-length (suc n) (r ∷ ranges) = ap suc (first-length n ranges)

-- those below the new count are in use
pub first-fit : (size u w k n : ℕ) (ranges : List RangeValue) → w ≡ k + n → u ≤ w → AllFit size u k ranges → AllFit size w k (first_in_use n ranges)
first-fit size u w k zero ranges sum most fit = unused-fit size u w k ranges (omega arith) (omega arith) fit
first-fit size u w k (suc n) [] sum most fit = tt
first-fit size u w k (suc n) (r ∷ ranges) sum most fit =
    (put-fits size u w k r (omega arith) fit.0, first-fit size u w (k + 1) n ranges (omega arith) most fit.1)

-- in how many ranges a number is free
abbrev pub times_free : ℕ → List RangeValue → ℕ
times_free q ranges = total (λ (r : RangeValue). one_if (contains r.free q)) ranges

fresh-free : (size u w k n q : ℕ) (ranges : List RangeValue) → w ≡ k + n → n ≤ length ranges → u ≤ k → AllFit size u k ranges
    → times_free q (first_in_use n ranges) + one_if (nat_lt q (size * k)) ≡ times_free q ranges + one_if (nat_lt q (size * w))
fresh-free size u w k zero q ranges sum enough low fit =
    let end : k ≡ w = omega (arith, sum) in
    let same = same-below q (size * k) (size * w) (ap (λ (m : ℕ). size * m) end) in
    omega (arith, same)
fresh-free size u w k (suc n) q [] sum enough low fit = absurd (omega arith)
fresh-free size u w k (suc n) q (r ∷ ranges) sum enough low fit =
    let here = put-free size u k q r low fit.0 in
    let others = fresh-free size u w (k + 1) n q ranges (omega arith) (omega arith) (omega arith) fit.1 in
    omega (arith, here, others)

-- each number of the ranges that come into use is free once more
pub more-free : (size u w k n q : ℕ) (ranges : List RangeValue) → w ≡ k + n → n ≤ length ranges → k ≤ u → u ≤ w → AllFit size u k ranges
    → times_free q (first_in_use n ranges) + one_if (nat_lt q (size * u)) ≡ times_free q ranges + one_if (nat_lt q (size * w))
more-free size u w k zero q ranges sum enough low high fit =
    let end : u ≡ w = omega (arith, sum, low, high) in
    let same = same-below q (size * u) (size * w) (ap (λ (m : ℕ). size * m) end) in
    omega (arith, same)
more-free size u w k (suc n) q [] sum enough low high fit = absurd (omega arith)
more-free size u w k (suc n) q (r ∷ ranges) sum enough low high fit = ⊎_elim
    (λ (less : k < u).
    let here : one_if (contains (put_in_use r).free q) ≡ one_if (contains r.free q) =
    ap (λ (x : RangeValue). one_if (contains x.free q)) (put-used r (fit.0.in_use ∙ lt-ltb k u less)) in
    let others = more-free size u w (k + 1) n q ranges (omega arith) (omega arith) (omega arith) high fit.1 in
    omega (arith, here, others))
    (λ (more : u ≤ k).
    let all = fresh-free size u w k (suc n) q (r ∷ ranges) sum enough more fit in
    let end : u ≡ k = omega (arith, low, more) in
    let same = same-below q (size * u) (size * k) (ap (λ (m : ℕ). size * m) end) in
    omega (arith, all, same))
    (cases_lt k u)
