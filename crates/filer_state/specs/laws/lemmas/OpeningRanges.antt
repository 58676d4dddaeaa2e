-- The ranges of a volume as a run begins: each number below the end of those in use is free once.
use Rattle.std.proofs.Common.{◌≡◌, ◌≢◌, ℕ, zero, suc, ◌+◌, ◌*◌, ◌<◌, ◌≤◌, Bool, ◌||◌}
use Rattle.std.proofs.Common.{refl, ap, ◌∙◌, arith, eq-eqb, ne_eqb, nat_lt, nat_eq, ⊎_elim}
use Rattle.std.specs.Prelude.{if◌then◌else◌}
use Rattle.std.proofs.lemmas.Bool.{cases_lt, cases_eq, lt-ltb, le-ltb}
use Rattle.std.specs.List.{range_with_len, list_any}
use Rattle.std.specs.Ordering.{nat_cmp}
use Rattle.std.specs.FinSet.{contains, contains-from_list_nat, contains-empty}
use Rattle.nfs_model.specs.Parts.{one_if}
use Rattle.depot_rule.specs.Sums.{total}
use Rattle.nfs_model.specs.volume.Ranges.{RangeValue, unused_range, put_in_use, range_numbers}
use Rattle.filer_state.specs.state.Contents.{each}
use Rattle.filer_state.specs.state.Tree.{ranges_used}
use Rattle.filer_state.specs.state.Opening.{opening_range}
use Rattle.filer_state.specs.laws.lemmas.Sizes.{next-range}

-- ---- counts below a number

pub one-below : (q n : ℕ) → q < n → one_if (nat_lt q n) ≡ 1
one-below q n less = ap one_if (lt-ltb q n less)

pub none-below : (q n : ℕ) → n ≤ q → one_if (nat_lt q n) ≡ 0
none-below q n more = ap one_if (le-ltb q n more)

pub same-below : (q m n : ℕ) → m ≡ n → one_if (nat_lt q m) ≡ one_if (nat_lt q n)
same-below q m n e = ap (λ (x : ℕ). one_if (nat_lt q x)) e

-- how often a number stands among n numbers from a on
pub listed-once : (a n q : ℕ) → one_if (list_any (λ y. nat_eq y q) (range_with_len a n)) + one_if (nat_lt q a) ≡ one_if (nat_lt q (a + n))
listed-once a zero q = let same = same-below q a (a + 0) (omega arith) in omega arith
listed-once a (suc n) q =
    let others = listed-once (a + 1) n q in
    let next = same-below q (a + 1 + n) (a + suc n) (omega arith) in
    ⊎_elim
    (λ (e : a ≡ q).
    let here : one_if (nat_eq a q || list_any (λ y. nat_eq y q) (range_with_len (a + 1) n)) ≡ 1 =
    ap (λ (b : Bool). one_if (b || list_any (λ y. nat_eq y q) (range_with_len (a + 1) n))) (eq-eqb a q e) in
    let low = none-below q a (omega arith) in
    let high = one-below q (a + suc n) (omega arith) in
    omega arith)
    (λ (ne : a ≢ q).
    let here : one_if (nat_eq a q || list_any (λ y. nat_eq y q) (range_with_len (a + 1) n)) ≡ one_if (list_any (λ y. nat_eq y q) (range_with_len (a + 1) n)) =
    ap (λ (b : Bool). one_if (b || list_any (λ y. nat_eq y q) (range_with_len (a + 1) n))) (ne_eqb a q ne) in
    ⊎_elim
    (λ (less : q < a). let low = one-below q a less in let high = one-below q (a + 1) (omega arith) in omega arith)
    (λ (more : a ≤ q). let low = none-below q a more in let high = none-below q (a + 1) (omega (arith, ne)) in omega arith)
    (cases_lt q a))
    (cases_eq a q)

-- ---- ranges

pub opening-used : (size u r : ℕ) → r < u → opening_range size u r ≡ put_in_use (unused_range size r)
opening-used size u r less = ap (λ (b : Bool). if b then put_in_use (unused_range size r) else unused_range size r) (lt-ltb r u less)

pub opening-unused : (size u r : ℕ) → u ≤ r → opening_range size u r ≡ unused_range size r
opening-unused size u r more = ap (λ (b : Bool). if b then put_in_use (unused_range size r) else unused_range size r) (le-ltb r u more)

module _ (size u : ℕ) where
  none-used : (from n : ℕ) → u ≤ from → ranges_used (each (opening_range size u) from n) ≡ 0
  none-used from zero more = refl
  none-used from (suc n) more =
      let here : ranges_used (each (opening_range size u) from (suc n)) ≡ 0 + ranges_used (each (opening_range size u) (from + 1) n) =
      ap (λ (x : RangeValue). (if x.is_used then 1 else 0) + ranges_used (each (opening_range size u) (from + 1) n)) (opening-unused size u from more) in
      let others = none-used (from + 1) n (omega arith) in
      omega arith

  -- as many are in use as were asked
  pub all-used : (from n : ℕ) → from ≤ u → u ≤ from + n → ranges_used (each (opening_range size u) from n) + from ≡ u
  all-used from zero low high = omega arith
  all-used from (suc n) low high = ⊎_elim
      (λ (less : from < u).
      let here : ranges_used (each (opening_range size u) from (suc n)) ≡ 1 + ranges_used (each (opening_range size u) (from + 1) n) =
      ap (λ (x : RangeValue). (if x.is_used then 1 else 0) + ranges_used (each (opening_range size u) (from + 1) n)) (opening-used size u from less) in
      let others = all-used (from + 1) n (omega arith) (omega arith) in
      omega arith)
      (λ (more : u ≤ from). let none = none-used from (suc n) more in omega arith)
      (cases_lt from u)

  free-in : (q r : ℕ) → r < u → one_if (contains (opening_range size u r).free q) + one_if (nat_lt q (size * r))
      ≡ one_if (nat_lt q (size * (r + 1)))
  free-in q r less =
      let here : one_if (contains (opening_range size u r).free q) ≡ one_if (list_any (λ y. nat_eq y q) (range_numbers size r)) =
      ap (λ (x : RangeValue). one_if (contains x.free q)) (opening-used size u r less) ∙ ap one_if (contains-from_list_nat (range_numbers size r) q) in
      let once = listed-once (size * r) size q in
      let next = same-below q (size * r + size) (size * (r + 1)) (next-range size r) in
      omega arith

  none-in : (q r : ℕ) → u ≤ r → one_if (contains (opening_range size u r).free q) ≡ 0
  none-in q r more = ap (λ (x : RangeValue). one_if (contains x.free q)) (opening-unused size u r more) ∙ ap one_if (contains-empty nat_cmp q)

  none-free : (q from n : ℕ) → u ≤ from → total (λ (x : RangeValue). one_if (contains x.free q)) (each (opening_range size u) from n) ≡ 0
  none-free q from zero more = refl
  none-free q from (suc n) more = let here = none-in q from more in let others = none-free q (from + 1) n (omega arith) in omega arith

  -- each number below the end of those in use is free once
  pub all-free : (q from n : ℕ) → from ≤ u → u ≤ from + n
      → total (λ (x : RangeValue). one_if (contains x.free q)) (each (opening_range size u) from n) + one_if (nat_lt q (size * from))
      ≡ one_if (nat_lt q (size * u))
  all-free q from zero low high =
      let end : from ≡ u = omega (arith, low, high) in
      let same = same-below q (size * from) (size * u) (ap (λ (k : ℕ). size * k) end) in
      omega arith
  all-free q from (suc n) low high = ⊎_elim
      (λ (less : from < u).
      let here = free-in q from less in
      let others = all-free q (from + 1) n (omega arith) (omega arith) in
      omega arith)
      (λ (more : u ≤ from).
      let none = none-free q from (suc n) more in
      let end : from ≡ u = omega (arith, low, more) in
      let same = same-below q (size * from) (size * u) (ap (λ (k : ℕ). size * k) end) in
      omega arith)
      (cases_lt from u)
