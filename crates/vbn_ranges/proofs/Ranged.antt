-- What holds of ranges.
use Rattle.std.proofs.Common.{◌≡◌, refl, sym, ap, subst, ◌∙◌, ℕ, zero, suc, ◌+◌, ◌*◌, ◌/◌, Bool, true, false, not, ◌||◌, ◌&&◌, nat_eq}
use Rattle.std.proofs.Common.{List, [], ◌∷◌, length, slice_get, Some, ◌-◌, ◌≤◌, ◌<◌, ◌⊎◌, inl, inr, ⊎_elim, arith}
use Rattle.std.specs.List.{AllByRecursion, list_any, range_with_len}
use Rattle.std.specs.Ordering.{nat_cmp}
use Rattle.std.specs.Cmp.{nat_cmp_total}
use Rattle.std.specs.FinSet.{contains, from_list, contains-empty, contains-union, contains-difference, contains-from_list_nat}
use Rattle.std.specs.FinSet.{same_set, nat_cmp-IsAntisymmetric}
use borrow.Author.Tests.{eqb-true}
use Rattle.nfs_model.specs.Parts.{IsAscending, IsBatch}
use Rattle.nfs_model.specs.volume.Ranges.{RangeValue, unused_range, range_numbers, taken, given, MayBeGiven, IsRange, IsRangeSize, put_in_use}
use Rattle.vbn_ranges.specs.Marks.{MarksValue}
use Rattle.std.proofs.lemmas.Bool.Decides.{nat_tests}
use Rattle.nfs_values.specs.declared.number.BlockNumber.{BlockNumber}
use Rattle.vbn_ranges.specs.Batch.{last_of, numbers, AreCarried}
use Rattle.vbn_ranges.proofs.Rising.{is_in, Rising, within-rising}
use Rattle.vbn_ranges.proofs.Quotients.{quotient-is, within-range}

pub not-both : (t : Bool) → t ≡ true → t ≡ false → ⊥
not-both true a b = cc
not-both false a b = cc

pub unused-is : (size number : ℕ) → IsRangeSize size → IsRange (unused_range size number)
unused-is size number h = record { size = h; own = λ b t. absurd (not-both _ t (contains-empty nat_cmp b)); used = λ e. refl }

range-rising : (n low high : ℕ) → low + n ≡ high → Rising low high (range_with_len low n)
range-rising zero low high e = omega arith
range-rising (suc n) low high e = (omega arith, range-rising n (low + 1) high (omega arith))

pub free-is : (size number : ℕ) → IsRangeSize size
    → IsRange (record { range_blocks = size; number = number; is_used = true; free = from_list (range_numbers size number) })
free-is size number h = record {
  size = h;
  own = λ b t.
      let w = within-rising _ _ (range_numbers size number) b (range-rising size (size * number) _ refl)
      (sym (contains-from_list_nat (range_numbers size number) b) ∙ t) in
      quotient-is size number b w.0 w.1;
  used = λ e. absurd (not-both true refl e);
}

and-left : (a b : Bool) → (a && b) ≡ true → a ≡ true
and-left true b e = refl
and-left false b e = e

pub taken-is : (blocks : List ℕ) (r : RangeValue) → IsRange r → IsRange (taken blocks r)
taken-is blocks r h = record {
  size = h.size;
  own = λ b t. h.own b (and-left (contains r.free b) _ (sym (contains-difference nat_cmp_total r.free (from_list blocks) b) ∙ t));
  used = λ e.
      same_set nat_cmp_total nat_cmp-IsAntisymmetric _ _
      (λ q. contains-difference nat_cmp_total r.free (from_list blocks) q
      ∙ ap (λ t. t && not (contains {R = nat_cmp} (from_list blocks) q)) (ap (λ s. contains s q) (h.used e) ∙ contains-empty nat_cmp q)
      ∙ sym (contains-empty nat_cmp q));
}

either : (a b : Bool) → (a || b) ≡ true → (a ≡ true) ⊎ (b ≡ true)
either true b e = inl refl
either false b e = inr e

all-in : (P : ℕ → Type 0) (blocks : List ℕ) (q : ℕ) → AllByRecursion P blocks → is_in blocks q ≡ true → P q
all-in P [] q h t = absurd (not-both false t refl)
all-in P (b ∷ blocks) q h t = ⊎_elim (λ e. subst P (one-number b q e) h.0) (λ e. all-in P blocks q h.1 e) (either (nat_eq b q) (is_in blocks q) t)
  where
    one-number : (a c : ℕ) → nat_eq a c ≡ true → a ≡ c
    one-number = eqb-true

pub given-is : (blocks : List ℕ) (r : RangeValue) → IsRange r → MayBeGiven blocks r → IsRange (given blocks r)
given-is blocks r h m = record {
  size = h.size;
  own = λ b t.
      ⊎_elim (h.own b) (λ e. all-in (λ n. n / r.range_blocks ≡ r.number) blocks b m.batch.of_range (sym (contains-from_list_nat blocks b) ∙ e))
      (either (contains r.free b) (contains (from_list blocks) b) (sym (contains-union nat_cmp_total r.free (from_list blocks) b) ∙ t));
  used = λ e. absurd (not-both _ m.used e);
}

-- ---- what may be given

-- each number is at or below the last
upto-last : (b : ℕ) (blocks : List ℕ) → IsAscending (b ∷ blocks) → b ≤ last_of b blocks
upto-last b [] h = omega arith
upto-last b (c ∷ blocks) h = let a = h.0 in let more = upto-last c blocks h.1 in omega (arith, a, more)

-- Where the first and the last of ascending numbers are of a range, all are.
all-of-range : (size range b : ℕ) (blocks : List ℕ) → 0 < size → IsAscending (b ∷ blocks) → b / size ≡ range → last_of b blocks / size ≡ range
    → AllByRecursion (λ n. n / size ≡ range) (b ∷ blocks)
all-of-range size range b [] some h e f = (e, tt)
all-of-range size range b (c ∷ blocks) some h e f =
    let first = within-range size range b some e in
    let last = within-range size range (last_of c blocks) some f in
    let low = first.low in
    let high = last.high in
    let a = h.0 in
    let more = upto-last c blocks h.1 in
    (e, all-of-range size range c blocks some h.1 (quotient-is size range c (omega (arith, low, a)) (omega (arith, high, more))) f)

-- and where all are, the last is
last-of-range : (size range b : ℕ) (blocks : List ℕ) → AllByRecursion (λ n. n / size ≡ range) (b ∷ blocks) → last_of b blocks / size ≡ range
last-of-range size range b [] h = h.0
last-of-range size range b (c ∷ blocks) h = last-of-range size range c blocks h.1

-- carried numbers of one range are a batch of it
pub batch-of : (size range : ℕ) (blocks : List ℕ) → AreCarried blocks → AllByRecursion (λ n. n / size ≡ range) blocks → IsBatch size range blocks
batch-of size range blocks c h = record { few = c.few; ascending = c.ascending; of_range = h }

none-free : (p : ℕ → Bool) (blocks : List ℕ) → list_any p blocks ≡ false → AllByRecursion (λ b. p b ≡ false) blocks
none-free p [] e = tt
none-free p (b ∷ blocks) e = (first (p b) _ e, none-free p blocks (second (p b) _ e))
  where
    first : (s t : Bool) → (s || t) ≡ false → s ≡ false
    first true t e = e
    first false t e = refl

    second : (s t : Bool) → (s || t) ≡ false → t ≡ false
    second true t e = absurd (not-both true refl e)
    second false t e = e

some-free : (p : ℕ → Bool) (blocks : List ℕ) → AllByRecursion (λ b. p b ≡ false) blocks → list_any p blocks ≡ false
some-free p [] h = refl
some-free p (b ∷ blocks) h = λ i. h.0 i || some-free p blocks h.1 i

pub may-be-given : (blocks : List ℕ) (r : RangeValue) → r.is_used ≡ true → IsBatch r.range_blocks r.number blocks → list_any (contains r.free) blocks ≡ false
    → MayBeGiven blocks r
may-be-given blocks r u h e = record { used = u; batch = h; apart = none-free (contains r.free) blocks e }

pub not-given : (blocks : List ℕ) (r : RangeValue) → list_any (contains r.free) blocks ≡ true → MayBeGiven blocks r → ⊥
not-given blocks r e m = not-both _ e (some-free (contains r.free) blocks m.apart)

pub comes-in-use : (m : MarksValue) (t : Bool) → t ≡ false
    → ◌≡◌ {A = RangeValue}
    (record { range_blocks = m.range_blocks; number = m.range; is_used = true; free = from_list (range_numbers m.range_blocks m.range) })
    (put_in_use (record { range_blocks = m.range_blocks; number = m.range; is_used = t; free = m.set }))
comes-in-use m true e = absurd (not-both true refl e)
comes-in-use m false e = refl

-- ---- by the first and the last

last-is : (b : BlockNumber) (rest : List BlockNumber) (last : BlockNumber) → Some last ≡ slice_get (b ∷ rest) (length rest)
    → last.0 ≡ last_of b.0 (numbers rest)
last-is b [] last e = let same : last ≡ b = cc in ap (λ (x : BlockNumber). x.0) same
last-is b (c ∷ rest) last e = last-is c rest last e

same-number : (a b : ℕ) → a ≡ b → nat_eq a b ≡ true
same-number a b e = grind (arith, nat_tests, e)

pub all-by-ends : (size range : ℕ) (blocks : List BlockNumber) (first last : BlockNumber) → 0 < size → IsAscending (numbers blocks)
    → Some first ≡ slice_get blocks 0 → Some last ≡ slice_get blocks (length blocks - 1) → first.0 / size ≡ range
    → (nat_eq (last.0 / size) range ≡ true → AllByRecursion (λ n. n / size ≡ range) (numbers blocks))
    × (AllByRecursion (λ n. n / size ≡ range) (numbers blocks) → nat_eq (last.0 / size) range ≡ true)
all-by-ends size range [] first last some h e f o = absurd cc
all-by-ends size range (b ∷ rest) first last some h e f o =
    let head : first ≡ b = cc in
    let place : length (b ∷ rest) - 1 ≡ length rest = omega arith in
    let end : last.0 ≡ last_of b.0 (numbers rest) = last-is b rest last (f ∙ ap (slice_get (b ∷ rest)) place) in
    let of-first : b.0 / size ≡ range = ap (λ (x : BlockNumber). x.0 / size) (sym head) ∙ o in (
      λ t. all-of-range size range b.0 (numbers rest) some h of-first (ap (λ n. n / size) (sym end) ∙ eqb-true (last.0 / size) range t),
      λ all. same-number (last.0 / size) range (ap (λ n. n / size) end ∙ last-of-range size range b.0 (numbers rest) all),
    )
