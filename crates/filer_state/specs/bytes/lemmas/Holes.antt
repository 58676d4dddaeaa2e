-- The holes that bytes meet: by the stripes, and by the file that is seen.
use Rattle.std.proofs.Common.{◌≡◌, ◌≢◌, ℕ, zero, suc, ◌+◌, ◌-◌, ◌*◌, ◌/◌, ◌<◌, ◌≤◌, ◌==◌, ◌||◌, ◌&&◌, not, Bool, true, false, cond, List, [], ◌∷◌}
use Rattle.std.proofs.Common.{nat_eq, eq-eqb, refl, sym, ap, ◌∙◌, arith, ⊎_elim}
use Rattle.std.specs.Prelude.{if◌then◌else◌}
use Rattle.std.proofs.lemmas.Bool.{cases_eq, eqb-true}
use Rattle.std.proofs.lemmas.Bool.Decides.{nat_tests}
use Rattle.std.specs.List.{range_with_len, filter, list_any}
use Rattle.std.specs.Ordering.{nat_cmp}
use Rattle.std.specs.Cmp.{nat_cmp_total, unsigned_tied}
use Rattle.std.specs.FinMap.{nat_cmp-IsAntisymmetric}
use Rattle.std.specs.FinSet.{FinSet, contains, from_list, contains-insert, contains-retain, contains-from_list_nat}
use Rattle.nfs_model.specs.Server.{block_size}
use Rattle.nfs_model.specs.Serial.Write.{blocks_met, unfilled, with_blocks}
use Rattle.nfs_model.specs.volume.Stripes.{StripeValue, is_filled}
use Rattle.filer_state.specs.state.Tree.{home_stripe, file_filled, most_file_blocks}
use Rattle.filer_state.specs.bytes.Extending.{holes}

-- ---- what passes a test

-- whether a number is listed
abbrev pub is_listed : ℕ → List ℕ → Bool
is_listed q bs = list_any (λ y. nat_eq y q) bs

range-filter : (test other : ℕ → Bool) (a n : ℕ) → ((b : ℕ) → a ≤ b → b < a + n → test b ≡ other b)
    → filter test (range_with_len a n) ≡ filter other (range_with_len a n)
range-filter test other a zero same = refl
range-filter test other a (suc n) same =
    let here = same a (omega arith) (omega arith) in
    let rest = range-filter test other (a + 1) n (λ b from below. same b (omega (arith, from)) (omega (arith, below))) in
    λ j. cond (here j) (a ∷ rest j) (rest j)

-- two tests that agree on the blocks met
met-filter : (test other : ℕ → Bool) (offset n : ℕ)
    → ((b : ℕ) → 0 < n → offset / block_size ≤ b → b ≤ (offset + n - 1) / block_size → test b ≡ other b)
    → filter test (blocks_met offset n) ≡ filter other (blocks_met offset n)
met-filter test other offset n same = by (n == 0) refl
  where
    by : (none : Bool) → (n == 0) ≡ none
        → filter test (if none then [] else range_with_len (offset / block_size) (((offset + n - 1) / block_size + 1) - offset / block_size))
        ≡ filter other (if none then [] else range_with_len (offset / block_size) (((offset + n - 1) / block_size + 1) - offset / block_size))
    by true e = refl
    by false e =
        let some : 0 < n = grind (arith, nat_tests) in
        range-filter test other (offset / block_size) (((offset + n - 1) / block_size + 1) - offset / block_size)
        (λ b from below. same b some from (omega (arith, below)))

-- a number of a range is listed
pub any-below : (b a k : ℕ) → a ≤ b → b < a + k → is_listed b (range_with_len a k) ≡ true
any-below b a zero from less = absurd (omega (arith, from, less))
any-below b a (suc k) from less = by (nat_eq a b) refl (any-below b (a + 1) k)
  where
    by : (t : Bool) → (a == b) ≡ t → (a + 1 ≤ b → b < a + 1 + k → is_listed b (range_with_len (a + 1) k) ≡ true)
        → (t || is_listed b (range_with_len (a + 1) k)) ≡ true
    by true e others = refl
    by false e others = ⊎_elim
        (λ (same : a ≡ b). let t : (a == b) ≡ true = eq-eqb a b same in absurd cc)
        (λ (ne : a ≢ b). others (omega (arith, from, ne)) (omega (arith, less)))
        (cases_eq a b)

-- a block that is met is listed
pub met-listed : (b offset n : ℕ) → 0 < n → offset / block_size ≤ b → b ≤ (offset + n - 1) / block_size → is_listed b (blocks_met offset n) ≡ true
met-listed b offset n some from below = by (n == 0) refl
  where
    by : (none : Bool) → (n == 0) ≡ none
        → is_listed b (if none then [] else range_with_len (offset / block_size) (((offset + n - 1) / block_size + 1) - offset / block_size)) ≡ true
    by true e = let no : n ≡ 0 = eqb-true n 0 e in absurd (omega (arith, no, some))
    by false e = any-below b (offset / block_size) (((offset + n - 1) / block_size + 1) - offset / block_size) from (omega (arith, below, from))

-- listed and passing, or not passing
pub listed-or : (test : ℕ → Bool) (q : ℕ) (bs : List ℕ) → (is_listed q (filter (λ b. not (test b)) bs) || test q) ≡ (is_listed q bs || test q)
listed-or test q [] = refl
listed-or test q (b ∷ bs) = by (test b) refl (nat_eq b q) refl (listed-or test q bs)
  where
    left : (t : Bool) → t ≡ true → (a c : Bool) → (a || t) ≡ (c || t)
    left t e a c = ap (λ (x : Bool). a || x) e ∙ either a ∙ sym (ap (λ (x : Bool). c || x) e ∙ either c)
      where
        either : (x : Bool) → (x || true) ≡ true
        either true = refl
        either false = refl

    by : (t : Bool) → test b ≡ t → (h : Bool) → (b == q) ≡ h
        → (is_listed q (filter (λ c. not (test c)) bs) || test q) ≡ (is_listed q bs || test q)
        → (is_listed q (cond (not t) (b ∷ filter (λ c. not (test c)) bs) (filter (λ c. not (test c)) bs)) || test q) ≡ ((h || is_listed q bs) || test q)
    by true is true e rest =
        left (test q) (ap test (sym (eqb-true b q e)) ∙ is) (is_listed q (filter (λ c. not (test c)) bs)) true
    by true is false e rest = rest
    by false is true e rest = ap (λ (x : Bool). (x || is_listed q (filter (λ c. not (test c)) bs)) || test q) e
    by false is false e rest = ap (λ (x : Bool). (x || is_listed q (filter (λ c. not (test c)) bs)) || test q) e ∙ rest

-- ---- sets

pub contains-blocks : (set : FinSet nat_cmp) (bs : List ℕ) (q : ℕ) → contains (with_blocks set bs) q ≡ (is_listed q bs || contains set q)
contains-blocks set [] q = refl
contains-blocks set (b ∷ bs) q =
    contains-insert nat_cmp_total (with_blocks set bs) b q
    ∙ (λ j. (unsigned_tied q b ∙ turned (q == b) (b == q) (λ e. eq-eqb b q (sym (eqb-true q b e))) (λ e. eq-eqb q b (sym (eqb-true b q e)))) j
    || contains-blocks set bs q j)
    ∙ grouped (b == q) (is_listed q bs) (contains set q)
  where
    turned : (x y : Bool) → (x ≡ true → y ≡ true) → (y ≡ true → x ≡ true) → x ≡ y
    turned true true f g = refl
    turned true false f g = let e = f refl in absurd cc
    turned false true f g = let e = g refl in absurd cc
    turned false false f g = refl

    grouped : (x y z : Bool) → (x || (y || z)) ≡ ((x || y) || z)
    grouped true y z = refl
    grouped false y z = refl

-- a block is seen to be filled where it is there in its stripe, and a file may have it
pub seen-filled-at : (stripes : List StripeValue) (f b : ℕ) → contains (file_filled stripes f) b
    ≡ (contains (from_list {R = nat_cmp} (range_with_len 0 most_file_blocks)) b && is_filled (home_stripe stripes f b) f b)
seen-filled-at stripes f b =
    contains-retain (from_list (range_with_len 0 most_file_blocks)) (λ k. is_filled (home_stripe stripes f k) f k) b
    (λ x same. ap (λ (k : ℕ). is_filled (home_stripe stripes f k) f k) (sym (nat_cmp-IsAntisymmetric b x same)))

-- below the most that a file has
seen-filled : (stripes : List StripeValue) (f b : ℕ) → b < most_file_blocks → contains (file_filled stripes f) b ≡ is_filled (home_stripe stripes f b) f b
seen-filled stripes f b small =
    seen-filled-at stripes f b
    ∙ ap (λ (t : Bool). t && is_filled (home_stripe stripes f b) f b)
    (contains-from_list_nat (range_with_len 0 most_file_blocks) b ∙ any-below b 0 most_file_blocks (omega arith) (omega (arith, small)))

module _ (stripes : List StripeValue) (f offset n : ℕ) (small : offset + n ≤ block_size * most_file_blocks) where
  -- the holes are those that the serial server sees
  pub holes-seen : unfilled (file_filled stripes f) (blocks_met offset n) ≡ holes stripes f offset n
  holes-seen = met-filter (λ b. not (contains (file_filled stripes f) b)) (λ b. not (is_filled (home_stripe stripes f b) f b)) offset n
      (λ b some from below. ap not (seen-filled stripes f b (omega (arith, small, some, below))))

-- ---- holes in order

pub record IsHole (f size : ℕ) (stripes : List StripeValue) (first b : ℕ) : Type 0 where
  pub from : first ≤ b
  pub starts : block_size * b < size
  pub hole : is_filled (home_stripe stripes f b) f b ≡ false

-- rising, below the size, and not filled
abbrev pub AreHoles : ℕ → ℕ → List StripeValue → ℕ → List ℕ → Type 0
AreHoles f size stripes from [] = Unit {0}
AreHoles f size stripes from (b ∷ bs) = IsHole f size stripes from b × AreHoles f size stripes (b + 1) bs

module _ (f size : ℕ) where
  holes-earlier : (stripes : List StripeValue) (first from : ℕ) (bs : List ℕ) → first ≤ from → AreHoles f size stripes from bs
      → AreHoles f size stripes first bs
  holes-earlier stripes first from [] less are = tt
  holes-earlier stripes first from (b ∷ bs) less are =
      (record { from = (let low = are.0.from in omega (arith, less, low)); starts = are.0.starts; hole = are.0.hole }, are.1)

  -- where none from a number on was filled
  pub holes-stay : (old new : List StripeValue) (from : ℕ) (bs : List ℕ)
      → ((c : ℕ) → from ≤ c → is_filled (home_stripe new f c) f c ≡ is_filled (home_stripe old f c) f c)
      → AreHoles f size old from bs → AreHoles f size new from bs
  holes-stay old new from [] same are = tt
  holes-stay old new from (b ∷ bs) same are = (
    record { from = are.0.from; starts = are.0.starts; hole = same b are.0.from ∙ are.0.hole },
    holes-stay old new (b + 1) bs (λ c low. same c (let first = are.0.from in omega (arith, low, first))) are.1,
  )

  range-holes : (stripes : List StripeValue) (a n : ℕ) → ((b : ℕ) → a ≤ b → b < a + n → block_size * b < size)
      → AreHoles f size stripes a (filter (λ b. not (is_filled (home_stripe stripes f b) f b)) (range_with_len a n))
  range-holes stripes a zero starts = tt
  range-holes stripes a (suc n) starts =
      by (is_filled (home_stripe stripes f a) f a) refl
      (range-holes stripes (a + 1) n (λ b from below. starts b (omega (arith, from)) (omega (arith, below))))
    where
      by : (t : Bool) → is_filled (home_stripe stripes f a) f a ≡ t
          → AreHoles f size stripes (a + 1) (filter (λ b. not (is_filled (home_stripe stripes f b) f b)) (range_with_len (a + 1) n))
          → AreHoles f size stripes a (cond (not t) (a ∷ filter (λ b. not (is_filled (home_stripe stripes f b) f b)) (range_with_len (a + 1) n))
          (filter (λ b. not (is_filled (home_stripe stripes f b) f b)) (range_with_len (a + 1) n)))
      by true e rest =
          holes-earlier stripes a (a + 1) (filter (λ b. not (is_filled (home_stripe stripes f b) f b)) (range_with_len (a + 1) n)) (omega arith) rest
      by false e rest = (record { from = omega arith; starts = starts a (omega arith) (omega arith); hole = e }, rest)

  -- those that bytes meet
  pub met-holes : (stripes : List StripeValue) (offset n : ℕ) → offset + n ≤ size → AreHoles f size stripes 0 (holes stripes f offset n)
  met-holes stripes offset n within = by (n == 0) refl
    where
      by : (none : Bool) → (n == 0) ≡ none
          → AreHoles f size stripes 0 (filter (λ b. not (is_filled (home_stripe stripes f b) f b))
          (if none then [] else range_with_len (offset / block_size) (((offset + n - 1) / block_size + 1) - offset / block_size)))
      by true e = tt
      by false e =
          let some : 0 < n = grind (arith, nat_tests) in
          holes-earlier stripes 0 (offset / block_size) (filter (λ b. not (is_filled (home_stripe stripes f b) f b))
          (range_with_len (offset / block_size) (((offset + n - 1) / block_size + 1) - offset / block_size))) (omega arith)
          (range-holes stripes (offset / block_size) (((offset + n - 1) / block_size + 1) - offset / block_size)
          (λ b from below. omega (arith, some, within, from, below)))
