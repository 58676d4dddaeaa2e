-- Blocks that a write meets: those of them that aren't filled, and where they lie.
use Rattle.std.proofs.Common.{◌≡◌, ◌≢◌, ℕ, zero, suc, ◌+◌, ◌-◌, ◌*◌, ◌/◌, ◌%◌, ◌<◌, ◌≤◌, ◌==◌, ◌&&◌, ◌||◌, not, Bool, true, false, List, [], ◌∷◌, length}
use Rattle.std.proofs.Common.{nat_lt, nat_eq, refl, sym, ap, ◌∙◌, arith, inl, inr, ◌⊎◌, ⊎_elim}
use Rattle.std.specs.Prelude.{if◌then◌else◌}
use Rattle.std.proofs.lemmas.Bool.{cases_eq, eqb-true}
use Rattle.std.proofs.lemmas.Bool.Decides.{nat_tests}
use Rattle.std.specs.List.{range_with_len, filter, list_all, list_any}
use Rattle.std.specs.Ordering.{nat_cmp}
use Rattle.std.specs.Cmp.{nat_cmp_total, unsigned_tied}
use Rattle.std.specs.FinMap.{nat_cmp-IsAntisymmetric}
use Rattle.std.specs.FinSet as sets
use Rattle.std.specs.FinSet.{FinSet, contains, insert, contains-insert, contains-from_list_nat, contains-retain, from_list}
use Rattle.nfs_model.specs.Server.{block_size}
use Rattle.nfs_model.specs.Home.{span_bytes}
use Rattle.nfs_model.specs.Serial.Write.{blocks_met, with_blocks}
use Rattle.nfs_model.specs.volume.Stripes.{StripeValue, span_blocks, stripe_of, is_filled}
use Rattle.filer_state.specs.state.Tree.{stripe_at, home_stripe, file_filled, most_file_blocks}
use Rattle.filer_state.specs.state.Calls.{LieIn}

-- ---- tests of the blocks that are met

range-tests : (test other : ℕ → Bool) (a n : ℕ) → ((b : ℕ) → a ≤ b → b < a + n → test b ≡ other b)
    → list_all test (range_with_len a n) ≡ list_all other (range_with_len a n)
range-tests test other a zero same = refl
range-tests test other a (suc n) same = λ j.
    same a (omega arith) (omega arith) j && range-tests test other (a + 1) n (λ b from below. same b (omega (arith, from)) (omega (arith, below))) j

-- two tests agree on the blocks met where they do on those from the first byte's to the last byte's
pub met-tests : (test other : ℕ → Bool) (offset n : ℕ)
    → ((b : ℕ) → 0 < n → offset / block_size ≤ b → b ≤ (offset + n - 1) / block_size → test b ≡ other b)
    → list_all test (blocks_met offset n) ≡ list_all other (blocks_met offset n)
met-tests test other offset n same = by (n == 0) refl
  where
    by : (none : Bool) → (n == 0) ≡ none
        → list_all test (if none then [] else range_with_len (offset / block_size) (((offset + n - 1) / block_size + 1) - offset / block_size))
        ≡ list_all other (if none then [] else range_with_len (offset / block_size) (((offset + n - 1) / block_size + 1) - offset / block_size))
    by true e = refl
    by false e =
        let some : 0 < n = grind (arith, nat_tests) in
        range-tests test other (offset / block_size) (((offset + n - 1) / block_size + 1) - offset / block_size)
        (λ b from below. same b some from (omega (arith, below)))

range-passes : (test : ℕ → Bool) (a n b : ℕ) → list_all test (range_with_len a n) ≡ true → a ≤ b → b < a + n → test b ≡ true
range-passes test a zero b all from below = absurd (omega (arith, from, below))
range-passes test a (suc n) b all from below = by (test a) refl all (range-passes test (a + 1) n b)
  where
    by : (t : Bool) → test a ≡ t → (t && list_all test (range_with_len (a + 1) n)) ≡ true
        → (list_all test (range_with_len (a + 1) n) ≡ true → a + 1 ≤ b → b < a + 1 + n → test b ≡ true) → test b ≡ true
    by false e h others = absurd cc
    by true e h others = ⊎_elim
        (λ (same : b ≡ a). ap test same ∙ e)
        (λ (ne : b ≢ a). others h (omega (arith, from, ne)) (omega (arith, below)))
        (cases_eq b a)

-- where all pass, so does the block of each byte
pub met-passes : (test : ℕ → Bool) (offset n k : ℕ) → list_all test (blocks_met offset n) ≡ true → offset ≤ k → k < offset + n → test (k / block_size) ≡ true
met-passes test offset n k all from below = by (n == 0) refl all
  where
    by : (none : Bool) → (n == 0) ≡ none
        → list_all test (if none then [] else range_with_len (offset / block_size) (((offset + n - 1) / block_size + 1) - offset / block_size)) ≡ true
        → test (k / block_size) ≡ true
    by true e h = let no : n ≡ 0 = eqb-true n 0 e in absurd (omega (arith, no, from, below))
    by false e h = range-passes test (offset / block_size) (((offset + n - 1) / block_size + 1) - offset / block_size) (k / block_size) h
        (omega (arith, from)) (omega (arith, from, below))

-- none is left out exactly when all pass
pub none-left : (test : ℕ → Bool) (blocks : List ℕ) → nat_lt 0 (length (filter (λ b. not (test b)) blocks)) ≡ not (list_all test blocks)
none-left test [] = refl
none-left test (b ∷ blocks) = by (test b) (none-left test blocks)
  where
    by : (t : Bool) → nat_lt 0 (length (filter (λ k. not (test k)) blocks)) ≡ not (list_all test blocks)
        → nat_lt 0 (length (if not t then b ∷ filter (λ k. not (test k)) blocks else filter (λ k. not (test k)) blocks)) ≡ not (t && list_all test blocks)
    by true others = others
    by false others = grind (arith, nat_tests)

-- ---- blocks that are there

insert-there : (set : FinSet nat_cmp) (b : ℕ) → contains set b ≡ true → insert set b ≡ set
insert-there set b there = sets.same_set nat_cmp_total nat_cmp-IsAntisymmetric (insert set b) set (λ q.
    contains-insert nat_cmp_total set b q ∙ ap (λ (t : Bool). t || contains set q) (unsigned_tied q b) ∙ by q (q == b) refl)
  where
    by : (q : ℕ) (t : Bool) → (q == b) ≡ t → (t || contains set q) ≡ contains set q
    by q true e = sym (ap (contains set) (eqb-true q b e) ∙ there)
    by q false e = refl

pub filled-already : (set : FinSet nat_cmp) (blocks : List ℕ) → list_all (contains set) blocks ≡ true → with_blocks set blocks ≡ set
filled-already set [] all = refl
filled-already set (b ∷ blocks) all = by (contains set b) refl all (filled-already set blocks)
  where
    by : (t : Bool) → contains set b ≡ t → (t && list_all (contains set) blocks) ≡ true
        → (list_all (contains set) blocks ≡ true → with_blocks set blocks ≡ set) → with_blocks set (b ∷ blocks) ≡ set
    by true there others rest = ap (λ (x : FinSet nat_cmp). insert x b) (rest others) ∙ insert-there set b there
    by false there others rest = absurd cc

-- ---- where they lie

any-in-range : (n a k : ℕ) → a ≤ n → n < a + k → list_any (λ y. nat_eq y n) (range_with_len a k) ≡ true
any-in-range n a zero from below = absurd (omega (arith, from, below))
any-in-range n a (suc k) from below = by (nat_eq a n) refl (any-in-range n (a + 1) k)
  where
    by : (t : Bool) → (a == n) ≡ t → (a + 1 ≤ n → n < a + 1 + k → list_any (λ y. nat_eq y n) (range_with_len (a + 1) k) ≡ true)
        → (t || list_any (λ y. nat_eq y n) (range_with_len (a + 1) k)) ≡ true
    by true e others = refl
    by false e others =
        let later : a + 1 ≤ n = grind (arith, nat_tests) in
        others later (omega (arith, below))

-- the span of each block that is met is the offset's
one-span : (offset n b : ℕ) → 0 < n → (n ≡ 0) ⊎ (offset / span_bytes ≡ (offset + n - 1) / span_bytes) → offset / block_size ≤ b
    → b ≤ (offset + n - 1) / block_size → b / span_blocks ≡ offset / block_size / span_blocks
one-span offset n b some (inl none) from below = absurd (omega (arith, some, none))
one-span offset n b some (inr one) from below = omega (arith, some, one, from, below)

module _ (stripes : List StripeValue) (i fileid offset n : ℕ) (lies : LieIn (length stripes) i fileid offset n) where
  pub block-home : (b : ℕ) → 0 < n → offset / block_size ≤ b → b ≤ (offset + n - 1) / block_size → stripe_of (length stripes) fileid b ≡ i
  block-home b some from below =
      ap (λ (span : ℕ). (fileid + span) % length stripes) (one-span offset n b some lies.span from below) ∙ lies.stripe

  -- a block that is met is filled where it is there in the stripe
  pub filled-here : offset + n ≤ block_size * most_file_blocks → (b : ℕ) → 0 < n → offset / block_size ≤ b → b ≤ (offset + n - 1) / block_size
      → contains (file_filled stripes fileid) b ≡ is_filled (stripe_at stripes i) fileid b
  filled-here within b some from below =
      contains-retain (from_list (range_with_len 0 most_file_blocks)) (λ k. is_filled (home_stripe stripes fileid k) fileid k) b
      (λ x same. ap (λ (k : ℕ). is_filled (home_stripe stripes fileid k) fileid k) (sym (nat_cmp-IsAntisymmetric b x same)))
      ∙ ap (λ (t : Bool). t && is_filled (home_stripe stripes fileid b) fileid b)
      (contains-from_list_nat (range_with_len 0 most_file_blocks) b ∙ any-in-range b 0 most_file_blocks (omega arith) small)
      ∙ ap (λ (k : ℕ). is_filled (stripe_at stripes k) fileid b) (block-home b some from below)
    where
      small : b < 0 + most_file_blocks
      small = omega (arith, within, some, below)
