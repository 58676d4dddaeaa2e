-- Holes, as they are found and filled.
use Rattle.std.proofs.Common.{◌≡◌, ◌⊎◌, ℕ, zero, suc, ◌+◌, ◌-◌, ◌≤◌, Bool, true, false, cond, not, List, [], ◌∷◌, length, Option}
use Rattle.std.proofs.Common.{Some, None, refl, sym, ap, ◌∙◌, arith, inl, inr, Ordering}
use Rattle.std.specs.Prelude.{◌==◌, ◌/◌, is_some, slice_set, slice_index_or, if◌then◌else◌}
use Rattle.std.specs.declared.cmp.Ordering.TheVariants.{Less, Equal, Greater}
use Rattle.std.specs.Ordering.{is_eq, eq_by_cmp}
use Rattle.std.specs.Option.{option_map}
use Rattle.std.specs.List.{filter, range_with_len}
use Rattle.std.specs.FinMap.{FinMap, get, insert, remove, get-insert, get-remove, same_map}
use Rattle.nfs_model.specs.Server.{block_size}
use Rattle.nfs_model.specs.Serial.Write.{blocks_met}
use Rattle.nfs_model.specs.volume.Maps.{changed_at}
use Rattle.nfs_model.specs.volume.lemmas.Maps.{get-changed_at}
use Rattle.nfs_model.specs.volume.lemmas.Entries.{place_total, place_same}
use Rattle.nfs_model.specs.volume.Stripes.{Block, FileBlock, file_block_cmp, StripeValue, stripe_of, is_filled}
use Rattle.nfs_model.specs.volume.Stripes.{zero_block, block_inserted, block_taken, block_numbered}
use Rattle.filer_state.specs.state.Parcels.{no_stripe}
use Rattle.filer_state.specs.state.Tree.{home_stripe}
use Rattle.filer_state.specs.bytes.Extending.{holes, home_changed, filled_with}
use Rattle.service_data.specs.Holes.{Rise, AreHoles, with_hole, zeroed, renumbered}

-- ---- blocks by their places

by-place : (p k : FileBlock) → (p ≡ k) ⊎ (eq_by_cmp file_block_cmp p k ≡ false)
by-place p k = by (file_block_cmp p k) refl
  where
    by : (r : Ordering) → file_block_cmp p k ≡ r → (p ≡ k) ⊎ (eq_by_cmp file_block_cmp p k ≡ false)
    by Less e = inr (ap is_eq e)
    by Equal e = inl (place_same p k e)
    by Greater e = inr (ap is_eq e)

module _ (m : FinMap file_block_cmp Block) where
  removed-inserted : (k : FileBlock) (x : Block) → get m k ≡ None → remove (insert m k x) k ≡ m
  removed-inserted k x none = same_map place_total place_same _ _ (λ p.
      get-remove place_total (insert m k x) k p ∙ ap (cond (eq_by_cmp file_block_cmp p k) None) (get-insert place_total m k x p)
      ∙ elim (by-place p k) [
        | inl same ↦ gone (eq_by_cmp file_block_cmp p k) p (ap (get m) same ∙ none)
        | inr other ↦ ap (λ t. cond t None (cond t (Some x) (get m p))) other
      ])
    where
      gone : (t : Bool) (p : FileBlock) → get m p ≡ None → cond t None (cond t (Some x) (get m p)) ≡ get m p
      gone true p e = sym e
      gone false p e = refl

  changed-inserted : (g : Block → Block) (k : FileBlock) (x : Block) → changed_at g k (insert m k x) ≡ insert m k (g x)
  changed-inserted g k x = same_map place_total place_same _ _ (λ p.
      get-changed_at place_total g k (insert m k x) p
      ∙ ap (λ o. cond (eq_by_cmp file_block_cmp p k) (option_map g o) o) (get-insert place_total m k x p)
      ∙ by (eq_by_cmp file_block_cmp p k) (get m p) ∙ sym (get-insert place_total m k (g x) p))
    where
      by : (t : Bool) (o : Option Block) → cond t (option_map g (cond t (Some x) o)) (cond t (Some x) o) ≡ cond t (Some (g x)) o
      by true o = refl
      by false o = refl

  changed-past : (g : Block → Block) (k q : FileBlock) (x : Block) → (k ≡ q → ⊥) → changed_at g k (insert m q x) ≡ insert (changed_at g k m) q x
  changed-past g k q x apart = same_map place_total place_same _ _ (λ p.
      get-changed_at place_total g k (insert m q x) p
      ∙ ap (λ o. cond (eq_by_cmp file_block_cmp p k) (option_map g o) o) (get-insert place_total m q x p)
      ∙ elim (by-place p k) [
        | inl same ↦ elim (by-place p q) [
          | inl here ↦ absurd (apart (sym same ∙ here))
          | inr other ↦ off (eq_by_cmp file_block_cmp p k) (eq_by_cmp file_block_cmp p q) (get m p) other
        ]
        | inr other ↦ on (eq_by_cmp file_block_cmp p k) (eq_by_cmp file_block_cmp p q) (get m p) other
      ]
      ∙ sym (get-insert place_total (changed_at g k m) q x p
      ∙ ap (cond (eq_by_cmp file_block_cmp p q) (Some x)) (get-changed_at place_total g k m p)))
    where
      off : (t u : Bool) (o : Option Block) → u ≡ false
          → cond t (option_map g (cond u (Some x) o)) (cond u (Some x) o) ≡ cond u (Some x) (cond t (option_map g o) o)
      off t true o e = absurd cc
      off t false o e = refl

      on : (t u : Bool) (o : Option Block) → t ≡ false
          → cond t (option_map g (cond u (Some x) o)) (cond u (Some x) o) ≡ cond u (Some x) (cond t (option_map g o) o)
      on true u o e = absurd cc
      on false u o e = refl

-- ---- a stripe

module _ (fileid b : ℕ) where
  -- a block of zeros put into a hole and taken again
  pub zero-taken : (s : StripeValue) → is_filled s fileid b ≡ false → block_taken fileid b (block_inserted fileid b 0 s) ≡ s
  zero-taken s hole = λ j. record s { blocks = removed-inserted s.blocks (fileid, b) (zero_block 0) (none (get s.blocks (fileid, b)) hole) j }
    where
      none : (o : Option Block) → is_some o ≡ false → o ≡ None
      none None e = refl
      none (Some x) e = absurd cc

  -- a block of zeros under another number
  zero-numbered : (n m : ℕ) (s : StripeValue) → block_numbered fileid b n (block_inserted fileid b m s) ≡ block_inserted fileid b n s
  zero-numbered n m s = λ j. record s {
    blocks = changed-inserted s.blocks (λ (x : Block). record x { number = n }) (fileid, b) (zero_block m) j;
  }

  -- another block
  other-numbered : (n c m : ℕ) → (b ≡ c → ⊥) → (s : StripeValue)
      → block_numbered fileid b n (block_inserted fileid c m s) ≡ block_inserted fileid c m (block_numbered fileid b n s)
  other-numbered n c m apart s = λ j. record s {
    blocks =
        changed-past s.blocks (λ (x : Block). record x { number = n }) (fileid, b) (fileid, c) (zero_block m) (λ e. apart (ap (λ (p : FileBlock). p.1) e)) j;
  }

  other-filled : (n c : ℕ) → (c ≡ b → ⊥) → (s : StripeValue) → is_filled (block_inserted fileid b n s) fileid c ≡ is_filled s fileid c
  other-filled n c apart s = elim (by-place (fileid, c) (fileid, b)) [
    | inl same ↦ absurd (apart (ap (λ (p : FileBlock). p.1) same))
    | inr other ↦ ap is_some (get-insert place_total s.blocks (fileid, b) (zero_block n) (fileid, c)
        ∙ ap (λ t. cond t (Some (zero_block n)) (get s.blocks (fileid, c))) other)
  ]

-- ---- a list of stripes

abbrev changed : ℕ → (StripeValue → StripeValue) → List StripeValue → List StripeValue
changed i g xs = slice_set xs i (g (slice_index_or xs i no_stripe))

changed-long : (i : ℕ) (y : StripeValue) (xs : List StripeValue) → length (slice_set xs i y) ≡ length xs
changed-long i y [] = refl
changed-long zero y (x ∷ xs) = refl
changed-long (suc i) y (x ∷ xs) = ap suc (changed-long i y xs)

changed-swap : (g h : StripeValue → StripeValue) → ((s : StripeValue) → g (h s) ≡ h (g s)) → (xs : List StripeValue) (i j : ℕ)
    → changed i g (changed j h xs) ≡ changed j h (changed i g xs)
changed-swap g h same [] i j = refl
changed-swap g h same (x ∷ xs) zero zero = ap (λ (s : StripeValue). s ∷ xs) (same x)
changed-swap g h same (x ∷ xs) zero (suc j) = refl
changed-swap g h same (x ∷ xs) (suc i) zero = refl
changed-swap g h same (x ∷ xs) (suc i) (suc j) = ap (λ (l : List StripeValue). x ∷ l) (changed-swap g h same xs i j)

changed-twice : (g h k : StripeValue → StripeValue) → ((s : StripeValue) → g (h s) ≡ k s) → (xs : List StripeValue) (i : ℕ)
    → changed i g (changed i h xs) ≡ changed i k xs
changed-twice g h k same [] i = refl
changed-twice g h k same (x ∷ xs) zero = ap (λ (s : StripeValue). s ∷ xs) (same x)
changed-twice g h k same (x ∷ xs) (suc i) = ap (λ (l : List StripeValue). x ∷ l) (changed-twice g h k same xs i)

changed-tests : (test : StripeValue → Bool) (g : StripeValue → StripeValue) → ((s : StripeValue) → test (g s) ≡ test s) → (xs : List StripeValue) (i j : ℕ)
    → test (slice_index_or (changed i g xs) j no_stripe) ≡ test (slice_index_or xs j no_stripe)
changed-tests test g same [] i j = refl
changed-tests test g same (x ∷ xs) zero zero = same x
changed-tests test g same (x ∷ xs) zero (suc j) = refl
changed-tests test g same (x ∷ xs) (suc i) zero = refl
changed-tests test g same (x ∷ xs) (suc i) (suc j) = changed-tests test g same xs i j

module _ (fileid : ℕ) where
  home-long : (b : ℕ) (g : StripeValue → StripeValue) (xs : List StripeValue) → length (home_changed fileid b g xs) ≡ length xs
  home-long b g xs = changed-long _ _ xs

  home-swap : (b c : ℕ) (g h : StripeValue → StripeValue) → ((s : StripeValue) → g (h s) ≡ h (g s)) → (xs : List StripeValue)
      → home_changed fileid b g (home_changed fileid c h xs) ≡ home_changed fileid c h (home_changed fileid b g xs)
  home-swap b c g h same xs =
      ap (λ (m : ℕ). changed (stripe_of m fileid b) g (home_changed fileid c h xs)) (home-long c h xs)
      ∙ changed-swap g h same xs (stripe_of (length xs) fileid b) (stripe_of (length xs) fileid c)
      ∙ ap (λ (m : ℕ). changed (stripe_of m fileid c) h (home_changed fileid b g xs)) (sym (home-long b g xs))

  home-twice : (b : ℕ) (g h k : StripeValue → StripeValue) → ((s : StripeValue) → g (h s) ≡ k s) → (xs : List StripeValue)
      → home_changed fileid b g (home_changed fileid b h xs) ≡ home_changed fileid b k xs
  home-twice b g h k same xs =
      ap (λ (m : ℕ). changed (stripe_of m fileid b) g (home_changed fileid b h xs)) (home-long b h xs)
      ∙ changed-twice g h k same xs (stripe_of (length xs) fileid b)

  home-tests : (test : StripeValue → Bool) (b c : ℕ) (g : StripeValue → StripeValue) → ((s : StripeValue) → test (g s) ≡ test s) → (xs : List StripeValue)
      → test (home_stripe (home_changed fileid b g xs) fileid c) ≡ test (home_stripe xs fileid c)
  home-tests test b c g same xs =
      ap (λ (m : ℕ). test (slice_index_or (home_changed fileid b g xs) (stripe_of m fileid c) no_stripe)) (home-long b g xs)
      ∙ changed-tests test g same xs (stripe_of (length xs) fileid b) (stripe_of (length xs) fileid c)

  -- ---- holes

  pub rise-lower : (low high : ℕ) (bs : List ℕ) → low ≤ high → Rise high bs → Rise low bs
  rise-lower low high [] le rise = tt
  rise-lower low high (b ∷ bs) le rise = (let on = rise.0 in omega (arith, on, le), rise.1)

  -- what rises from past a block is still a hole after it is filled
  pub holes-kept : (b : ℕ) (bs : List ℕ) (xs : List StripeValue) → Rise (b + 1) bs → AreHoles fileid xs bs
      → AreHoles fileid (home_changed fileid b (block_inserted fileid b 0) xs) bs
  holes-kept b [] xs rise are = tt
  holes-kept b (c ∷ cs) xs rise are = (
    home-tests (λ s. is_filled s fileid c) b c (block_inserted fileid b 0)
        (λ s. other-filled fileid b 0 c (λ e. let on = rise.0 in omega (arith, on, e)) s) xs ∙ are.0,
    holes-kept b cs xs (rise-lower (b + 1) (c + 1) cs (let on = rise.0 in omega (arith, on)) rise.1) are.1,
  )

  numbered-past : (b n : ℕ) (bs : List ℕ) (xs : List StripeValue) → Rise (b + 1) bs
      → home_changed fileid b (block_numbered fileid b n) (zeroed fileid bs xs) ≡ zeroed fileid bs (home_changed fileid b (block_numbered fileid b n) xs)
  numbered-past b n [] xs rise = refl
  numbered-past b n (c ∷ cs) xs rise =
      numbered-past b n cs (home_changed fileid c (block_inserted fileid c 0) xs)
      (rise-lower (b + 1) (c + 1) cs (let on = rise.0 in omega (arith, on)) rise.1)
      ∙ ap (zeroed fileid cs) (home-swap b c (block_numbered fileid b n) (block_inserted fileid c 0)
      (other-numbered fileid b n c 0 (λ e. let on = rise.0 in omega (arith, on, e))) xs)

  -- blocks of zeros under numbers of their own
  pub numbered-filled : (low : ℕ) (bs ns : List ℕ) (xs : List StripeValue) → Rise low bs → length ns ≡ length bs
      → renumbered fileid bs ns (zeroed fileid bs xs) ≡ filled_with fileid bs ns xs
  numbered-filled low [] ns xs rise many = refl
  numbered-filled low (b ∷ bs) [] xs rise many = absurd (omega (arith, many))
  numbered-filled low (b ∷ bs) (n ∷ ns) xs rise many =
      ap (renumbered fileid bs ns) (numbered-past b n bs (home_changed fileid b (block_inserted fileid b 0) xs) rise.1
      ∙ ap (zeroed fileid bs) (home-twice b (block_numbered fileid b n) (block_inserted fileid b 0) (block_inserted fileid b n)
      (zero-numbered fileid b n 0) xs))
      ∙ numbered-filled (b + 1) bs ns (home_changed fileid b (block_inserted fileid b n) xs) rise.1 (omega (arith, many))

  -- ---- the holes that a write meets

  rise-filter : (test : ℕ → Bool) (a n low : ℕ) → low ≤ a → Rise low (filter test (range_with_len a n))
  rise-filter test a zero low le = tt
  rise-filter test a (suc n) low le = by (test a) (rise-filter test (a + 1) n (a + 1) (omega arith)) (rise-filter test (a + 1) n low (omega (arith, le)))
    where
      by : (t : Bool) → Rise (a + 1) (filter test (range_with_len (a + 1) n)) → Rise low (filter test (range_with_len (a + 1) n))
          → Rise low (if t then a ∷ filter test (range_with_len (a + 1) n) else filter test (range_with_len (a + 1) n))
      by true past on = (le, past)
      by false past on = on

  filter-holes : (xs : List StripeValue) (bs : List ℕ) → AreHoles fileid xs (filter (λ b. not (is_filled (home_stripe xs fileid b) fileid b)) bs)
  filter-holes xs [] = tt
  filter-holes xs (b ∷ bs) = by (is_filled (home_stripe xs fileid b) fileid b) refl (filter-holes xs bs)
    where
      by : (t : Bool) → is_filled (home_stripe xs fileid b) fileid b ≡ t
          → AreHoles fileid xs (filter (λ b. not (is_filled (home_stripe xs fileid b) fileid b)) bs)
          → AreHoles fileid xs (if not t then b ∷ filter (λ b. not (is_filled (home_stripe xs fileid b) fileid b)) bs
          else filter (λ b. not (is_filled (home_stripe xs fileid b) fileid b)) bs)
      by true e rest = rest
      by false e rest = (e, rest)

  module _ (xs : List StripeValue) (offset n : ℕ) where
    pub holes-are : AreHoles fileid xs (holes xs fileid offset n)
    holes-are = filter-holes xs (blocks_met offset n)

    pub holes-rise : Rise 0 (holes xs fileid offset n)
    holes-rise = by (n == 0)
      where
        by : (t : Bool) → Rise 0 (filter (λ b. not (is_filled (home_stripe xs fileid b) fileid b))
            (if t then [] else range_with_len (offset / block_size) (((offset + n - 1) / block_size + 1) - offset / block_size)))
        by true = tt
        by false = rise-filter (λ b. not (is_filled (home_stripe xs fileid b) fileid b)) (offset / block_size) _ 0 (omega arith)

-- as the search goes on
found-more : (filled : ℕ → Bool) (a k : ℕ)
    → filter (λ b. not (filled b)) (range_with_len a (k + 1)) ≡ with_hole (filled (a + k)) (a + k) (filter (λ b. not (filled b)) (range_with_len a k))
found-more filled a zero = let here : a ≡ a + 0 = omega arith in ap (λ (b : ℕ). if not (filled b) then b ∷ [] else []) here ∙ by (filled (a + 0))
  where
    by : (t : Bool) → (if not t then (a + 0) ∷ [] else []) ≡ with_hole t (a + 0) []
    by true = refl
    by false = refl
found-more filled a (suc k) =
    let more : suc k + 1 ≡ suc (k + 1) = omega arith in
    let at : a + 1 + k ≡ a + suc k = omega arith in
    ap (λ (m : ℕ). filter (λ b. not (filled b)) (range_with_len a m)) more
    ∙ ap (λ (l : List ℕ). if not (filled a) then a ∷ l else l) (found-more filled (a + 1) k
    ∙ ap (λ (b : ℕ). with_hole (filled b) b (filter (λ b. not (filled b)) (range_with_len (a + 1) k))) at)
    ∙ by (filled a) (filled (a + suc k)) (a + suc k) (filter (λ b. not (filled b)) (range_with_len (a + 1) k))
  where
    by : (t u : Bool) (b : ℕ) (l : List ℕ)
        → (if not t then a ∷ with_hole u b l else with_hole u b l) ≡ with_hole u b (if not t then a ∷ l else l)
    by true true b l = refl
    by true false b l = refl
    by false true b l = refl
    by false false b l = refl

pub found-next : (filled : ℕ → Bool) (first block : ℕ) (is : Bool) → first ≤ block → (before after : List ℕ)
    → before ≡ filter (λ b. not (filled b)) (range_with_len first (block - first)) → is ≡ filled block → after ≡ with_hole is block before
    → after ≡ filter (λ b. not (filled b)) (range_with_len first (block + 1 - first))
found-next filled first block is from before after so same next =
    let at : first + (block - first) ≡ block = omega (arith, from) in
    let more : block - first + 1 ≡ block + 1 - first = omega (arith, from) in
    next ∙ (λ j. with_hole (same j) block (so j))
    ∙ ap (λ (b : ℕ). with_hole (filled b) b (filter (λ b. not (filled b)) (range_with_len first (block - first)))) (sym at)
    ∙ sym (found-more filled first (block - first)) ∙ ap (λ (m : ℕ). filter (λ b. not (filled b)) (range_with_len first m)) more
