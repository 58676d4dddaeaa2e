-- Block numbers that leave the ranges of a volume.
use Rattle.std.proofs.Common.{◌≡◌, ◌≢◌, ℕ, zero, suc, ◌<◌, Bool, true, false, List, [], ◌∷◌, length, take, min, Option, Some, None, IfSome, IfNone}
use Rattle.std.proofs.Common.{refl, sym, ap, subst, ◌∙◌, ◌+◌, ◌≤◌, arith, inl, inr}
use Rattle.std.proofs.lemmas.Bool.{cases_lt}
use Rattle.std.specs.Prelude.{slice_get, slice_set, slice_index_or, ◌*◌, if◌then◌else◌}
use Rattle.std.specs.Ordering.{nat_cmp}
use Rattle.std.specs.List.{filter, range_with_len}
use Rattle.std.specs.Option.{option_map}
use Rattle.std.specs.FinSet as sets
use Rattle.std.specs.FinSet.{FinSet, contains}
use Rattle.nfs_model.specs.Moves.{in_range}
use Rattle.nfs_values.specs.declared.number.BlockNumber.{BlockNumber}
use Rattle.parcels.specs.Filled.{is_filled, AreFilledAlike}
use Rattle.nfs_model.specs.volume.Ranges.{RangeValue, free_numbers, lowest, taken}
use Rattle.vbn_ranges.specs.Batch.{numbers, first_of}
use Rattle.filer_state.specs.state.Contents.{each}
use Rattle.filer_state.specs.state.Parcels.{no_range}
use Rattle.filer_state.specs.state.Sets.{FilerRange, FilerVbn, range_value, placed, vbn_set}
use Rattle.filer_state.specs.laws.lemmas.Each.{each-set, each-index, each-length}
use Rattle.service_data.specs.Parts.{range_changed, LeavesFree, NoneFree}

-- ---- the lowest of a range

first-is : (blocks : List BlockNumber) → option_map (λ (b : BlockNumber). b.0) (slice_get blocks 0) ≡ first_of (numbers blocks)
first-is [] = refl
first-is (b ∷ blocks) = refl

filter-head : (test : ℕ → Bool) (l : List ℕ) (x : ℕ) (xs : List ℕ) → filter test l ≡ x ∷ xs → test x ≡ true
filter-head test [] x xs e = absurd cc
filter-head test (y ∷ ys) x xs e = by (test y) refl e (filter-head test ys x xs)
  where
    by : (t : Bool) → test y ≡ t → (if t then y ∷ filter test ys else filter test ys) ≡ x ∷ xs → (filter test ys ≡ x ∷ xs → test x ≡ true) → test x ≡ true
    by true h e rest = let same : y ≡ x = cc in ap test (sym same) ∙ h
    by false h e rest = rest e

pub free-head : (size number : ℕ) (free : FinSet nat_cmp) (x : ℕ) (xs : List ℕ) → in_range size number free ≡ x ∷ xs → contains free x ≡ true
unfolding in_range
free-head size number free x xs e = filter-head (contains free) (range_with_len (size * number) size) x xs e

module _ (r : RangeValue) (new : RangeValue) (blocks : List BlockNumber) (batch : numbers blocks ≡ lowest 1 r) (some : length (free_numbers r) ≡ 0 → ⊥)
    (left : new ≡ taken (lowest 1 r) r) where
  lowest-is : (o : Option BlockNumber) → o ≡ slice_get blocks 0 → (l : List ℕ) → free_numbers r ≡ l
      → IfSome o (λ n. (contains r.free n.0 ≡ true) × (new ≡ taken (n.0 ∷ []) r)) × IfNone o ⊥
  lowest-is o is [] free = absurd (some (ap (λ (l : List ℕ). length l) free))
  lowest-is o is (x ∷ xs) free = by o (ap (option_map (λ (b : BlockNumber). b.0)) is ∙ first-is blocks ∙ ap first_of (batch ∙ low))
    where
      low : lowest 1 r ≡ x ∷ []
      low = ap (take (min 1 64)) free

      by : (o : Option BlockNumber) → option_map (λ (b : BlockNumber). b.0) o ≡ Some x
          → IfSome o (λ n. (contains r.free n.0 ≡ true) × (new ≡ taken (n.0 ∷ []) r)) × IfNone o ⊥
      by None e = absurd cc
      by (Some n) e =
          let same : n.0 ≡ x = cc in
          let there : contains r.free n.0 ≡ true = ap (contains r.free) same ∙ free-head r.range_blocks r.number r.free x xs free in
          ((there, left ∙ ap (λ (l : List ℕ). taken l r) (low ∙ ap (λ (m : ℕ). m ∷ []) (sym same))), tt)

  module _ (o : Option BlockNumber) (is : o ≡ slice_get blocks 0) where
    pub lowest-there : IfSome o (λ n. contains r.free n.0 ≡ true)
    lowest-there = by o (lowest-is o is (free_numbers r) refl)
      where
        by : (o : Option BlockNumber) → IfSome o (λ n. (contains r.free n.0 ≡ true) × (new ≡ taken (n.0 ∷ []) r)) × IfNone o ⊥
            → IfSome o (λ n. contains r.free n.0 ≡ true)
        by None h = tt
        by (Some n) h = h.0.0

    pub lowest-left : IfSome o (λ n. new ≡ taken (n.0 ∷ []) r)
    lowest-left = by o (lowest-is o is (free_numbers r) refl)
      where
        by : (o : Option BlockNumber) → IfSome o (λ n. (contains r.free n.0 ≡ true) × (new ≡ taken (n.0 ∷ []) r)) × IfNone o ⊥
            → IfSome o (λ n. new ≡ taken (n.0 ∷ []) r)
        by None h = tt
        by (Some n) h = h.0.1

    pub lowest-some : (Q : Type 0) → IfNone o Q
    lowest-some Q = by o (lowest-is o is (free_numbers r) refl)
      where
        by : (o : Option BlockNumber) → IfSome o (λ n. (contains r.free n.0 ≡ true) × (new ≡ taken (n.0 ∷ []) r)) × IfNone o ⊥ → IfNone o Q
        by None h = absurd h.1
        by (Some n) h = tt

-- ---- a place among others

module _ {A : Type 0} where
  pub at-found : (xs : List (Option A)) (i : ℕ) (d : Option A) → i < length xs → slice_index_or xs i d ≡ placed xs i
  at-found [] i d less = absurd (omega arith)
  at-found (x ∷ xs) zero d less = refl
  at-found (x ∷ xs) (suc i) d less = at-found xs i d (omega arith)

  at-set : (xs : List (Option A)) (i : ℕ) (here : Option A) → i < length xs → placed (slice_set xs i here) i ≡ here
  at-set [] i here less = absurd (omega arith)
  at-set (x ∷ xs) zero here less = refl
  at-set (x ∷ xs) (suc i) here less = at-set xs i here (omega arith)

  at-other : (xs : List (Option A)) (i k : ℕ) (here : Option A) → k ≢ i → placed (slice_set xs i here) k ≡ placed xs k
  at-other [] i k here ne = refl
  at-other (x ∷ xs) zero zero here ne = absurd (ne refl)
  at-other (x ∷ xs) zero (suc k) here ne = refl
  at-other (x ∷ xs) (suc i) zero here ne = refl
  at-other (x ∷ xs) (suc i) (suc k) here ne = at-other xs i k here (λ e. ne (ap suc e))

  set-alike : (xs : List (Option A)) (i : ℕ) (d here : Option A) → i < length xs → is_filled (Some (slice_index_or xs i d)) ≡ is_filled (Some here)
      → AreFilledAlike xs (slice_set xs i here)
  set-alike [] i d here less same k = refl
  set-alike (x ∷ xs) zero d here less same zero = same
  set-alike (x ∷ xs) zero d here less same (suc k) = refl
  set-alike (x ∷ xs) (suc i) d here less same zero = refl
  set-alike (x ∷ xs) (suc i) d here less same (suc k) = set-alike xs i d here (omega arith) same k

  at-same : (xs : List (Option A)) (i : ℕ) (d here : Option A) → i < length xs → here ≡ slice_index_or xs i d → slice_set xs i here ≡ xs
  at-same [] i d here less e = absurd (omega arith)
  at-same (x ∷ xs) zero d here less e = ap (λ (y : Option A). y ∷ xs) e
  at-same (x ∷ xs) (suc i) d here less e = ap (λ (l : List (Option A)). x ∷ l) (at-same xs i d here (omega arith) e)

-- ---- the ranges of a volume

module _ {P : Type 0} (held : FilerVbn P) (long : length held.ranges.at ≡ 16) where
  abbrev in_place : ℕ → RangeValue
  in_place k = range_value (placed held.ranges.at k)

  module _ (i : ℕ) (below : i < 16) (d was here : Option (FilerRange P)) (found : slice_index_or held.ranges.at i d ≡ was) where
    was-is : in_place i ≡ range_value was
    was-is = ap range_value (sym (at-found held.ranges.at i d (omega (arith, below, long))) ∙ found)

    leaves-range : (n : ℕ) → contains (range_value was).free n ≡ true → range_value here ≡ taken (n ∷ []) (range_value was)
        → LeavesFree n (vbn_set held) (vbn_set (record held { ranges = record held.ranges { at = slice_set held.ranges.at i here } }))
    leaves-range n there left = record {
      range = i;
      within = let many = each-length in_place 0 16 in omega (arith, below, many);
      there = ap (λ (r : RangeValue). contains r.free n) (each-index in_place no_range 16 i below ∙ was-is) ∙ there;
      left = each-set in_place (λ k. range_value (placed (slice_set held.ranges.at i here) k)) 16 i below
          (λ k less ne. ap range_value (at-other held.ranges.at i k here ne))
          ∙ ap (slice_set (each in_place 0 16) i) (ap range_value (at-set held.ranges.at i here (omega (arith, below, long))) ∙ left
          ∙ ap (taken (n ∷ [])) (sym (each-index in_place no_range 16 i below ∙ was-is)));
    }

    alike-range : (change : RangeValue → RangeValue) → here ≡ range_changed change was → AreFilledAlike held.ranges.at (slice_set held.ranges.at i here)
    alike-range change changed = set-alike held.ranges.at i d here (omega (arith, below, long))
        (ap (λ (o : Option (FilerRange P)). is_filled (Some o)) found ∙ filled was
        ∙ ap (λ (o : Option (FilerRange P)). is_filled (Some o)) (sym changed))
      where
        filled : (o : Option (FilerRange P)) → is_filled (Some o) ≡ is_filled (Some (range_changed change o))
        filled None = refl
        filled (Some h) = refl

    -- one range more that has no free number
    none-more : ((k : ℕ) → k < i → (in_place k).free ≡ sets.empty) → (range_value was).free ≡ sets.empty
        → (k : ℕ) → k < i + 1 → (in_place k).free ≡ sets.empty
    none-more others none k less = elim (cases_lt k i) [
      | inl before ↦ others k before
      | inr on ↦ let same : k ≡ i = omega (arith, on, less) in
          ap (λ (m : ℕ). (in_place m).free) same ∙ ap (λ (r : RangeValue). r.free) was-is ∙ none
    ]

pub all-none : {P : Type 0} (held : FilerVbn P) (i : ℕ) → 16 ≤ i → ((k : ℕ) → k < i → (range_value (placed held.ranges.at k)).free ≡ sets.empty)
    → NoneFree (vbn_set held)
all-none held i all others k less =
    let many = each-length (λ m. range_value (placed held.ranges.at m)) 0 16 in
    let below : k < 16 = omega (arith, less, many) in
    ap (λ (r : RangeValue). r.free) (each-index (λ m. range_value (placed held.ranges.at m)) no_range 16 k below) ∙ others k (omega (arith, all, below))

module _ {P : Type 0} (old now : FilerVbn P) (same : now ≡ old) (long : length now.ranges.at ≡ 16) (i : ℕ) (below : i < 16)
    (d was here : Option (FilerRange P)) (found : slice_index_or now.ranges.at i d ≡ was) where
  pub step-leaves : (n : ℕ) → contains (range_value was).free n ≡ true → range_value here ≡ taken (n ∷ []) (range_value was)
      → LeavesFree n (vbn_set old) (vbn_set (record now { ranges = record now.ranges { at = slice_set now.ranges.at i here } }))
  step-leaves n there left =
      subst (λ (h : FilerVbn P). LeavesFree n (vbn_set h) (vbn_set (record now { ranges = record now.ranges { at = slice_set now.ranges.at i here } }))) same
      (leaves-range now long i below d was here found n there left)

  pub step-alike : (change : RangeValue → RangeValue) → here ≡ range_changed change was → AreFilledAlike old.ranges.at (slice_set now.ranges.at i here)
  step-alike change changed =
      subst (λ (h : FilerVbn P). AreFilledAlike h.ranges.at (slice_set now.ranges.at i here)) same
      (alike-range now long i below d was here found change changed)

  pub step-none : here ≡ was → ((k : ℕ) → k < i → (range_value (placed old.ranges.at k)).free ≡ sets.empty) → (range_value was).free ≡ sets.empty
      → ((record now { ranges = record now.ranges { at = slice_set now.ranges.at i here } }) ≡ old)
      × ((k : ℕ) → k < i + 1 → (range_value (placed old.ranges.at k)).free ≡ sets.empty)
  step-none kept others none = (
    (λ j. record {
      own = (same j).own;
      ranges = record { at = (at-same now.ranges.at i d here (omega (arith, below, long)) (kept ∙ sym found) ∙ ap (λ (h : FilerVbn P). h.ranges.at) same) j };
    }),
    subst (λ (h : FilerVbn P). (k : ℕ) → k < i + 1 → (range_value (placed h.ranges.at k)).free ≡ sets.empty) same
        (none-more now long i below d was here found
        (subst (λ (h : FilerVbn P). (k : ℕ) → k < i → (range_value (placed h.ranges.at k)).free ≡ sets.empty) (sym same) others) none),
  )
