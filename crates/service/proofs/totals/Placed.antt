-- The ranges of a volume in their places, the first of them as they come into use.
use Rattle.std.proofs.Common.{◌≡◌, ℕ, zero, suc, ◌+◌, ◌<◌, ◌≤◌, true, List, [], ◌∷◌, length, Option, Some, None}
use Rattle.std.proofs.Common.{refl, sym, ap, ◌∙◌, arith}
use Rattle.std.specs.Prelude.{slice_get, slice_set, slice_index_or, is_some}
use Rattle.parcels.specs.Filled.{is_filled, vbn_alike}
use Rattle.nfs_model.specs.volume.Ranges.{RangeValue, put_in_use}
use Rattle.filer_state.specs.state.Contents.{each}
use Rattle.filer_state.specs.state.Sets.{FilerRange, FilerVbn, range_value, placed, vbn_set}
use Rattle.filer_state.specs.totals.Growing.{first_in_use}
use Rattle.service.specs.totals.Ranges.{HasRanges, place_in_use, first_places, with_places}

-- the values from a number on, of which the first n come into use
values-first : (f g : ℕ → RangeValue) (from n most : ℕ) → n ≤ most
    → ((k : ℕ) → from ≤ k → k < from + n → g k ≡ put_in_use (f k)) → ((k : ℕ) → from + n ≤ k → k < from + most → g k ≡ f k)
    → each g from most ≡ first_in_use n (each f from most)
values-first f g from zero zero few low high = refl
values-first f g from zero (suc most) few low high =
    λ j. high from (omega arith) (omega arith) j
    ∷ values-first f g (from + 1) zero most (omega arith) (λ k a b. absurd (omega (arith, a, b))) (λ k a b. high k (omega arith) (omega arith)) j
values-first f g from (suc n) zero few low high = absurd (omega arith)
values-first f g from (suc n) (suc most) few low high =
    λ j. low from (omega arith) (omega arith) j
    ∷ values-first f g (from + 1) n most (omega arith) (λ k a b. low k (omega arith) (omega arith)) (λ k a b. high k (omega arith) (omega arith)) j

module _ {P : Type 0} where
  place-filled : (place : Option (FilerRange P)) → is_filled (Some place) ≡ is_filled (Some (place_in_use place))
  place-filled None = refl
  place-filled (Some r) = refl

  place-value : (place : Option (FilerRange P)) → is_some place ≡ true → range_value (place_in_use place) ≡ put_in_use (range_value place)
  place-value None e = absurd cc
  place-value (Some r) e = refl

  first-alike : (n : ℕ) (places : List (Option (FilerRange P))) (k : ℕ) → is_filled (slice_get places k) ≡ is_filled (slice_get (first_places n places) k)
  first-alike zero places k = refl
  first-alike (suc n) [] k = refl
  first-alike (suc n) (p ∷ ps) zero = place-filled p
  first-alike (suc n) (p ∷ ps) (suc k) = first-alike n ps k

  first-long : (n : ℕ) (places : List (Option (FilerRange P))) → length (first_places n places) ≡ length places
  first-long zero places = refl
  first-long (suc n) [] = refl
  first-long (suc n) (p ∷ ps) = ap suc (first-long n ps)

  first-next : (n : ℕ) (places : List (Option (FilerRange P))) (d : Option (FilerRange P)) → n < length places
      → slice_set (first_places n places) n (place_in_use (slice_index_or (first_places n places) n d)) ≡ first_places (suc n) places
  first-next n [] d less = absurd (omega arith)
  first-next zero (p ∷ ps) d less = refl
  first-next (suc n) (p ∷ ps) d less = ap (λ (l : List (Option (FilerRange P))). place_in_use p ∷ l) (first-next n ps d (omega arith))

  first-more : (n : ℕ) (places now : List (Option (FilerRange P))) (d was here : Option (FilerRange P)) → n < length places
      → now ≡ first_places n places → slice_index_or now n d ≡ was → here ≡ place_in_use was → slice_set now n here ≡ first_places (n + 1) places
  first-more n places now d was here less so is changed =
      let one : suc n ≡ n + 1 = omega arith in
      ap (slice_set now n) (changed ∙ ap place_in_use (sym is))
      ∙ ap (λ (l : List (Option (FilerRange P))). slice_set l n (place_in_use (slice_index_or l n d))) so ∙ first-next n places d less
      ∙ ap (λ (m : ℕ). first_places m places) one

  -- of a range from a place on, by its place
  below-first : (n k : ℕ) (places : List (Option (FilerRange P))) → k < n → placed (first_places n places) k ≡ place_in_use (placed places k)
  below-first zero k places less = absurd (omega arith)
  below-first (suc n) k [] less = refl
  below-first (suc n) zero (p ∷ ps) less = refl
  below-first (suc n) (suc k) (p ∷ ps) less = below-first n k ps (omega arith)

  past-first : (n k : ℕ) (places : List (Option (FilerRange P))) → n ≤ k → placed (first_places n places) k ≡ placed places k
  past-first zero k places more = refl
  past-first (suc n) k [] more = refl
  past-first (suc n) zero (p ∷ ps) more = absurd (omega arith)
  past-first (suc n) (suc k) (p ∷ ps) more = past-first n k ps (omega arith)

module _ {P : Type 0} (held now : FilerVbn P) (n : ℕ) (so : now ≡ with_places (first_places n held.ranges.at) held) where
  pub one-more : (d was here : Option (FilerRange P)) → n < length now.ranges.at → slice_index_or now.ranges.at n d ≡ was
      → here ≡ place_in_use was → with_places (slice_set now.ranges.at n here) now ≡ with_places (first_places (n + 1) held.ranges.at) held
  one-more d was here less found changed =
      let long : length now.ranges.at ≡ length held.ranges.at =
      ap (λ (h : FilerVbn P). length h.ranges.at) so ∙ first-long n held.ranges.at in
      let places = first-more n held.ranges.at now.ranges.at d was here (omega (arith, less, long)) (ap (λ (h : FilerVbn P). h.ranges.at) so) found changed in
      λ j. record { own = (so j).own; ranges = record { at = places j } }

  pub all-alike : vbn_alike held now
  all-alike k = first-alike n held.ranges.at k ∙ ap (λ (h : FilerVbn P). is_filled (slice_get h.ranges.at k)) (sym so)

  -- all that were asked for are in use
  pub all-in-use : HasRanges held → (count : ℕ) → n ≡ count → count ≤ 16 → vbn_set now ≡ first_in_use count (vbn_set held)
  all-in-use has count all few =
      ap (λ (h : FilerVbn P). vbn_set h) so
      ∙ values-first (λ r. range_value (placed held.ranges.at r)) (λ r. range_value (placed (first_places n held.ranges.at) r)) 0 count 16 few
      (λ k low high. ap range_value (below-first n k held.ranges.at (omega (arith, high, all)))
      ∙ place-value (placed held.ranges.at k) (has k (omega (arith, high, few))))
      (λ k low high. ap range_value (past-first n k held.ranges.at (omega (arith, low, all))))
