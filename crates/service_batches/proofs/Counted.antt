-- The counts that are gathered range by range are those of a survey.
use Rattle.std.proofs.Common.{◌≡◌, ℕ, zero, suc, ◌+◌, ◌*◌, ◌<◌, ◌≤◌, Bool, true, false, nat_lt}
use Rattle.std.proofs.Common.{min, List, ◌∷◌, length, map, Some, None, refl, sym, ap, ◌∙◌, arith}
use Rattle.std.proofs.lemmas.Bool.Decides.{nat_tests}
use Rattle.std.proofs.lemmas.List.FromFn.{map-range_with_len_more}
use Rattle.std.specs.Prelude.{if◌then◌else◌}
use Rattle.std.specs.FinSet.{contains}
use Rattle.std.specs.List.{filter, range_with_len}
use Rattle.nfs_model.specs.Moves.{in_range}
use Rattle.nfs_model.specs.Parts.{most_ranges}
use Rattle.nfs_model.specs.volume.Ranges.{RangeValue, free_numbers}
use Rattle.filer_state.specs.state.Contents.{VolumeContents, each}
use Rattle.filer_state.specs.state.Parcels.{no_range}
use Rattle.filer_state.specs.state.Partition.{free_in}
use Rattle.filer_state.specs.state.Tree.{ranges_used}
use Rattle.filer_state.specs.state.WellFormed.{WellFormed, range_at}
use Rattle.filer_state.specs.laws.lemmas.Culling.{counts_by, free_counts}
use Rattle.filer_state.specs.laws.lemmas.Each.{each-index}
use Rattle.filer_state.specs.laws.lemmas.Fetching.{in-range-at}
use Rattle.filer_state.specs.laws.lemmas.Limits.{ranges-fit}
use Rattle.service_batches.specs.Counts.{count_shown, with_count, counts_shown}

module _ (p : VolumeContents) (well : WellFormed p) (range : ℕ → RangeValue) (these : p.ranges ≡ each range 0 most_ranges) where
  abbrev used : ℕ
  used = ranges_used p.ranges

  abbrev blocks : ℕ
  blocks = p.logical.dead.range_blocks

  abbrev free_count : ℕ → ℕ
  free_count r = length (in_range blocks r (free_in p.ranges))

  abbrev counts_to : ℕ → List ℕ
  counts_to n = map free_count (range_with_len 0 n)

  range-is : (r : ℕ) → r < most_ranges → range r ≡ range_at p.ranges r
  range-is r less = sym (ap (λ (ranges : List RangeValue). range_at ranges r) these ∙ each-index range no_range 16 r less)

  -- what a range shows
  shown-is : (r : ℕ) → r < most_ranges → count_shown (range r) ≡ (if nat_lt r used then Some (free_count r) else None)
  shown-is r less =
      let on : r < length p.ranges = (let size = well.sixteen in omega (arith, size, less)) in
      let fits = well.ranges r on in
      let mine : length (free_numbers (range_at p.ranges r)) ≡ free_count r =
      (λ j. length (in_range (fits.blocks j) (fits.number j) (range_at p.ranges r).free)) ∙ ap (λ (l : List ℕ). length l) (sym (in-range-at p well r on)) in
      ap count_shown (range-is r less) ∙ (λ j. if fits.in_use j then Some (mine j) else None)

  -- those of the first n ranges
  counts-are : (n : ℕ) → n ≤ most_ranges → counts_shown range n ≡ counts_to (min n used)
  counts-are zero most = let none : 0 ≡ min 0 used = grind (arith, nat_tests) in ap counts_to none
  counts-are (suc n) most = by (nat_lt n used) refl (counts-are n (omega (arith, most)))
    where
      by : (b : Bool) → nat_lt n used ≡ b → counts_shown range n ≡ counts_to (min n used) → counts_shown range (suc n) ≡ counts_to (min (suc n) used)
      by true e before-it =
          let before : min n used ≡ n = grind (arith, nat_tests) in
          let after : n + 1 ≡ min (suc n) used = grind (arith, nat_tests) in
          (λ j. with_count ((before-it ∙ ap counts_to before) j)
          ((shown-is n (omega (arith, most)) ∙ ap (λ (c : Bool). if c then Some (free_count n) else None) e) j))
          ∙ sym (map-range_with_len_more free_count 0 n n (omega arith)) ∙ ap counts_to after
      by false e before-it =
          let same : min n used ≡ min (suc n) used = grind (arith, nat_tests) in
          (λ j. with_count (before-it j)
          ((shown-is n (omega (arith, most)) ∙ ap (λ (c : Bool). if c then Some (free_count n) else None) e) j))
          ∙ ap counts_to same

  pub all-counted : counts_shown range most_ranges ≡ free_counts p.ranges
  all-counted =
      let few = ranges-fit p.ranges in
      let size = well.sixteen in
      let all : min most_ranges used ≡ used = grind (arith, few, size) in
      let first = well.ranges 0 (omega (arith, size)) in
      counts-are most_ranges (omega arith) ∙ ap counts_to all ∙ ap (λ (k : ℕ). counts_by k p.ranges) (sym first.blocks)

-- a range has few numbers that are free
few-pass : (test : ℕ → Bool) (a n : ℕ) → length (filter test (range_with_len a n)) ≤ n
few-pass test a zero = omega arith
few-pass test a (suc n) = by (test a) (few-pass test (a + 1) n)
  where
    by : (b : Bool) → length (filter test (range_with_len (a + 1) n)) ≤ n
        → length (if b then a ∷ filter test (range_with_len (a + 1) n) else filter test (range_with_len (a + 1) n)) ≤ suc n
    by true rest = omega (arith, rest)
    by false rest = omega (arith, rest)

pub few-free : (x : RangeValue) → length (free_numbers x) ≤ x.range_blocks
unfolding in_range
few-free x = few-pass (contains x.free) (x.range_blocks * x.number) x.range_blocks
