-- Ranges in use, counted one place after another.
use Rattle.std.proofs.Common.{◌≡◌, ◌+◌, ◌<◌, ◌≤◌, ℕ, suc, List, length, Option, ap, ◌∙◌, arith}
use Rattle.std.specs.Prelude.{slice_index_or, if◌then◌else◌}
use Rattle.nfs_model.specs.volume.Ranges.{RangeValue}
use Rattle.filer_state.specs.state.Contents.{each}
use Rattle.filer_state.specs.state.Sets.{FilerRange, range_value, placed}
use Rattle.filer_state.specs.state.Tree.{ranges_used}
use Rattle.filer_state.proofs.Places.{placed-index}

module _ (f : ℕ → RangeValue) (all : ℕ) where
  -- of the ranges this many are in use before one, and all with those from it on
  abbrev pub UsedSoFar : ℕ → ℕ → Type 0
  UsedSoFar at used = (used ≤ at) × ((m : ℕ) → at + m ≡ 16 → used + ranges_used (each f at m) ≡ all)

  pub used-all : (at used : ℕ) → UsedSoFar at used → 16 ≤ at → at ≤ 16 → used ≡ all
  used-all at used sofar past most = let rest = sofar.1 0 (omega (arith, past, most)) in omega (arith, rest)

-- one place more
module _ {P : Type 0} (places : List (Option (FilerRange P))) where
  abbrev value_at : ℕ → RangeValue
  value_at r = range_value (placed places r)

  pub used-more : (all at : ℕ) → at < length places → (d : Option (FilerRange P)) (used here : ℕ) → UsedSoFar value_at all at used
      → here ≡ (if (range_value (slice_index_or places at d)).is_used then 1 else 0) → here ≤ 1 → UsedSoFar value_at all (at + 1) (used + here)
  used-more all at less d used here sofar is few =
      let same : here ≡ (if (value_at at).is_used then 1 else 0) =
      is ∙ ap (λ (place : Option (FilerRange P)). if (range_value place).is_used then 1 else 0) (placed-index places at d less) in (
        let most = sofar.0 in omega (arith, most, few),
        λ m rest.
            let from = sofar.1 (suc m) (omega (arith, rest)) in
            omega (arith, from, same),
      )
