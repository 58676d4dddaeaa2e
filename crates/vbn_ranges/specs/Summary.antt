-- Words that sum up others.
use Rattle.std.specs.Prelude.{◌≡◌, ℕ, ◌*◌, ◌≤◌, ◌==◌, not, List, length, slice_index}
use Rattle.vbn_ranges.specs.Words.{has_bit}

-- The upper words have a bit for each of the lower, set exactly when that isn't 0.
pub record IsSummary (lower upper : List ℕ) : Type 0 where
  pub size : length lower ≤ 64 * length upper
  pub bits : (place : ℕ) → has_bit upper place ≡ not (slice_index lower place == 0)
