-- Counts that wrap at 2^64.
use Rattle.std.specs.Prelude.{◌≡◌, ℕ, ◌+◌, ◌-◌, ◌%◌, ◌^◌, ◌<◌, List, length, slice_index}

-- a count to which another is added
abbrev pub wrapping_sum : ℕ → ℕ → ℕ
wrapping_sum x y = (x + y) % 2 ^ 64

-- a count from which an earlier one is taken
abbrev pub wrapping_difference : ℕ → ℕ → ℕ
wrapping_difference x y = (x + (2 ^ 64 - y)) % 2 ^ 64

-- each of these is what comes of the two at its place in the others
pub record IsEachOf (by : ℕ → ℕ → ℕ) (xs ys zs : List ℕ) : Type 0 where
  pub as_many : length zs ≡ length xs
  pub each : (k : ℕ) → k < length xs → slice_index zs k ≡ by (slice_index xs k) (slice_index ys k)

-- the sums of two lists of counts
abbrev pub AreSums : List ℕ → List ℕ → List ℕ → Type 0
AreSums = IsEachOf wrapping_sum

-- the differences of two lists of counts
abbrev pub AreDifferences : List ℕ → List ℕ → List ℕ → Type 0
AreDifferences = IsEachOf wrapping_difference
