-- How many blocks are free, range by range.
use Rattle.std.specs.Prelude.{ℕ, zero, suc, List, [], ◌∷◌, ◌++◌, length, Option, Some, None, if◌then◌else◌}
use Rattle.nfs_model.specs.volume.Ranges.{RangeValue, free_numbers}

-- how many blocks of a range are free, where it is in use
abbrev pub count_shown : RangeValue → Option ℕ
count_shown range = if range.is_used then Some (length (free_numbers range)) else None

-- a count after others, if there is one
abbrev pub with_count : List ℕ → Option ℕ → List ℕ
with_count counts None = counts
with_count counts (Some count) = counts ++ count ∷ []

-- those of the first n ranges
abbrev pub counts_shown : (ℕ → RangeValue) → ℕ → List ℕ
counts_shown range zero = []
counts_shown range (suc n) = with_count (counts_shown range n) (count_shown (range n))
