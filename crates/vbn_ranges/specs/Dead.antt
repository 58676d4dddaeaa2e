-- The dead blocks of a volume, by their ranges.
use Rattle.std.specs.Prelude.{◌≡◌, ℕ, ◌+◌, List, [], ◌∷◌, map, length, take, min}
use Rattle.std.specs.List.{range_with_len}
use Rattle.std.specs.Ordering.{nat_cmp}
use Rattle.std.specs.FinSet as sets
use Rattle.std.specs.FinSet.{FinSet, union, len}
use Rattle.nfs_model.specs.Parts.{most_ranges, most_carried}
use Rattle.nfs_model.specs.Moves.{first_filled, in_range}
use Rattle.nfs_model.specs.volume.Ranges.{DeadValue, IsRangeSize}
use Rattle.vbn_ranges.specs.Marks.{MarksValue, IsMarks, lowest_marked}

-- all marked numbers
abbrev pub all_of : List MarksValue → FinSet nat_cmp
all_of [] = sets.empty
all_of (m ∷ marks) = union m.set (all_of marks)

-- The marks of a range of this many blocks.
pub record IsMarksOf (size range : ℕ) (m : MarksValue) : Type 0 where
  pub size_is : m.range_blocks ≡ size
  pub range_is : m.range ≡ range
  pub marks : IsMarks m

-- The marks are of the ranges from one on, in order, each of this many blocks.
abbrev pub AreNumbered : (size range : ℕ) → List MarksValue → Type 0
AreNumbered size range [] = Unit {0}
AreNumbered size range (m ∷ marks) = IsMarksOf size range m × AreNumbered size (range + 1) marks

-- The marks of all ranges that a volume has at most, and how many numbers are marked.
pub record AreDead (size : ℕ) (marks : List MarksValue) (count : ℕ) : Type 0 where
  pub sized : IsRangeSize size
  pub all_ranges : length marks ≡ most_ranges
  pub numbered : AreNumbered size 0 marks
  pub counted : count ≡ len (all_of marks)

-- the dead blocks that marks of ranges of this many blocks have
abbrev pub dead_of : ℕ → List MarksValue → DeadValue
dead_of size marks = record { range_blocks = size; blocks = all_of marks }

-- at most n, and 64, of the lowest marked numbers of the first range that has one
abbrev pub lowest_dead : ℕ → List MarksValue → List ℕ
lowest_dead n marks = first_filled (map (lowest_marked n) marks)

-- at most n, and 64, of the lowest numbers of the range of the lowest, where a range has this many
unfoldable pub lowest_of : (size n : ℕ) → FinSet nat_cmp → List ℕ
lowest_of size n set = first_filled (map (λ r. take (min n most_carried) (in_range size r set)) (range_with_len 0 most_ranges))
