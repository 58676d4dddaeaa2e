-- A range of a volume's block numbers: which of them are free in its bitmap (our profile).
use Rattle.std.specs.Prelude.{◌≡◌, IsTrue, ℕ, ◌*◌, ◌/◌, ◌^◌, ◌<◌, ◌≤◌, Bool, true, false, List, take, min, if◌then◌else◌}
use Rattle.std.specs.List.{AllByRecursion, range_with_len}
use Rattle.std.specs.Ordering.{nat_cmp}
use Rattle.std.specs.FinSet as sets
use Rattle.std.specs.FinSet.{FinSet, contains, union, difference, from_list}
use Rattle.nfs_model.specs.Parts.{most_carried, most_ranges, IsBatch}
use Rattle.nfs_model.specs.Moves.{in_range}

-- the most blocks of a range, in any layout
abbrev pub most_range_blocks : ℕ
most_range_blocks = 16777216

-- A range has 1,024 blocks, times a power of two.
pub record IsRangeSize (size : ℕ) : Type 0 where
  pub doublings : ℕ
  pub is : size ≡ 1024 * 2 ^ doublings
  pub most : size ≤ most_range_blocks

-- a range of block numbers
pub record RangeValue : Type 0 where
  pub range_blocks : ℕ  -- how many it has
  pub number : ℕ
  pub is_used : Bool
  pub free : FinSet nat_cmp

-- a range of this many blocks as it is made, not in use
abbrev pub unused_range : (size number : ℕ) → RangeValue
unused_range size number = record { range_blocks = size; number = number; is_used = false; free = sets.empty }

-- all numbers of a range, where a range has this many
abbrev pub range_numbers : (size number : ℕ) → List ℕ
range_numbers size number = range_with_len (size * number) size

-- ---- what is asked

-- its free numbers, lowest first
abbrev pub free_numbers : RangeValue → List ℕ
free_numbers r = in_range r.range_blocks r.number r.free

-- at most n of them, and 64, the lowest
abbrev pub lowest : ℕ → RangeValue → List ℕ
lowest n r = take (min n most_carried) (free_numbers r)

-- ---- what changes it

-- block numbers added to a set
abbrev pub with_numbers : List ℕ → FinSet nat_cmp → FinSet nat_cmp
with_numbers blocks set = union set (from_list blocks)

-- block numbers taken from a set
abbrev pub without_numbers : List ℕ → FinSet nat_cmp → FinSet nat_cmp
without_numbers blocks set = difference set (from_list blocks)

-- numbers taken
abbrev pub taken : List ℕ → RangeValue → RangeValue
taken blocks r = record r { free = without_numbers blocks r.free }

-- a batch may be given: it is of the range, which is in use, and none of it is free. What is given
-- back was taken from there, so that a range that isn't in use is given nothing
pub record MayBeGiven (blocks : List ℕ) (r : RangeValue) : Type 0 where
  pub used : IsTrue r.is_used
  pub batch : IsBatch r.range_blocks r.number blocks
  pub apart : AllByRecursion (λ b. contains r.free b ≡ false) blocks

-- numbers given
abbrev pub given : List ℕ → RangeValue → RangeValue
given blocks r = record r { free = with_numbers blocks r.free }

-- a range that isn't in use comes into use, all its numbers free
abbrev pub put_in_use : RangeValue → RangeValue
put_in_use r =
    if r.is_used then r else record r { is_used = true; free = from_list (range_numbers r.range_blocks r.number) }

-- ---- what holds of it

-- Its size is one that a layout may have, its free numbers are its own, and none is free where it
-- isn't in use.
pub record IsRange (r : RangeValue) : Type 0 where
  pub size : IsRangeSize r.range_blocks
  pub own : (b : ℕ) → contains r.free b ≡ true → b / r.range_blocks ≡ r.number
  pub used : r.is_used ≡ false → r.free ≡ sets.empty

-- A set of block numbers has none past the 16 ranges that a volume has at most, where a range has so
-- many.
pub record IsOfVolume (size : ℕ) (set : FinSet nat_cmp) : Type 0 where
  pub below : (b : ℕ) → contains set b ≡ true → b < most_ranges * size

-- the dead blocks of a volume, by ranges of this many blocks
pub record DeadValue : Type 0 where
  pub range_blocks : ℕ
  pub blocks : FinSet nat_cmp

-- no dead block
abbrev pub no_dead : ℕ → DeadValue
no_dead size = record { range_blocks = size; blocks = sets.empty }

-- more of them
abbrev pub dead_marked : List ℕ → DeadValue → DeadValue
dead_marked blocks d = record d { blocks = with_numbers blocks d.blocks }

-- fewer of them
abbrev pub dead_taken : List ℕ → DeadValue → DeadValue
dead_taken blocks d = record d { blocks = without_numbers blocks d.blocks }
