-- Block numbers as numbers.
use Rattle.std.specs.Prelude.{◌≤◌, length, take, ℕ, List, map, Option, None, Some, []}
use Rattle.std.specs.Prelude.{◌∷◌}
use Rattle.nfs_values.specs.declared.number.BlockNumber.{BlockNumber}
use Rattle.nfs_model.specs.Parts.{most_carried, range_of, IsAscending}

abbrev pub numbers : List BlockNumber → List ℕ
numbers blocks = map (λ (b : BlockNumber). b.0) blocks

-- the first of them, this many
abbrev pub first_numbers : ℕ → List BlockNumber → List ℕ
first_numbers count blocks = numbers (take count blocks)

-- Numbers that one batch has place for: at most 64, ascending.
pub record AreCarried (blocks : List ℕ) : Type 0 where
  pub few : length blocks ≤ most_carried
  pub ascending : IsAscending blocks

-- The first of them, this many, are carried.
abbrev pub AreInPlace : ℕ → List BlockNumber → Type 0
AreInPlace count blocks = (count ≤ length blocks) × AreCarried (first_numbers count blocks)

-- the range of the first block, where a range has this many; without a block there is none
abbrev pub batch_range : (size : ℕ) → List ℕ → Option ℕ
batch_range size [] = None
batch_range size (b ∷ blocks) = Some (range_of size (b ∷ blocks))

-- the last of some blocks
abbrev pub last_of : ℕ → List ℕ → ℕ
last_of b [] = b
last_of b (c ∷ blocks) = last_of c blocks

-- its first block
abbrev pub first_of : List ℕ → Option ℕ
first_of [] = None
first_of (b ∷ blocks) = Some b
