-- Block numbers as numbers.
use Rattle.std.specs.Prelude.{◌≤◌, ℕ, List, map, take, length}
use Rattle.nfs_model.specs.volume.Stripes.{span_blocks}
use Rattle.nfs_values.specs.declared.number.BlockNumber.{BlockNumber}

abbrev pub numbers : List BlockNumber → List ℕ
numbers blocks = map (λ (b : BlockNumber). b.0) blocks

-- the first of them, this many
abbrev pub first_numbers : ℕ → List BlockNumber → List ℕ
first_numbers count blocks = numbers (take count blocks)

-- There are this many, and at most as many as a span has.
abbrev pub AreInPlace : ℕ → List BlockNumber → Type 0
AreInPlace count blocks = (count ≤ length blocks) × (length (first_numbers count blocks) ≤ span_blocks)
