-- Where the block numbers of a volume are (our profile): in files, in the stock, dead, free, or in
-- the hand of a worker.
use Rattle.std.specs.Prelude.{◌≡◌, ℕ, ◌+◌, ◌/◌, ◌<◌, ◌≤◌, Bool, ◌==◌, nat_lt, List, [], ◌∷◌, length}
use Rattle.std.specs.Prelude.{if◌then◌else◌}
use Rattle.std.specs.List.{AllByRecursion}
use Rattle.std.specs.Ordering.{nat_cmp}
use Rattle.std.specs.FinSet.{FinSet, contains, len}
use Rattle.nfs_model.specs.Server.{VolumeState, used}

-- ---- numbers of the profile

-- the blocks that a hand carries at most
abbrev pub most_carried : ℕ
most_carried = 64

-- the ranges of a volume at most
abbrev pub most_ranges : ℕ
most_ranges = 16

-- ---- parts and hands

-- the block numbers of a volume, but those in hands
pub record Parts : Type 0 where
  pub files : FinSet nat_cmp
  pub stock : FinSet nat_cmp  -- for files, under Logical
  pub dead : FinSet nat_cmp  -- left by a file, not yet free
  pub free : FinSet nat_cmp  -- in the bitmaps of the ranges

-- a batch that a worker carries, of a volume: for the stock, or to be free
pub data Hand : Type 0 where
  Empty : Hand
  Fresh : (volume : ℕ) (blocks : List ℕ) → Hand
  Dead : (volume : ℕ) (blocks : List ℕ) → Hand

-- the batch in a hand
abbrev pub batch_in : Hand → List ℕ
batch_in Empty = []
batch_in (Fresh volume blocks) = blocks
batch_in (Dead volume blocks) = blocks

-- the blocks of a volume in a hand
abbrev pub hand_blocks : ℕ → Hand → List ℕ
hand_blocks volume Empty = []
hand_blocks volume (Fresh v blocks) = if volume == v then blocks else []
hand_blocks volume (Dead v blocks) = if volume == v then blocks else []

-- ---- a batch

-- each number is below the next
abbrev pub IsAscending : List ℕ → Type 0
IsAscending [] = Unit {0}
IsAscending (b ∷ []) = Unit {0}
IsAscending (b ∷ (c ∷ rest)) = (b < c) × IsAscending (c ∷ rest)

-- the range of the first block, where a range has this many
abbrev pub range_of : (size : ℕ) → List ℕ → ℕ
range_of size [] = 0
range_of size (b ∷ blocks) = b / size

-- a batch: at most 64 numbers of one range, ascending, where a range has this many
pub record IsBatch (size range : ℕ) (blocks : List ℕ) : Type 0 where
  pub few : length blocks ≤ most_carried
  pub ascending : IsAscending blocks
  pub of_range : AllByRecursion (λ b. b / size ≡ range) blocks

-- ---- the partition

-- 1 where it is so
abbrev pub one_if : Bool → ℕ
one_if b = if b then 1 else 0

-- how many of a list pass a test
abbrev pub count : {A : Type 0} → (A → Bool) → List A → ℕ
count test [] = 0
count test (x ∷ xs) = one_if (test x) + count test xs

-- how often a number stands in a list
abbrev pub times_listed : ℕ → List ℕ → ℕ
times_listed n blocks = count (λ b. b == n) blocks

-- in how many places a block number stands
abbrev pub places : ℕ → Parts → List ℕ → ℕ
places n p in_hands =
    one_if (contains p.files n) + one_if (contains p.stock n) + one_if (contains p.dead n)
    + one_if (contains p.free n) + times_listed n in_hands

-- Each number below total stands in one part, once, and no other does; and those in files are as
-- many as the files fill.
pub record IsPartition (volume : VolumeState) (p : Parts) (in_hands : List ℕ) : Type 0 where
  pub once : (n : ℕ) → places n p in_hands ≡ one_if (nat_lt n volume.total)
  pub in_files : len p.files ≡ used volume

-- ---- what is told

-- how many block numbers are where, and how many there are
pub record Counts : Type 0 where
  pub files : ℕ
  pub stock : ℕ
  pub dead : ℕ
  pub free : ℕ
  pub hands : ℕ
  pub total : ℕ

-- those of a volume, with the blocks that all hands carry of it
abbrev pub counts : VolumeState → Parts → List ℕ → Counts
counts volume p in_hands =
    record {
      files = len p.files;
      stock = len p.stock;
      dead = len p.dead;
      free = len p.free;
      hands = length in_hands;
      total = volume.total;
    }
