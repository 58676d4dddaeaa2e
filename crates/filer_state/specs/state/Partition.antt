-- Where the block numbers of a volume are (our profile): in the blocks of its stripes, in the stock, dead, free, or in a hand.
use Rattle.std.specs.Prelude.{◌≡◌, ◌≢◌, ℕ, ◌+◌, ◌*◌, nat_lt, List, [], ◌∷◌, ◌++◌, map}
use Rattle.std.specs.Ordering.{nat_cmp}
use Rattle.std.specs.FinMap.{entries}
use Rattle.std.specs.FinSet.{FinSet, contains, empty, union, from_list}
use Rattle.nfs_model.specs.Parts.{Parts, Hand, hand_blocks, times_listed, one_if}
use Rattle.nfs_model.specs.Moves.{Stored}
use Rattle.depot_rule.specs.Sums.{total}
use Rattle.nfs_model.specs.volume.Stripes.{FileBlock, Block, StripeValue}
use Rattle.nfs_model.specs.volume.Ranges.{RangeValue}
use Rattle.filer_state.specs.state.Contents.{VolumeContents, FilerContents}
use Rattle.filer_state.specs.state.Tree.{ranges_used, volume_of}

-- ---- as sets

-- the numbers of a stripe's blocks
abbrev pub numbers_in : StripeValue → List ℕ
numbers_in s = map (λ (e : FileBlock × Block). e.1.number) (entries s.blocks)

-- of the blocks of some stripes
abbrev pub all_numbers : List StripeValue → List ℕ
all_numbers [] = []
all_numbers (s ∷ stripes) = numbers_in s ++ all_numbers stripes

abbrev pub files_in : List StripeValue → FinSet nat_cmp
files_in stripes = from_list (all_numbers stripes)

abbrev pub free_in : List RangeValue → FinSet nat_cmp
free_in [] = empty
free_in (r ∷ ranges) = union r.free (free_in ranges)

-- where they are, but for hands
abbrev pub parts_of : VolumeContents → Parts
parts_of p = record { files = files_in p.stripes; stock = p.logical.stock; dead = p.logical.dead.blocks; free = free_in p.ranges }

-- of all volumes
abbrev pub all_parts : FilerContents → List Parts
all_parts c = map parts_of c.volumes

-- a volume as calls see it, with its parts
abbrev pub stored : VolumeContents → Stored
stored p = record { volume = volume_of p; parts = parts_of p }

-- ---- counted

-- how often a number stands in a stripe
abbrev pub times_in_stripe : ℕ → StripeValue → ℕ
times_in_stripe n s = times_listed n (numbers_in s)

-- how often it stands in a volume, each block counted for itself
abbrev pub times_in : ℕ → VolumeContents → ℕ
times_in n p =
    total (times_in_stripe n) p.stripes + one_if (contains p.logical.stock n) + one_if (contains p.logical.dead.blocks n)
    + total (λ (r : RangeValue). one_if (contains r.free n)) p.ranges

-- how often it stands in a hand, as a volume's: a weight of hands, whose order doesn't count
abbrev pub times_in_hand : ℕ → ℕ → Hand → ℕ
times_in_hand v n hand = times_listed n (hand_blocks v hand)

-- Each number below total stands in one place, once, and no other does.
abbrev pub StandOnce : VolumeContents → List Hand → Type 0
StandOnce p hands =
    (n : ℕ) → times_in n p + total (times_in_hand p.number n) hands ≡ one_if (nat_lt n (p.logical.dead.range_blocks * ranges_used p.ranges))

-- these hands carry nothing of other volumes
abbrev pub AreOf : ℕ → List Hand → Type 0
AreOf v hands = (u : ℕ) → u ≢ v → (n : ℕ) → total (times_in_hand u n) hands ≡ 0
