-- How block numbers go from one part of a volume to another (our profile). How many is given; which
-- ones is mostly free.
use Rattle.std.specs.Prelude.{◌≡◌, ℕ, ◌-◌, ◌*◌, min, IsTrue, List, [], ◌∷◌, length, map, take}
use Rattle.std.specs.List.{range_with_len, filter}
use Rattle.std.specs.Ordering.{nat_cmp}
use Rattle.std.specs.FinSet.{FinSet, is_subset, difference, union, from_list, len, contains}
use Rattle.nfs_model.specs.Types.{Call, Write, Setattr, Create, Remove, Rename, Grow}
use Rattle.nfs_model.specs.Tree.{Affinity, Volume, Logical}
use Rattle.nfs_model.specs.Server.{VolumeState, used}
use Rattle.nfs_model.specs.Parts.{Parts, Hand, Empty, Fresh, Dead, most_carried, most_ranges}
use Rattle.nfs_model.specs.Parts.{batch_in}

-- ---- by calls

-- n blocks leave one set and come into another
pub record Carried (n : ℕ) (old_from old_to new_from new_to : FinSet nat_cmp) : Type 0 where
  pub blocks : FinSet nat_cmp
  pub count : len blocks ≡ n
  pub there : IsTrue (is_subset blocks old_from)
  pub left : new_from ≡ difference old_from blocks
  pub reached : new_to ≡ union old_to blocks

-- a WRITE that fills n blocks under Volume: from the stock, then from the free, then from the dead
pub record FilledInVolume (n : ℕ) (old new : Parts) : Type 0 where
  pub by_stock : FinSet nat_cmp
  pub by_free : FinSet nat_cmp
  pub stock : Carried (min n (len old.stock)) old.stock old.files new.stock by_stock
  pub free : Carried (min (n - len old.stock) (len old.free)) old.free by_stock new.free by_free
  pub dead : Carried (n - len old.stock - len old.free) old.dead by_free new.dead new.files

-- a WRITE that fills n blocks under Logical: from the stock
pub record FilledInLogical (n : ℕ) (old new : Parts) : Type 0 where
  pub stock : Carried n old.stock old.files new.stock new.files
  pub free : new.free ≡ old.free
  pub dead : new.dead ≡ old.dead

-- n blocks leave files and are dead
pub record Emptied (n : ℕ) (old new : Parts) : Type 0 where
  pub dead : Carried n old.files old.dead new.files new.dead
  pub stock : new.stock ≡ old.stock
  pub free : new.free ≡ old.free

-- a WRITE that fills n blocks, by its affinity; elsewhere it fills none
abbrev pub Filled : Affinity → ℕ → Parts → Parts → Type 0
Filled (Volume v) n old new = FilledInVolume n old new
Filled (Logical v) n old new = FilledInLogical n old new
Filled affinity n old new = (n ≡ 0) × (new ≡ old)

-- a volume as calls see it, and where its block numbers are
pub record Stored : Type 0 where
  pub volume : VolumeState
  pub parts : Parts

-- how many blocks are filled more
abbrev pub filled_by : Stored → Stored → ℕ
filled_by old new = used new.volume - used old.volume

-- how many blocks are filled fewer
abbrev pub emptied_by : Stored → Stored → ℕ
emptied_by old new = used old.volume - used new.volume

-- the block numbers by which a volume grew
abbrev pub grown_by : Stored → Stored → FinSet nat_cmp
grown_by old new = from_list (range_with_len old.volume.total (new.volume.total - old.volume.total))

-- The parts of a volume after a call under an affinity, by what the call did to the volume. WRITE
-- fills blocks; SETATTR, CREATE, REMOVE and RENAME leave them dead; new numbers of GROW are free;
-- other calls move none.
abbrev pub PartsChange : Call → Affinity → Stored → Stored → Type 0
PartsChange (Write handle offset count written) affinity old new =
    Filled affinity (filled_by old new) old.parts new.parts
PartsChange (Setattr handle set guard) affinity old new = Emptied (emptied_by old new) old.parts new.parts
PartsChange (Create directory name mode) affinity old new = Emptied (emptied_by old new) old.parts new.parts
PartsChange (Remove directory name) affinity old new = Emptied (emptied_by old new) old.parts new.parts
PartsChange (Rename from from_name to to_name) affinity old new =
    Emptied (emptied_by old new) old.parts new.parts
PartsChange (Grow volume ranges) affinity old new =
    new.parts ≡ record old.parts { free = union old.parts.free (grown_by old new) }
PartsChange call affinity old new = new.parts ≡ old.parts

-- ---- batches

-- the numbers of a range that are in a set, lowest first, where a range has this many
unfoldable pub in_range : (size range : ℕ) → FinSet nat_cmp → List ℕ
in_range size range blocks = filter (contains blocks) (range_with_len (size * range) size)

-- at most 64 of them, the lowest
abbrev pub batch : (size range : ℕ) → FinSet nat_cmp → List ℕ
batch size range blocks = take most_carried (in_range size range blocks)

-- the first of some lists that isn't empty
abbrev pub first_filled : List (List ℕ) → List ℕ
first_filled [] = []
first_filled ([] ∷ rest) = first_filled rest
first_filled ((b ∷ bs) ∷ rest) = b ∷ bs

-- a batch of the range of the lowest
unfoldable pub lowest_batch : (size : ℕ) → FinSet nat_cmp → List ℕ
lowest_batch size blocks = first_filled (map (λ r. batch size r blocks) (range_with_len 0 most_ranges))

-- ---- by inner calls, which a worker makes with its hand

-- what an inner call works on: the parts of a volume, and the worker's hand
pub record Carrying : Type 0 where
  pub parts : Parts
  pub hand : Hand

-- a batch for the stock; without a block the hand is empty
abbrev pub fresh_hand : ℕ → List ℕ → Hand
fresh_hand volume [] = Empty
fresh_hand volume (b ∷ bs) = Fresh volume (b ∷ bs)

-- a batch of dead blocks; without a block the hand is empty
abbrev pub dead_hand : ℕ → List ℕ → Hand
dead_hand volume [] = Empty
dead_hand volume (b ∷ bs) = Dead volume (b ∷ bs)

-- blocks leave the bitmaps
abbrev pub without_free : List ℕ → Parts → Parts
without_free blocks p = record p { free = difference p.free (from_list blocks) }

-- blocks leave the dead
abbrev pub without_dead : List ℕ → Parts → Parts
without_dead blocks p = record p { dead = difference p.dead (from_list blocks) }

-- blocks come into the stock
abbrev pub with_stock : List ℕ → Parts → Parts
with_stock blocks p = record p { stock = union p.stock (from_list blocks) }

-- blocks come into the bitmaps
abbrev pub with_free : List ℕ → Parts → Parts
with_free blocks p = record p { free = union p.free (from_list blocks) }

-- the parts where a hand is put down: a fresh batch comes into the stock, a dead one into the
-- bitmaps
abbrev pub put_down : Hand → Parts → Parts
put_down Empty p = p
put_down (Fresh volume blocks) p = with_stock blocks p
put_down (Dead volume blocks) p = with_free blocks p

-- the hand and the parts after a fetch
abbrev pub fetched : ℕ → List ℕ → Parts → Carrying
fetched volume blocks p = record { parts = without_free blocks p; hand = fresh_hand volume blocks }

-- the hand and the parts after a cull
abbrev pub culled : ℕ → List ℕ → Parts → Carrying
culled volume blocks p = record { parts = without_dead blocks p; hand = dead_hand volume blocks }

-- Fetch, under a Range of this many blocks: its 64 lowest free blocks come into the hand, or all if
-- they are fewer; this many.
abbrev pub Fetches : (size volume range count : ℕ) → Carrying → Carrying → Type 0
Fetches size volume range count old new =
    (count ≡ length (batch size range old.parts.free))
    × (new ≡ fetched volume (batch size range old.parts.free) old.parts)

-- Cull, under Logical: the 64 lowest dead blocks of the range of the lowest come into the hand, or
-- all of that range if they are fewer; this many. A range has the first number's blocks.
abbrev pub Culls : (size volume count : ℕ) → Carrying → Carrying → Type 0
Culls size volume count old new =
    (count ≡ length (lowest_batch size old.parts.dead))
    × (new ≡ culled volume (lowest_batch size old.parts.dead) old.parts)

-- PutDown, under Logical for a fresh batch and under its Range for a dead one: the batch leaves the
-- hand; this many blocks.
abbrev pub PutsDown : ℕ → Carrying → Carrying → Type 0
PutsDown count old new =
    (count ≡ length (batch_in old.hand))
    × (new ≡ record { parts = put_down old.hand old.parts; hand = Empty })

-- Survey, under Vbn: how many blocks of each range in use are free, where a range has this many.
abbrev pub Surveys : (size ranges : ℕ) → Parts → List ℕ → Type 0
Surveys size ranges p told = told ≡ map (λ r. length (in_range size r p.free)) (range_with_len 0 ranges)
