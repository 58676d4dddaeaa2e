-- What a worker knows of the stock of a volume: whether it has enough numbers, so that none is to be fetched for it (our profile).
use Rattle.std.specs.Prelude.{◌≡◌, ℕ, ◌==◌, nat_le, Bool, false, Option, Some, None, Result, Ok, Err, if◌then◌else◌}
use Rattle.std.specs.Ordering.{nat_cmp}
use Rattle.std.specs.FinSet.{FinSet, len}
use Rattle.nfs_model.specs.Tree.{Layout, Affinity, Logical}
use Rattle.filer_state.specs.state.Parcels.{FilerParcel}
use Rattle.filer_state.specs.state.Contents.{at, logical_in}
use Rattle.desk.specs.laws.Calls.{Asks, DoesTask}
use Rattle.turns.specs.declared.stock.Enough.{Enough}
use Rattle.turns.specs.declared.stock.NoStock.{NoStock}

-- ---- of a stock

-- this many numbers are enough: 4 GiB of blocks
abbrev pub enough_stocked : ℕ
enough_stocked = 1048576

abbrev pub has_enough : FinSet nat_cmp → Bool
has_enough stock = nat_le enough_stocked (len stock)

-- ---- a look at what was granted

-- what parcels under a node tell: under Logical whether the stock of its volume has enough, under another node nothing
abbrev pub stock_told : {P : Type 0} → Layout → Affinity → (ℕ → Option (FilerParcel P)) → Option Bool
stock_told layout (Logical v) f = Some (has_enough (logical_in (at layout f (Logical v))).stock)
stock_told layout node f = None

-- a look asks for nothing
abbrev pub AsksForNothing : {P : Type 0} → Layout → Affinity → (ℕ → Option (FilerParcel P)) → Type 0
AsksForNothing layout node f = Unit {0}

-- what is told by it
abbrev pub told_by : Result Enough NoStock → Option Bool
told_by (Ok enough) = Some enough.0
told_by (Err nothing) = None

-- it changes no parcel, and tells what they tell
abbrev pub HasLooked : {P : Type 0} → Layout → Affinity → (ℕ → Option (FilerParcel P)) → Option Bool → (ℕ → Option (FilerParcel P)) → Type 0
HasLooked layout node f told f' = ((k : ℕ) → f' k ≡ f k) × (told ≡ stock_told layout node f)

-- the same of what it answers
abbrev pub HasTold : {P : Type 0} → Layout → Affinity → (ℕ → Option (FilerParcel P)) → Result Enough NoStock → (ℕ → Option (FilerParcel P)) → Type 0
HasTold layout node f looked f' = HasLooked layout node f (told_by looked) f'

-- work that is a look: it asks for nothing, and does nothing else
pub record IsLook {P : Type 0} (asks : Asks (FilerParcel P)) (does : DoesTask (FilerParcel P) (Result Enough NoStock)) : Type 0 where
  pub finds : (layout : Layout) (node : Affinity) (f : ℕ → Option (FilerParcel P)) → asks layout node f
  pub leaves : (layout : Layout) (node : Affinity) (f : ℕ → Option (FilerParcel P)) (looked : Result Enough NoStock) (f' : ℕ → Option (FilerParcel P))
      → does layout node f looked f' → HasTold layout node f looked f'

-- ---- what is known of it

-- Of which volume a worker knows that its stock had enough: of the one at whose stock it looked last, if that had. So it is after an inner
-- call on a volume that told this.
abbrev pub stocked_after : (volume : ℕ) → (told : Option Bool) → (before : Option ℕ) → Option ℕ
stocked_after volume None before = before
stocked_after volume (Some enough) before = if enough then Some volume else None

-- whether that is this volume
abbrev pub is_stocked : Option ℕ → ℕ → Bool
is_stocked None volume = false
is_stocked (Some seen) volume = seen == volume
