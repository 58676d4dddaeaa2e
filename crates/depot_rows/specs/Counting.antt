-- Calls that count by one, and what a seat's entries tell of them.
use Rattle.std.specs.Prelude.{◌≡◌, ℕ, List, map, Option, Result, Ok, Err}
use Rattle.nfs_model.specs.Tree.{Layout, Affinity}
use Rattle.affinity.specs.Numbers.{number_of, parents}
use Rattle.affinity.specs.declared.affinity.HasKind as kinds
use Rattle.parcels.specs.declared.family.Parcel.{Parcel}
use Rattle.depot_rule.specs.declared.machine.Machine as machines
use Rattle.depot_rule.specs.declared.view.Entry.{Entry}
use Rattle.depot.specs.declared.seats.Seat.{Seat}
use Rattle.depot.specs.declared.trial.adding.Change.{Change}
use Rattle.depot.specs.declared.trial.adding.Change.TheVariants.{Touch, Read, Add}
use Rattle.depot_rule.specs.History.{entries_of}
use Rattle.depot.specs.trial.Adding.{Changes}
use Rattle.depot.specs.Words.{view}

module _ {P : Type 0} where
  -- the node's number becomes the sum of what it was and 1, modulo 2^64; all others stay
  abbrev pub AddsOne : Layout → Affinity → (ℕ → Option (Parcel P ℕ ℕ ℕ ℕ ℕ ℕ ℕ)) → ℕ → (ℕ → Option (Parcel P ℕ ℕ ℕ ℕ ℕ ℕ ℕ)) → Type 0
  AddsOne layout affinity f sum f' = Changes (parents layout) (number_of layout affinity) (Add 1) f sum f'

  -- so it does where the work is done; where it isn't, nothing changes
  abbrev pub Counts : {U : Type 0} → Layout → Affinity → (ℕ → Option (Parcel P ℕ ℕ ℕ ℕ ℕ ℕ ℕ)) → Result ℕ U
      → (ℕ → Option (Parcel P ℕ ℕ ℕ ℕ ℕ ℕ ℕ)) → Type 0
  Counts layout affinity f (Ok sum) f' = AddsOne layout affinity f sum f'
  Counts layout affinity f (Err undone) f' = (k : ℕ) → f' k ≡ f k

-- what a call adds
abbrev pub added_by : Change → ℕ
added_by Touch = 0
added_by Read = 0
added_by (Add n) = n

-- an entry: the number of its node, what its call added, and its reply
abbrev pub told : {T : Type 0} → Entry T Change ℕ → ℕ × ℕ × ℕ
told e = (e.node, added_by e.call, e.reply)

module _ {M T B : Type 0} {G : machines.Ghosts M T Change ℕ B} {K : kinds.Ghosts T} where
  -- the calls that a seat finished, in their order
  abbrev pub made_by : Seat M T Change ℕ B G K → List (ℕ × ℕ × ℕ)
  made_by seat = map told (entries_of (view seat))

  -- the seat has seen what it had seen, and of that it made what it had made
  abbrev pub HasSeenAsMuch : Seat M T Change ℕ B G K → Seat M T Change ℕ B G K → Type 0
  HasSeenAsMuch old new = ((view new).seen ≡ (view old).seen) × ((view new).mine ≡ (view old).mine)
