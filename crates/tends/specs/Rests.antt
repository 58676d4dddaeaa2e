-- What a worker's thread does without a message, and when it may sleep.
use Rattle.std.specs.Prelude.{◌≡◌, ◌≤◌, ℕ, ◌+◌, ◌*◌, ◌%◌, ◌^◌, ◌==◌, ◌&&◌, ◌||◌, nat_le, Bool, true, false, length, Result, Ok, Err, if◌then◌else◌}
use Rattle.nfs_model.specs.Tree.{Layout}
use Rattle.nfs_model.specs.Events.Refusals.{is_empty_hand}
use Rattle.tends.specs.declared.tending.Found.{Found}
use Rattle.tends.specs.declared.tending.Found.TheVariants as found
use Rattle.tends.specs.declared.tending.Tending.{Tending}
use Rattle.turns.specs.declared.tend.Tend.{Tend}
use Rattle.turns.specs.declared.tend.Tended.{Tended}
use Rattle.turns.specs.declared.tend.TendRefusal.{TendRefusal}
use Rattle.turns.specs.declared.tend.TendRefusal.TheVariants.{Busy, NoMemory}
use Rattle.turns.specs.declared.worker.Worker.{Worker}
use Rattle.turns.specs.Tends.{blocks_moved, hand_in, stocked_in, IsNextTend, Tends}

-- what a tend found, by its answer: a refusal because a node was taken says nothing of what is there
abbrev pub found_by : Result Tended TendRefusal → Found
found_by (Ok tended) = if blocks_moved tended == 0 then found.Nothing else found.Blocks
found_by (Err (Busy at word)) = found.Busy
found_by (Err NoMemory) = found.NoMemory
found_by (Err refusal) = found.Nothing

-- how many tends in a row moved nothing: at most one more, or none
abbrev pub IsUnchanged : ℕ → Found → ℕ → Type 0
IsUnchanged n found.Blocks m = m ≡ 0
IsUnchanged n other m = m ≤ n + 1

abbrev pub is_starved : Found → Bool
is_starved found.NoMemory = true
is_starved other = false

-- a tend with an empty hand, or a full one, was counted
pub record IsCounted (t : Tending) (empty : Bool) (what : Found) (t' : Tending) : Type 0 where
  pub made : t'.made ≡ (if empty then (t.made + 1) % 2 ^ 64 else t.made)
  pub unchanged : IsUnchanged t.unchanged what t'.unchanged
  pub starved : t'.starved ≡ is_starved what

-- a worker made the tend that was next, and it was counted by what it found
pub record HasTended (layout : Layout) (before : Worker) (t : Tending) (what : Found) (after : Worker) (t' : Tending) : Type 0 where
  pub tend : Tend
  pub next : IsNextTend (length layout.volumes) t.made (stocked_in before) (hand_in before) tend
  pub answer : Result Tended TendRefusal
  pub tends : Tends layout before tend answer after
  pub is : what ≡ found_by answer
  pub counted : IsCounted t (is_empty_hand (hand_in before)) what t'

-- tends over all volumes and ranges: for each range of each volume a fetch, or a cull where its stock has enough numbers, and a cull before it
abbrev pub all_tends : Layout → ℕ
all_tends layout = length layout.volumes * 32

-- a thread may sleep where tends over all volumes and ranges in a row moved nothing, and nothing is in the worker's hand, or
-- there was no memory to put it down
abbrev pub may_sleep : Layout → Worker → Tending → Bool
may_sleep layout w t = nat_le (all_tends layout) t.unchanged && (t.starved || is_empty_hand (hand_in w))
