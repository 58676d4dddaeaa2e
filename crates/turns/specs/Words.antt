-- Words on workers.
use Rattle.std.specs.Prelude.{◌≡◌, ◌+◌, ◌<◌, ℕ, List, length, Some, IfSome}
use Rattle.nfs_model.specs.Tree as trees
use Rattle.nfs_model.specs.Tree.{Logical, Range}
use Rattle.nfs_model.specs.Parts.{Hand, Empty, Fresh, Dead, range_of, IsBatch}
use Rattle.affinity.specs.declared.layout.Layout.{Layout}
use Rattle.affinity.specs.Tree.{IsNode}
use Rattle.depot_rule.specs.History.{entries_of}
use Rattle.depot.specs.Words as depots
use Rattle.depot.specs.Words.{IsSeatHere}
use Rattle.granted_calls.specs.declared.shared_waiting.pass.SharedWaiting.{SharedWaiting}
use Rattle.granted_calls.specs.shared_waiting.Passes as passes
use Rattle.granted_calls.specs.shared_waiting.Passes.{IsOf}
use Rattle.granted_calls.specs.declared.shared.Filer.{Filer}
use Rattle.turns.specs.declared.worker.Worker.{Worker}
use Rattle.granted_calls.specs.Messages.{IsPlaced, Message}
use Rattle.granted_calls.specs.Balance.{Passed, FilerView, FilerEntry}
use Rattle.granted_calls.specs.Filers.{layout_in, verifier_in, layout_known, HasOpened}

-- what its seat knows
abbrev pub seat_view : Worker → FilerView
seat_view w = depots.view w.seat

-- what its pass has put and picked
abbrev pub passed : Worker → Passed
passed w = passes.known w.pass

-- the calls that its seat finished
abbrev pub entries_in : Worker → List FilerEntry
entries_in w = entries_of (seat_view w)

-- how many more seats can be split off from its own, and the seat itself
abbrev pub seats_in : Worker → ℕ
seats_in w = depots.splits_left w.seat + 1

-- a worker takes its messages from this queue
abbrev pub TakesFrom : SharedWaiting Message Layout → Worker → Type 0
TakesFrom queue w = IsOf queue w.pass

-- It has the same seat and the same in its hand, keeps the same, and its pass has put and picked the same. How it uses its queue may differ,
-- and of what it knows of a stock nothing is said.
pub record IsSameWorker (before after : Worker) : Type 0 where
  pub seat : after.seat ≡ before.seat
  pub pass : passed after ≡ passed before
  pub hand : after.hand ≡ before.hand
  pub kept : after.kept ≡ before.kept

-- a batch is of one range of a volume of the layout, by the volume's size; of a dead one the range is there
abbrev pub IsHandIn : trees.Layout → Hand → Type 0
IsHandIn layout Empty = Unit {0}
IsHandIn layout (Fresh volume blocks) = IsNode layout (Logical volume) × (0 < length blocks)
    × IsBatch (trees.range_blocks_of layout volume) (range_of (trees.range_blocks_of layout volume) blocks) blocks
IsHandIn layout (Dead volume blocks) = IsNode layout (Range volume (range_of (trees.range_blocks_of layout volume) blocks)) × (0 < length blocks)
    × IsBatch (trees.range_blocks_of layout volume) (range_of (trees.range_blocks_of layout volume) blocks) blocks

-- a worker is of this filer and takes its messages from this queue: its seat, its pass, what is in its hand and what it keeps
pub record IsAt (filer : Filer) (queue : SharedWaiting Message Layout) (w : Worker) : Type 0 where
  pub seat : IsSeatHere filer.depot w.seat
  pub opened : HasOpened (layout_in filer) (verifier_in filer) (seat_view w)
  pub pass : IsOf queue w.pass
  pub layout : layout_known (passed w) ≡ Some (layout_in filer)
  pub hand : IsHandIn (layout_in filer) w.hand
  pub kept : IfSome w.kept (IsPlaced (layout_in filer))

-- and this queue is the filer's own
abbrev pub IsIn : Filer → Worker → Type 0
IsIn filer w = IsAt filer filer.waiting w
