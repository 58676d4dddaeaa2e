-- What serving a message does to the parcels under its affinity.
use Rattle.std.specs.Prelude.{◌≡◌, ℕ, true, false, List, Option, Some}
use Rattle.nfs_model.specs.Types.{SystemError}
use Rattle.nfs_model.specs.Tree.{Layout, Affinity}
use Rattle.nfs_model.specs.Parts.{Hand}
use Rattle.nfs_model.specs.Work.{Task, Outcome, Replied, Starved, Moved, move_of}
use Rattle.nfs_model.specs.World.{Running, task_of}
use Rattle.nfs_model.specs.Events.Step.{finished_call}
use Rattle.affinity.specs.Ancestors.{Covers}
use Rattle.affinity.specs.Numbers.{number_of, parents}
use Rattle.desk.specs.laws.Calls.{DoesTask}
use Rattle.filer_state.specs.state.Parcels.{FilerParcel}
use Rattle.filer_state.specs.state.Contents.{filer_contents}
use Rattle.filer_state.specs.state.Sound.{AllSound}
use Rattle.filer_state.specs.state.Jobs as jobs
use Rattle.filer_state.specs.state.Jobs.{Serve}
use Rattle.filer_state.specs.state.Deeds.{FilerSteps, stored_all}

module _ {P : Type 0} where
  -- parcels that agree under a node
  abbrev pub AgreeUnder : Layout → Affinity → (ℕ → Option (FilerParcel P)) → (ℕ → Option (FilerParcel P)) → Type 0
  AgreeUnder layout node g f = (k : ℕ) → Covers (parents layout) (number_of layout node) k → g k ≡ f k

  -- whatever the other parcels are, where all is sound, a task moves there
  abbrev pub MovesTo : Task → Layout → Affinity → (ℕ → Option (FilerParcel P)) → Affinity → Type 0
  MovesTo task layout node f to = (g : ℕ → Option (FilerParcel P)) (hands : List Hand) (made : ℕ)
      → AgreeUnder layout node g f → AllSound layout g hands made → move_of (stored_all (filer_contents layout g)) task ≡ Some to

  -- What serving a message comes to, by its outcome: a reply is that of a step of the filer, and so is SYSTEM_ERR where the call
  -- was starved; a message that has to move changes nothing.
  abbrev pub Serving : Running → DoesTask (FilerParcel P) Outcome
  Serving r layout node f (Replied reply) f' =
      FilerSteps (parents layout) (number_of layout node) (Serve (finished_call r false)) f (jobs.Replied reply) f'
  Serving r layout node f Starved f' =
      FilerSteps (parents layout) (number_of layout node) (Serve (finished_call r true)) f (jobs.Replied SystemError) f'
  Serving r layout node f (Moved to) f' = AgreeUnder layout node f' f × MovesTo (task_of r) layout node f to
