-- The words in which the clauses speak of what is done to a state.
use Rattle.std.specs.Prelude.{◌≡◌, Result}
use Rattle.nfs_model.specs.Headline.{Kept}
use Rattle.nfs_model.specs.Events.Refusals as events
use Rattle.nfs_model.specs.Events.Step.{Events}
use Rattle.engine.specs.declared.event.Done.{Done}
use Rattle.engine.specs.declared.event.Refusal.{Refusal}
use Rattle.engine.specs.declared.state.State.{State}
use Rattle.engine.specs.Seen.{setup_in, world, answer_of}
use Rattle.engine.specs.Sound.{IsSoundEngine}

-- the event is the model's: it is refused and changes nothing, or answers and does what the model says
abbrev pub DoesEvent : State → events.Event → Result Done Refusal → State → Type 0
DoesEvent old event answer new = Events (setup_in old) (world old) event (answer_of answer) (world new)

-- what is fixed for a run stays
abbrev pub HasItsSetup : State → State → Type 0
HasItsSetup old new = setup_in new ≡ setup_in old

-- all that holds between events
abbrev pub IsWhole : State → Type 0
IsWhole s = IsSoundEngine s × Kept (setup_in s) (world s)
