-- What is seen of an engine: what is fixed for its run, the world, and the history of its seat, which is there for clauses alone.
use Rattle.std.specs.Prelude.{◌≡◌, ℕ, List, map, length, Result}
use Rattle.std.specs.List.{AllByRecursion}
use Rattle.nfs_model.specs.Tree.{Layout}
use Rattle.nfs_model.specs.Replay.{server_after}
use Rattle.nfs_model.specs.World.{Setup, World, all_running}
use Rattle.nfs_model.specs.Headline.{Headline, IsOutcome, start, opening_world}
use Rattle.nfs_model.specs.Events.Refusals as events
use Rattle.nfs_model.specs.Events.Step.{Events, Runs}
use Rattle.rpc_msg.specs.declared.offer.Offer.{Offer}
use Rattle.depot.specs.Words.{view}
use Rattle.desk.specs.Words.{books}
use Rattle.filer_state.specs.declared.files.Files.{Files}
use Rattle.service.specs.Jobs.{job_of, job_reply_of}
use Rattle.engine_feed.specs.Seen.{layout_in}
use Rattle.engine.specs.declared.event.Event.{Event}
use Rattle.engine.specs.declared.event.Done.{Done}
use Rattle.engine.specs.declared.event.Refusal.{Refusal}
use Rattle.engine.specs.declared.state.State.{State}
use Rattle.engine.specs.laws.History.{SeatHistory, IsHistory, entry_seen}
use Rattle.engine.specs.Engine.{RunsRefusing}
use Rattle.engine.specs.Seen as fields
use Rattle.engine.specs.Seen.{setup_of, event_of, answer_of}

pub record Shown : Type 0 where
  pub offer : Offer
  pub layout : Layout
  pub verifier : List ℕ
  pub workers : ℕ
  pub world : World
  pub history : SeatHistory Files

-- what the seat of the engine's desk has seen, with jobs and replies as the definitions have them
abbrev pub history_in : State → SeatHistory Files
history_in s = record { first = (view s.desk.seat).first; entries = map (entry_seen job_of job_reply_of) (books s.desk).entries }

abbrev pub shown : State → Shown
shown s = record {
  offer = s.offer;
  layout = layout_in s.calls;
  verifier = s.verifier.0;
  workers = length s.workers.items;
  world = fields.world s;
  history = history_in s;
}

abbrev pub setup_in : Shown → Setup
setup_in e = setup_of e.offer e.layout e.verifier e.workers

-- the event is the model's: it is refused and changes nothing, or answers and does what the model says
abbrev pub Does : Shown → events.Event → Result Done Refusal → Shown → Type 0
Does old event answer new = Events (setup_in old) old.world event (answer_of answer) new.world

-- what is fixed for a run stays
abbrev pub HasItsSetup : Shown → Shown → Type 0
HasItsSetup old new = setup_in new ≡ setup_in old

-- a list of events, of which this many were refused
abbrev pub HasRunEvents : Shown → List Event → ℕ → Shown → Type 0
HasRunEvents old es refused new = RunsRefusing (setup_in old) old.world (map event_of es) refused new.world

-- a list of events from the beginning
abbrev pub HasPlayed : List Event → Shown → Type 0
HasPlayed es new = Runs (setup_in new) (opening_world (setup_in new)) (map event_of es) new.world

-- what holds after every event
abbrev pub HasHeadline : Shown → Type 0
HasHeadline e = Headline (setup_in e) e.world

-- What a running call was worked to is what finishing it now would give, whatever was finished since it was worked: its reply is the
-- serial server's, after the calls that are finished by now.
abbrev pub HasOutcomes : Shown → Type 0
HasOutcomes e = AllByRecursion (λ r. IsOutcome (setup_in e) (server_after (start (setup_in e)) e.world.finished) r r.outcome) (all_running e.world.workers)

-- The engine's parcels are as the history of its seat left them, but for those of running messages, which are as they are now; and
-- the calls of that history are the finished ones that ran under an affinity, in order.
abbrev pub HasHistory : Shown → Type 0
HasHistory e = IsHistory e.layout (setup_in e) e.world e.history
