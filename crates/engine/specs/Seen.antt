-- The engine's fields as a world, and its events and answers as the world's.
use Rattle.std.specs.Prelude.{ℕ, List, [], map, length, Option, Some, None, Result, Ok, Err}
use Rattle.nfs_model.specs.Tree.{Layout}
use Rattle.nfs_model.specs.Work as tasks
use Rattle.nfs_model.specs.World as worlds
use Rattle.nfs_model.specs.Events.Refusals as events
use Rattle.rpc_msg.specs.declared.offer.Offer.{Offer}
use Rattle.nfs_values.specs.Moment.{moment_of}
use Rattle.affinity.specs.Affinity.{call_node}
use Rattle.desk.specs.laws.Books.{now, stamps}
use Rattle.desk.specs.Words.{books}
use Rattle.filer_state.specs.state.Contents.{filer_contents}
use Rattle.filer_state.specs.state.Tree.{server_of}
use Rattle.filer_state.specs.state.Partition.{all_parts}
use Rattle.service.specs.declared.outcome.Outcome.{Outcome}
use Rattle.service.specs.declared.outcome.Outcome.TheVariants as outcomes
use Rattle.service.specs.Running.{outcome_of}
use Rattle.engine_feed.specs.Numbers.{stop_number}
use Rattle.engine_feed.specs.Seen.{connection_of, message_of, layout_in, waiting_of, finished_of}
use Rattle.engine_feed.specs.Streams.{codec}
use Rattle.engine.specs.Connections.{Held, Open, Closed, Missing, held_by}
use Rattle.engine.specs.declared.worker.Running.{Running}
use Rattle.engine.specs.declared.worker.Worker.{Worker}
use Rattle.engine.specs.declared.worker.WorkerRun.{WorkerRun}
use Rattle.engine.specs.declared.worker.WorkerRun.TheVariants as runs
use Rattle.engine.specs.declared.state.State.{State}
use Rattle.engine.specs.declared.event.Event.{Event}
use Rattle.engine.specs.declared.event.Event.TheVariants as happened
use Rattle.engine.specs.declared.event.Done.{Done}
use Rattle.engine.specs.declared.event.Done.TheVariants as dones
use Rattle.engine.specs.declared.event.Refusal.{Refusal}
use Rattle.engine.specs.Numbers.{refusal_number}

-- ---- connections

abbrev pub connection_seen : Held → worlds.Connection
connection_seen (Open c) = connection_of c
connection_seen (Closed c) = record { stream = c.stream.items; closed = Some c.finished; output = c.output.items }
connection_seen Missing = record { stream = []; closed = Some 0; output = [] }

-- what each number of a state has
abbrev pub held_in : State → List Held
held_in s = held_by s.connections.items s.slab

-- ---- workers

-- a message that runs, with what it came to
abbrev pub running_as : Running → Option tasks.Outcome → worlds.Running
running_as r outcome = record { message = message_of r.message; moment = moment_of r.moment; outcome = outcome }

abbrev pub running_seen : WorkerRun → Option worlds.Running
running_seen runs.Idle = None
running_seen (runs.Begun r) = Some (running_as r None)
running_seen (runs.Worked r outcome) = Some (running_as r (Some (outcome_of outcome)))

abbrev pub worker_seen : Worker → worlds.Worker
worker_seen k = record { running = running_seen k.run; hand = k.hand }

-- ---- the world

-- what is fixed for a run of this many workers
abbrev pub setup_of : Offer → Layout → List ℕ → ℕ → worlds.Setup
setup_of offer layout verifier workers =
    record { codec = codec offer; layout = layout; verifier = verifier; workers = workers; connections = 64 }

abbrev pub setup_in : State → worlds.Setup
setup_in s = setup_of s.offer (layout_in s.calls) s.verifier.0 (length s.workers.items)

abbrev pub world : State → worlds.World
world s = record {
  connections = map connection_seen (held_in s);
  waiting = waiting_of s.calls;
  workers = map worker_seen s.workers.items;
  finished = finished_of s.calls;
  server = server_of (filer_contents (books s.desk).layout (now (books s.desk)));
  parts = all_parts (filer_contents (books s.desk).layout (now (books s.desk)));
  stamps = stamps (books s.desk);
}

-- ---- events

abbrev pub event_of : Event → events.Event
event_of happened.Open = events.Open
event_of (happened.Feed connection bytes) = events.Feed connection.0 bytes.now
event_of (happened.Close connection) = events.Close connection.0
event_of (happened.Begin worker place moment) = events.Begin worker.0 place (moment_of moment)
event_of (happened.Work worker) = events.Work worker.0
event_of (happened.Finish worker) = events.Finish worker.0
event_of (happened.Fetch worker volume range) = events.Fetch worker.0 volume.0 range
event_of (happened.Cull worker volume) = events.Cull worker.0 volume.0
event_of (happened.PutDown worker) = events.PutDown worker.0
event_of (happened.Survey worker volume) = events.Survey worker.0 volume.0

abbrev pub done_of : Done → events.Done
done_of (dones.Opened connection) = events.Opened connection.0
done_of (dones.Fed taken stop) = events.Fed taken (stop_number stop)
done_of dones.Closed = events.IsClosed
done_of (dones.Granted affinity) = events.Granted (call_node affinity)
done_of dones.Replied = events.HasReply
done_of dones.Starved = events.IsStarved
done_of (dones.Moved affinity) = events.HasMove (call_node affinity)
done_of (dones.Written connection count) = events.Written connection.0 count
done_of dones.PutBack = events.IsBack
done_of (dones.InHand count) = events.HandHas count
done_of (dones.PutDown count) = events.HasPut count
done_of (dones.Surveyed counts) = events.Surveyed counts.items

abbrev pub answer_of : Result Done Refusal → Result events.Done ℕ
answer_of (Ok done) = Ok (done_of done)
answer_of (Err refusal) = Err (refusal_number refusal)

-- ---- what is told of work

abbrev pub told_of : Outcome → Done
told_of (outcomes.Replied reply) = dones.Replied
told_of outcomes.Starved = dones.Starved
told_of (outcomes.Moved affinity) = dones.Moved affinity
