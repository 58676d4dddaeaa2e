-- Connections and calls on their way, as the model has them.
use Rattle.std.specs.Prelude.{ℕ, ◌+◌, Bool, List, length, map, Option, Some, None, option_map}
use Rattle.nfs_model.specs.Types as types
use Rattle.nfs_model.specs.Tree as trees
use Rattle.nfs_model.specs.Replay as replays
use Rattle.nfs_model.specs.World as worlds
use Rattle.nfs_values.specs.declared.call.Call.{Call}
use Rattle.nfs_values.specs.Moment.{moment_of}
use Rattle.nfs_values.specs.Caller.{caller_of}
use Rattle.nfs_values.specs.Call.{call_of}
use Rattle.nfs_values.specs.Reply.{refusal_of}
use Rattle.affinity.specs.Affinity.{call_node}
use Rattle.affinity.specs.Layout as layouts
use Rattle.scheduler.specs.declared.message.Message.{Message}
use Rattle.scheduler.specs.declared.message.Origin.{Origin}
use Rattle.rpc_msg.specs.declared.record.Request.{Request}
use Rattle.rpc_msg.specs.declared.record.Request.TheVariants as requests
use Rattle.rpc_msg.specs.declared.record.Heard.{Heard}
use Rattle.engine_feed.specs.declared.message.FinishedCall.{FinishedCall}
use Rattle.engine_feed.specs.declared.state.ConnectionState.{ConnectionState}
use Rattle.engine_feed.specs.declared.state.CallsState.{CallsState}

-- ---- messages

abbrev pub asked_of : Request → types.Asked
asked_of (requests.Call call caller) = types.Ask (call_of call) (caller_of caller)
asked_of (requests.Refused refusal) = types.Refused (refusal_of refusal)
asked_of requests.Undecoded = types.Undecoded

abbrev pub heard_of : Heard → worlds.Heard
heard_of h = record { xid = h.xid; asked = asked_of h.request }

abbrev pub message_of : Message Call → worlds.Message
message_of m =
    record {
      connection = m.origin.connection.0;
      number = m.origin.number;
      xid = m.origin.xid;
      asked = types.Ask (call_of m.call) (caller_of m.caller);
      affinity = call_node m.affinity;
    }

abbrev pub entry_of : FinishedCall → replays.FinishedCall
entry_of e =
    record {
      connection = e.origin.connection.0;
      number = e.origin.number;
      xid = e.origin.xid;
      asked = asked_of e.request;
      affinity = option_map call_node e.affinity;
      moment = moment_of e.moment;
      starved = e.starved;
    }

-- a record's call as it is finished
abbrev pub entry_at : Origin → types.Asked → Option trees.Affinity → types.Moment → Bool → replays.FinishedCall
entry_at origin asked affinity moment starved =
    record {
      connection = origin.connection.0;
      number = origin.number;
      xid = origin.xid;
      asked = asked;
      affinity = affinity;
      moment = moment;
      starved = starved;
    }

-- a message as it is finished
abbrev pub finished_message : Message Call → types.Moment → Bool → replays.FinishedCall
finished_message m moment starved =
    entry_at m.origin (types.Ask (call_of m.call) (caller_of m.caller)) (Some (call_node m.affinity)) moment starved

-- ---- connections

abbrev pub connection_of : ConnectionState → worlds.Connection
connection_of c = record { stream = c.stream.items; closed = None; output = c.output.items }

-- the room that is kept in its output for the replies to its messages
abbrev pub owed_by : ConnectionState → ℕ
owed_by c = c.owed

-- ---- calls

abbrev pub layout_in : CallsState → trees.Layout
layout_in calls = layouts.layout_of calls.layout

-- what waits, in order
abbrev pub messages_of : CallsState → List (Message Call)
messages_of calls = calls.waiting

abbrev pub waiting_of : CallsState → List worlds.Message
waiting_of calls = map message_of calls.waiting

abbrev pub finished_of : CallsState → List replays.FinishedCall
finished_of calls = map entry_of calls.finished.items

abbrev pub running_count : CallsState → ℕ
running_count calls = calls.running

-- how many messages wait or run
abbrev pub pending : CallsState → ℕ
pending calls = length calls.waiting + calls.running
