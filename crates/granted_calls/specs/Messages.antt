-- Messages to workers.
use Rattle.std.specs.Prelude.{◌≤◌, ℕ, Bool, length}
use Rattle.nfs_model.specs.Tree as trees
use Rattle.nfs_values.specs.Call.{call_of}
use Rattle.nfs_values.specs.declared.call.Call.{Call}
use Rattle.nfs_values.specs.declared.moment.Moment.{Moment}
use Rattle.nfs_values.specs.declared.number.ConnectionNumber.{ConnectionNumber}
use Rattle.rpc_msg.specs.declared.record.DecodedCall.{DecodedCall}
use Rattle.affinity.specs.declared.affinity.CallNode.{CallNode}
use Rattle.affinity.specs.declared.layout.Layout.{Layout}
use Rattle.affinity.specs.Affinity.{call_node}
use Rattle.affinity.specs.Layout.{layout_of}
use Rattle.affinity.specs.Tree.{IsNode}
use Rattle.rpc_msg.specs.Room.{reply_room}
use Rattle.service.specs.Running.{IsRunAt}
use Rattle.service.specs.declared.job.ServedCall.{ServedCall}
use Rattle.scheduler.specs.declared.message.Message as scheduler

-- a call that waits for a worker, with the room of its reply
abbrev pub Message : Type 0
Message = scheduler.Message Call

-- a call of a record, as its entry has it
abbrev pub served_as : ConnectionNumber → ℕ → ℕ → DecodedCall → CallNode → Moment → Bool → ServedCall
served_as connection number xid asked affinity moment starved = record {
  connection = connection;
  number = number;
  xid = xid;
  call = asked.call;
  caller = asked.caller;
  affinity = affinity;
  moment = moment;
  starved = starved;
}

-- the message of a call, with this room for its reply
abbrev pub message_of_call : ServedCall → ℕ → Message
message_of_call s room = record {
  origin = record { connection = s.connection; number = s.number; xid = s.xid };
  call = s.call;
  caller = s.caller;
  affinity = s.affinity;
  room = room;
}

-- a message tries a node of the layout at which its call is run, and each reply to the call fits its room
pub record IsPlaced (layout : trees.Layout) (m : Message) : Type 0 where
  pub node : IsNode layout (call_node m.affinity)
  pub run : IsRunAt layout m.call (call_node m.affinity)
  pub room : reply_room (length layout.volumes) (call_of m.call) ≤ m.room

-- it tries another node
abbrev pub readdressed : CallNode → Message → Message
readdressed to m = record m { affinity = to }

abbrev pub Fits : Layout → Message → Type 0
Fits layout m = IsPlaced (layout_of layout) m
