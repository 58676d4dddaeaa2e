-- A message that ends: the entry that it makes, and what becomes of its connection.
use Rattle.std.specs.Prelude.{◌≡◌, ℕ, ◌+◌, Bool, List, length, Some, slice_get, slice_set}
use Rattle.nfs_model.specs.Types as types
use Rattle.nfs_model.specs.World.{Setup, World, finish, changed_at}
use Rattle.nfs_model.specs.Events.Step.{bytes_if_open}
use Rattle.nfs_values.specs.declared.call.Call.{Call}
use Rattle.nfs_values.specs.declared.reply.Reply.{Reply}
use Rattle.nfs_values.specs.declared.moment.Moment.{Moment}
use Rattle.nfs_values.specs.Moment.{moment_of}
use Rattle.affinity.specs.declared.affinity.CallNode.{CallNode}
use Rattle.scheduler.specs.declared.message.Origin.{Origin}
use Rattle.scheduler.specs.declared.message.Message.{Message}
use Rattle.service.specs.declared.job.Job.{Job}
use Rattle.service.specs.declared.job.Job.TheVariants.{Serve}
use Rattle.nfs_values.specs.declared.call.Call.{Call}
use Rattle.nfs_values.specs.declared.caller.Caller.{Caller}
use Rattle.service.specs.declared.job.ServedCall.{ServedCall}
use Rattle.service.specs.declared.job.JobReply.{JobReply}
use Rattle.service.specs.declared.job.JobReply.TheVariants.{Replied}
use Rattle.engine_feed.specs.declared.state.CallsState.{CallsState}
use Rattle.engine_feed.specs.declared.state.ConnectionState.{ConnectionState}
use Rattle.engine_feed.specs.Codec.{reply_record}
use Rattle.engine_feed.specs.Seen.{owed_by, finished_message}
use Rattle.engine_feed.specs.Within.{Shows, with_calls}
use Rattle.slab.specs.Slab.{Slab, slab_len}
use Rattle.engine.specs.declared.connection.Connection.{Connection}
use Rattle.engine.specs.Connections.{Held, Open, held_by, AreKeyed}
use Rattle.engine.specs.declared.worker.Running.{Running}
use Rattle.engine.specs.Seen.{connection_seen}

-- ---- the entry

abbrev pub served_made : Origin → Call → Caller → CallNode → Moment → Bool → ServedCall
served_made origin call caller affinity moment starved = record {
  connection = origin.connection;
  number = origin.number;
  xid = origin.xid;
  call = call;
  caller = caller;
  affinity = affinity;
  moment = moment;
  starved = starved;
}

abbrev pub job_made : Running → Bool → Job
job_made r starved =
    Serve (served_made r.message.origin r.message.call r.message.caller r.message.affinity r.moment starved)

abbrev pub answer_made : Reply → JobReply
answer_made reply = Replied reply

-- ---- the connection

-- a message is finished in every world of which these calls and its connection are a part, by each codec that spells its reply as this one
-- is told, and this many bytes were written
abbrev pub EndsIn : CallsState → Held → Running → types.Reply → Bool → ℕ → CallsState → Held → Type 0
EndsIn calls place r told starved count calls' place' =
    (setup : Setup) (w : World) (reply : types.Reply)
    → setup.codec.reply_record r.message.origin.xid reply ≡ reply_record r.message.origin.xid told → Shows calls w
    → slice_get w.connections r.message.origin.connection.0 ≡ Some (connection_seen place)
    → (record (with_calls calls' w) { connections = changed_at (λ x. connection_seen place') w.connections r.message.origin.connection.0 }
    ≡ finish setup w (finished_message r.message (moment_of r.moment) starved) reply)
    × (count ≡ length (bytes_if_open (Some (connection_seen place)) (reply_record r.message.origin.xid told)))

-- where it is open, it owes the room of the reply no more
abbrev pub OwesLess : Message Call → Held → Held → Type 0
OwesLess m old new = (x : ConnectionState) → new ≡ Open x → (y : ConnectionState) × (old ≡ Open y) × (owed_by y ≡ owed_by x + m.room)

-- the connection of its number, of a list whose open ones a slab keeps
pub record EndsAmong (calls : CallsState) (cs : List Connection) (slab : Slab ConnectionState) (r : Running) (told : types.Reply) (starved : Bool)
    (count : ℕ) (calls' : CallsState) (slab' : Slab ConnectionState) : Type 0 where
  pub place : Held
  pub left : Held
  pub at : slice_get (held_by cs slab) r.message.origin.connection.0 ≡ Some place
  pub put : held_by cs slab' ≡ slice_set (held_by cs slab) r.message.origin.connection.0 left
  pub ends : EndsIn calls place r told starved count calls' left
  pub owes : OwesLess r.message place left
  pub keyed : AreKeyed cs slab'
  pub opened : slab_len slab' ≡ slab_len slab
