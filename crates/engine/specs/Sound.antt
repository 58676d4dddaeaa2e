-- What holds of an engine's fields beside what is seen of them: the desk's books stand for the world, each worker's message may be
-- ended, and the replies that are owed have their room.
use Rattle.std.specs.Prelude.{◌==◌, ◌≡◌, ℕ, ◌+◌, ◌^◌, ◌≤◌, ◌<◌, List, [], ◌∷◌, ◌++◌, map, length, if◌then◌else◌, Some, slice_get}
use Rattle.std.specs.List.{AllByRecursion}
use Rattle.nfs_model.specs.Types.{SystemError}
use Rattle.nfs_model.specs.Tree.{Layout, range_blocks_of}
use Rattle.nfs_model.specs.Parts.{Hand, Empty, Fresh, Dead, range_of, most_ranges, IsBatch}
use Rattle.nfs_model.specs.Events.Refusals.{open_count}
use Rattle.nfs_values.specs.declared.call.Call.{Call}
use Rattle.nfs_values.specs.Reply.{reply_of}
use Rattle.affinity.specs.Affinity.{call_node}
use Rattle.affinity.specs.Tree.{IsNode}
use Rattle.depot_rule.specs.Sums.{total}
use Rattle.scheduler.specs.declared.message.Message.{Message}
use Rattle.desk.specs.laws.Books.{stamps}
use Rattle.desk.specs.Words.{books, IsKept}
use Rattle.service.specs.Jobs.{job_of, job_reply_of}
use Rattle.service.specs.Running.{IsRunAt}
use Rattle.service.specs.declared.outcome.Outcome.{Outcome}
use Rattle.service.specs.declared.outcome.Outcome.TheVariants.{Replied, Starved, Moved}
use Rattle.engine.specs.laws.Store.{StandsFor}
use Rattle.rpc_msg.specs.declared.handle_form.HandleForm.{HandleForm}
use Rattle.rpc_msg.specs.Handles.{reply_told}
use Rattle.engine_feed.specs.Codec.{reply_record}
use Rattle.engine_feed.specs.Seen.{owed_by, layout_in, messages_of, running_count}
use Rattle.engine_feed.specs.Sound.{IsAdmitted}
use Rattle.slab.specs.Slab.{slab_len}
use Rattle.engine.specs.Connections.{Open, AreKeyed}
use Rattle.engine.specs.declared.worker.Worker.{Worker}
use Rattle.engine.specs.declared.worker.WorkerRun.{WorkerRun}
use Rattle.engine.specs.declared.worker.WorkerRun.TheVariants.{Idle, Begun, Worked}
use Rattle.engine.specs.declared.state.State.{State}
use Rattle.engine.specs.Seen.{connection_seen, held_in, setup_in, world}

-- ---- messages

-- the message that a worker runs
abbrev pub messages_in : WorkerRun → List (Message Call)
messages_in Idle = []
messages_in (Begun r) = r.message ∷ []
messages_in (Worked r outcome) = r.message ∷ []

abbrev pub running_messages : List Worker → List (Message Call)
running_messages [] = []
running_messages (k ∷ ks) = messages_in k.run ++ running_messages ks

-- a message is of a connection that was opened, and tries an affinity at which its call is run
pub record IsPlaced (layout : Layout) (connections : ℕ) (m : Message Call) : Type 0 where
  pub admitted : IsAdmitted layout m
  pub known : m.origin.connection.0 < connections
  pub run : IsRunAt layout m.call (call_node m.affinity)

-- what a message came to may be told: its reply fits the room that is kept for it, however handles are told
abbrev pub MayEnd : Layout → Message Call → Outcome → Type 0
MayEnd layout m (Replied reply) = (form : HandleForm) → length (reply_record m.origin.xid (reply_told form (reply_of reply))) ≤ m.room
MayEnd layout m Starved = (form : HandleForm) → length (reply_record m.origin.xid (reply_told form SystemError)) ≤ m.room
MayEnd layout m (Moved a) = IsNode layout (call_node a) × IsRunAt layout m.call (call_node a)

abbrev pub IsRunReady : Layout → ℕ → WorkerRun → Type 0
IsRunReady layout connections Idle = Unit {0}
IsRunReady layout connections (Begun r) = IsPlaced layout connections r.message
IsRunReady layout connections (Worked r outcome) = IsPlaced layout connections r.message × MayEnd layout r.message outcome

-- a batch has blocks of one range of a volume that is there, by the volume's size; of a dead one the range is there
abbrev pub IsCarried : Layout → Hand → Type 0
IsCarried layout Empty = Unit {0}
IsCarried layout (Fresh volume blocks) = (volume < length layout.volumes) × (0 < length blocks)
    × IsBatch (range_blocks_of layout volume) (range_of (range_blocks_of layout volume) blocks) blocks
IsCarried layout (Dead volume blocks) = (volume < length layout.volumes) × (0 < length blocks)
    × (range_of (range_blocks_of layout volume) blocks < most_ranges)
    × IsBatch (range_blocks_of layout volume) (range_of (range_blocks_of layout volume) blocks) blocks

abbrev pub IsReady : Layout → ℕ → Worker → Type 0
IsReady layout connections k = IsRunReady layout connections k.run × IsCarried layout k.hand

-- ---- rooms

-- the room that a message keeps on a connection
abbrev pub room_on : ℕ → Message Call → ℕ
room_on c m = if m.origin.connection.0 == c then m.room else 0

-- the room that all messages keep on it
abbrev pub rooms_on : ℕ → State → ℕ
rooms_on c s = total (room_on c) (messages_of s.calls) + total (room_on c) (running_messages s.workers.items)

-- ---- all

pub record IsSoundEngine (s : State) : Type 0 where
  pub layout : (books s.desk).layout ≡ layout_in s.calls
  pub kept : IsKept s.desk
  pub stands : StandsFor job_of job_reply_of (setup_in s) (world s) (books s.desk)
  pub running : length (running_messages s.workers.items) ≡ running_count s.calls
  pub waiting : AllByRecursion (IsPlaced (layout_in s.calls) (length (held_in s))) (messages_of s.calls)
  pub workers : AllByRecursion (IsReady (layout_in s.calls) (length (held_in s))) s.workers.items
  pub few : length s.workers.items ≤ 64
  pub stamps : stamps (books s.desk) + running_count s.calls ≤ 2 ^ 62 + 64
  pub keyed : AreKeyed s.connections.items s.slab
  pub opened : slab_len s.slab ≡ open_count (map connection_seen (held_in s))
  pub owed : (c : ℕ) (x : _) → slice_get (held_in s) c ≡ Some (Open x) → owed_by x ≡ rooms_on c s
