-- Events one after another (our profile).
use Rattle.std.specs.Prelude.{◌≡◌, ℕ, ◌+◌, ◌/◌, Bool, true, false, IsTrue, ◌⊎◌, List, [], ◌∷◌, ◌++◌, length}
use Rattle.std.specs.Prelude.{Option, Some, None, Result, Ok, Err, slice_get, slice_set}
use Rattle.std.specs.List.{remove}
use Rattle.nfs_model.specs.Types.{Moment, Reply, SystemError}
use Rattle.nfs_model.specs.Tree.{range_blocks_of}
use Rattle.nfs_model.specs.Server.{VolumeState}
use Rattle.nfs_model.specs.Replay.{FinishedCall}
use Rattle.nfs_model.specs.Parts.{Parts, Hand, Empty, Fresh, Dead}
use Rattle.nfs_model.specs.Moves.{Carrying, Fetches, Culls, PutsDown, Surveys}
use Rattle.nfs_model.specs.Work.{Store, Outcome, Replied, Starved, Moved, Works}
use Rattle.nfs_model.specs.World.{Setup, World, Connection, Message, Running, Worker, store_of, task_of}
use Rattle.nfs_model.specs.World.{changed_at, with_running, with_hand, finish}
use Rattle.nfs_model.specs.Events.Refusals.{Event, Open, Feed, Close, Begin, Work, Finish, Fetch, Cull}
use Rattle.nfs_model.specs.Events.Refusals.{PutDown, Survey, Done, Opened, Fed, IsClosed, Granted, HasReply}
use Rattle.nfs_model.specs.Events.Refusals.{HasMove, IsStarved, Written, IsBack, HandHas, HasPut, Surveyed}
use Rattle.nfs_model.specs.Events.Refusals.{refusal, may_lack_memory}
use Rattle.nfs_model.specs.Events.Feed.{Feeds, feeding}

-- a connection as it is opened
abbrev pub new_connection : Connection
new_connection = record { stream = []; closed = None; output = [] }

-- a connection closed when this many calls were finished
abbrev pub with_closed : ℕ → Connection → Connection
with_closed count x = record x { closed = Some count }

-- a waiting message is begun by a worker
abbrev pub begun : World → ℕ → ℕ → Message → Moment → World
begun w worker place m moment = record w {
  waiting = remove w.waiting place;
  workers = changed_at (with_running (Some (record { message = m; moment = moment; outcome = None }))) w.workers worker;
}

-- a worker's message was worked, with what calls run on after it
abbrev pub worked : World → ℕ → Running → Outcome → Store → World
worked w worker r o store = record w {
  workers = changed_at (with_running (Some (record r { outcome = Some o }))) w.workers worker;
  server = store.server;
  parts = store.parts;
}

-- what Work answers
abbrev pub done_of : Outcome → Done
done_of (Replied reply) = HasReply
done_of Starved = IsStarved
done_of (Moved a) = HasMove a

-- ---- finishing

-- a running call as it is finished
abbrev pub finished_call : Running → Bool → FinishedCall
finished_call r starved =
    record {
      connection = r.message.connection;
      number = r.message.number;
      xid = r.message.xid;
      asked = r.message.asked;
      affinity = Some r.message.affinity;
      moment = r.moment;
      starved = starved;
    }

-- a worker that runs nothing more
abbrev pub without_call : World → ℕ → World
without_call w worker = record w { workers = changed_at (with_running None) w.workers worker }

-- one more stamp
abbrev pub stamp_added : World → World
stamp_added w = record w { stamps = w.stamps + 1 }

-- Finish, by the outcome: a moved message waits again, at the end; another is finished
abbrev pub finished_by : Setup → World → ℕ → Running → Outcome → World
finished_by setup w worker r (Replied reply) =
    finish setup (stamp_added (without_call w worker)) (finished_call r false) reply
finished_by setup w worker r Starved =
    finish setup (stamp_added (without_call w worker)) (finished_call r true) SystemError
finished_by setup w worker r (Moved a) =
    record (without_call w worker) { waiting = w.waiting ++ (record r.message { affinity = a }) ∷ [] }

-- the bytes that a reply adds, where its connection is open
abbrev pub bytes_unless : Option ℕ → List ℕ → List ℕ
bytes_unless None bytes = bytes
bytes_unless (Some n) bytes = []

-- none where there is no connection
abbrev pub bytes_if_open : Option Connection → List ℕ → List ℕ
bytes_if_open None bytes = []
bytes_if_open (Some x) bytes = bytes_unless x.closed bytes

-- what a reply adds to its connection
abbrev pub bytes_of_reply : Setup → World → Message → Reply → List ℕ
bytes_of_reply setup w m reply =
    bytes_if_open (slice_get w.connections m.connection) (setup.codec.reply_record m.xid reply)

-- what Finish answers
abbrev pub told_of : Setup → World → Running → Outcome → Done
told_of setup w r (Replied reply) =
    Written r.message.connection (length (bytes_of_reply setup w r.message reply))
told_of setup w r Starved =
    Written r.message.connection (length (bytes_of_reply setup w r.message SystemError))
told_of setup w r (Moved a) = IsBack

-- ---- inner calls

-- what a worker's inner call works on: its hand, and the parts of a volume
abbrev pub Carries : World → ℕ → ℕ → Carrying → Type 0
Carries w worker volume c =
    (k : Worker) × (slice_get w.workers worker ≡ Some k) × (k.hand ≡ c.hand)
    × (slice_get w.parts volume ≡ Some c.parts)

-- the world after it, under one stamp
abbrev pub carried : World → ℕ → ℕ → Carrying → World
carried w worker volume c =
    record (stamp_added w) {
      workers = changed_at (with_hand c.hand) w.workers worker;
      parts = slice_set w.parts volume c.parts;
    }

-- the volume of a batch
abbrev pub hand_volume : Hand → ℕ
hand_volume Empty = 0
hand_volume (Fresh volume blocks) = volume
hand_volume (Dead volume blocks) = volume

-- ---- what an event that isn't refused answers and does

-- the answer and the world after it; of Begin, Work and Finish also whose call it is
abbrev pub Happens : Setup → World → Event → Done → World → Type 0
Happens setup w Open done new =
    (done ≡ Opened (length w.connections))
    × (new ≡ record w { connections = w.connections ++ new_connection ∷ [] })
Happens setup w (Feed connection bytes) done new =
    (taken : ℕ) × (stop : ℕ) × (done ≡ Fed taken stop) × Feeds setup (feeding connection bytes taken stop) w new
Happens setup w (Close connection) done new =
    (done ≡ IsClosed)
    × (new ≡ record w { connections = changed_at (with_closed (length w.finished)) w.connections connection })
Happens setup w (Begin worker place moment) done new =
    (m : Message) × (slice_get w.waiting place ≡ Some m) × (done ≡ Granted m.affinity)
    × (new ≡ begun w worker place m moment)
Happens setup w (Work worker) done new =
    (k : Worker) × (r : Running) × (o : Outcome) × (after : Store)
    × (slice_get w.workers worker ≡ Some k) × (k.running ≡ Some r) × Works (task_of r) (store_of w) o after
    × (done ≡ done_of o) × (new ≡ worked w worker r o after)
Happens setup w (Finish worker) done new =
    (k : Worker) × (r : Running) × (o : Outcome)
    × (slice_get w.workers worker ≡ Some k) × (k.running ≡ Some r) × (r.outcome ≡ Some o)
    × (done ≡ told_of setup w r o) × (new ≡ finished_by setup w worker r o)
Happens setup w (Fetch worker volume range) done new =
    (before : Carrying) × (after : Carrying) × (count : ℕ)
    × Carries w worker volume before
    × Fetches (range_blocks_of setup.layout volume) volume range count before after
    × (done ≡ HandHas count) × (new ≡ carried w worker volume after)
Happens setup w (Cull worker volume) done new =
    (before : Carrying) × (after : Carrying) × (count : ℕ)
    × Carries w worker volume before
    × Culls (range_blocks_of setup.layout volume) volume count before after
    × (done ≡ HandHas count) × (new ≡ carried w worker volume after)
Happens setup w (PutDown worker) done new =
    (before : Carrying) × (after : Carrying) × (count : ℕ)
    × Carries w worker (hand_volume before.hand) before × PutsDown count before after
    × (done ≡ HasPut count) × (new ≡ carried w worker (hand_volume before.hand) after)
Happens setup w (Survey worker volume) done new =
    (v : VolumeState) × (p : Parts) × (told : List ℕ)
    × (slice_get w.server.volumes volume ≡ Some v) × (slice_get w.parts volume ≡ Some p)
    × Surveys (range_blocks_of setup.layout volume) (v.total / v.range_blocks) p told
    × (done ≡ Surveyed told) × (new ≡ stamp_added w)

-- the refusal's number, or 90 for want of memory
abbrev pub Refuses : Setup → World → Event → ℕ → Type 0
Refuses setup w event number =
    (refusal setup w event ≡ Some number)
    ⊎ ((number ≡ 90) × (refusal setup w event ≡ None) × IsTrue (may_lack_memory w event))

-- One event. A refused one changes nothing.
abbrev pub Events : Setup → World → Event → Result Done ℕ → World → Type 0
Events setup old event (Ok done) new = (refusal setup old event ≡ None) × Happens setup old event done new
Events setup old event (Err number) new = Refuses setup old event number × (new ≡ old)

-- a list of events, each answered or refused
abbrev pub Runs : Setup → World → List Event → World → Type 0
Runs setup old [] new = new ≡ old
Runs setup old (e ∷ es) new =
    (answer : Result Done ℕ) × (middle : World)
    × Events setup old e answer middle × Runs setup middle es new
