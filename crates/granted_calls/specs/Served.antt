-- What comes of a message on a seat, and what a turn says of who stood so.
use Rattle.std.specs.Prelude.{◌≡◌, ◌⊎◌, ℕ, Bool, List, [], ◌∷◌, ◌++◌, Option, Some, None}
use Rattle.crossbeam_queue.specs.Fifo.{Held}
use Rattle.nfs_model.specs.Tree.{Layout}
use Rattle.nfs_model.specs.Types.{Ask}
use Rattle.nfs_model.specs.Parts.{Hand}
use Rattle.nfs_values.specs.Call.{call_of}
use Rattle.nfs_values.specs.Caller.{caller_of}
use Rattle.nfs_values.specs.Moment.{moment_of}
use Rattle.nfs_values.specs.declared.moment.Moment.{Moment}
use Rattle.affinity.specs.declared.affinity.CallNode.{CallNode}
use Rattle.affinity.specs.Affinity.{call_affinity, call_node}
use Rattle.affinity.specs.Numbers.{number_of}
use Rattle.depot_rule.specs.History.{Behaviour, behaviour, entries_of}
use Rattle.depot_rule.specs.Plays.{HasAdded}
use Rattle.depot.specs.Grants.{IsBegun, IsAfter, IsEnded, IsRefused}
use Rattle.depot.specs.declared.grants.GrantRefusal.TheVariants as refusals
use Rattle.filer_state.specs.state.Jobs as jobs
use Rattle.filer_state.specs.state.Parcels.{FilerParcel}
use Rattle.filer_state.specs.state.Running.{MovesTo}
use Rattle.filer_state.specs.state.Sound.{IsFiler}
use Rattle.filer_state.specs.declared.files.Files.{Files}
use Rattle.outboxes.specs.Boxes.{Addressed}
use Rattle.service.specs.Jobs.{job_steps, job_takes, job_gives, job_reply_of}
use Rattle.service.specs.declared.job.Job.{Job}
use Rattle.service.specs.declared.job.Job.TheVariants.{Serve}
use Rattle.service.specs.declared.job.JobReply.{JobReply}
use Rattle.service.specs.declared.job.ServedCall.{ServedCall}
use Rattle.granted_calls.specs.shared_waiting.Balance.{Leaves}
use Rattle.granted_calls.specs.declared.turned.Turn.{Turn}
use Rattle.granted_calls.specs.declared.turned.Turn.TheVariants as turns
use Rattle.granted_calls.specs.declared.turned.Served.{Served}
use Rattle.granted_calls.specs.declared.turned.Served.TheVariants as served
use Rattle.granted_calls.specs.Messages.{IsPlaced, Message}
use Rattle.granted_calls.specs.Moments.{RunsAt}
use Rattle.granted_calls.specs.Balance.{Passed, FilerView, FilerEntry}

-- what a filer's depot serves
abbrev pub filer_behaviour : Behaviour (FilerParcel Files) Job JobReply Hand
filer_behaviour = behaviour job_steps job_takes job_gives IsFiler

-- ---- messages

-- the pass has the share of the whole that it had, and its queue is of the same layout
abbrev pub HasShareOf : Passed → Passed → Type 0
HasShareOf v w = (w.share ≡ v.share) × (w.halvings ≡ v.halvings) × (w.key ≡ v.key)

-- the message is the one that was kept, or else one that was picked
abbrev pub IsNext : Passed → Option Message → Passed → Message → Type 0
IsNext before kept after m = ((kept ≡ Some m) × (after.picked ≡ before.picked)) ⊎ ((kept ≡ None) × (after.picked ≡ before.picked ++ m ∷ []))

-- the message was put by this pass, or the queue was full and it is kept
abbrev pub WaitsAgain : Passed → Passed → Option Message → Message → Type 0
WaitsAgain before after kept m = ((after.put ≡ before.put ++ m ∷ []) × (kept ≡ None))
    ⊎ ((after.put ≡ before.put) × (kept ≡ Some m) × Held 1024 (Leaves after))

-- what is there after a look for a message: the next one, or none, where none was kept and the pass found none in the queue
abbrev pub HasNext : Passed → Option Message → Passed → Option Message → Type 0
HasNext before kept after None = (kept ≡ None) × (after ≡ before) × Held 0 (Leaves before)
HasNext before kept after (Some m) = IsNext before kept after m

-- what is kept after a message was put, if one was kept
abbrev pub HasPut : Passed → Option Message → Passed → Option Message → Type 0
HasPut before None after kept = (kept ≡ None) × (after ≡ before)
HasPut before (Some m) after kept = WaitsAgain before after kept m

-- ---- calls on the depot

-- a message's call as it is finished, under what the message tried, which ran at a moment
abbrev pub served_of_message : Message → Moment → Bool → ServedCall
served_of_message m moment starved = record {
  connection = m.origin.connection;
  number = m.origin.number;
  xid = m.origin.xid;
  call = m.call;
  caller = m.caller;
  affinity = m.affinity;
  moment = moment;
  starved = starved;
}

-- and as the filer's history has it
abbrev pub job_of_message : Message → Moment → Bool → Job
job_of_message m moment starved = Serve (served_of_message m moment starved)

-- the entry is of the message's call, and the answer is its reply, under the xid of the message and to its connection
pub record IsEntryOf (m : Message) (moment : Moment) (a : Addressed) (e : FilerEntry) : Type 0 where
  pub starved : Bool
  pub call : e.call ≡ job_of_message m moment starved
  pub reply : job_reply_of e.reply ≡ jobs.Replied a.message.reply
  pub connection : a.connection ≡ m.origin.connection.0
  pub xid : a.message.xid ≡ m.origin.xid

-- a seat made one entry more, of the message's call, which ran at a moment or later: the seat has seen a legal history, from the same
-- beginning, of all that it had seen, what others put between, and the entry
pub record HasFinished (v : FilerView) (m : Message) (least : Moment) (a : Addressed) (w : FilerView) : Type 0 where
  pub moment : Moment
  pub at : RunsAt m.call least moment
  pub entry : FilerEntry
  pub is : IsEntryOf m moment a entry
  pub entries : entries_of w ≡ entries_of v ++ entry ∷ []
  pub between : List FilerEntry
  pub added : HasAdded filer_behaviour v between entry
  pub tree : w.tree ≡ v.tree
  pub first : w.first ≡ v.first
  pub seen : w.seen ≡ (v.seen ++ between) ++ entry ∷ []

-- The message's call, run at a moment or later, has to move to another node, as the parcels say that it was granted: the seat began a call
-- on what the message tries, and had just these parcels by that grant, as a history left them that begins with all that the seat had
-- seen; on them the call moves there; and the grant was put back, without an entry.
pub record HasMoved (layout : Layout) (v : FilerView) (m : Message) (least : Moment) (m' : Message) (w : FilerView) : Type 0 where
  pub moment : Moment
  pub at : RunsAt m.call least moment
  pub to : CallNode
  pub message : m' ≡ record m { affinity = to }
  pub placed : IsPlaced layout m'
  pub parcels : ℕ → Option (FilerParcel Files)
  pub holding : FilerView
  pub begun : IsBegun v (number_of layout (call_node m.affinity)) parcels holding
  pub granted : IsAfter filer_behaviour v (number_of layout (call_node m.affinity)) parcels
  pub moves : MovesTo layout (call_node m.affinity) (Ask (call_of m.call) (caller_of m.caller)) (moment_of moment) parcels (call_node to)
  pub ended : IsEnded holding (number_of layout (call_node m.affinity)) w

-- what came of a message on a seat
abbrev pub HasServed : Layout → FilerView → Message → Moment → Served → FilerView → Type 0
HasServed layout v m moment (served.Done a) w = HasFinished v m moment a w
HasServed layout v m moment (served.Moved m') w = HasMoved layout v m moment m' w × (entries_of w ≡ entries_of v)
HasServed layout v m moment (served.Refused back refusal) w =
    (back ≡ m) × (entries_of w ≡ entries_of v) × IsRefused layout v (call_affinity m.affinity) refusal w

-- ---- turns

-- what a turn says of a worker: what its seat and its pass know, and what it keeps
pub record Standing : Type 0 where
  pub view : FilerView
  pub pass : Passed
  pub kept : Option Message

-- no entry was made, and a message of the one that was tried waits again, or is kept
pub record HasReturnedFrom (before : Standing) (m m' : Message) (after : Standing) : Type 0 where
  pub next : IsNext before.pass before.kept after.pass m
  pub again : WaitsAgain before.pass after.pass after.kept m'
  pub entries : entries_of after.view ≡ entries_of before.view

-- one entry was made, of the message that was kept or picked, and nothing was put or is kept
pub record HasDoneFrom (before : Standing) (moment : Moment) (a : Addressed) (after : Standing) : Type 0 where
  pub message : Message
  pub next : IsNext before.pass before.kept after.pass message
  pub put : after.pass.put ≡ before.pass.put
  pub kept : after.kept ≡ None
  pub finished : HasFinished before.view message moment a after.view

-- no message was kept, and the pass found none in the queue
pub record WasIdleFrom (before after : Standing) : Type 0 where
  pub was_kept : before.kept ≡ None
  pub kept : after.kept ≡ None
  pub pass : after.pass ≡ before.pass
  pub found : Held 0 (Leaves before.pass)
  pub view : after.view ≡ before.view

-- what a turn at a moment did, by its answer
abbrev pub DidFrom : Layout → Standing → Moment → Turn → Standing → Type 0
DidFrom layout before moment (turns.Done a) after = HasDoneFrom before moment a after
DidFrom layout before moment turns.Moved after =
    (m m' : Message) × HasMoved layout before.view m moment m' after.view × HasReturnedFrom before m m' after
DidFrom layout before moment (turns.Busy at word) after = (m : Message) × HasReturnedFrom before m m after
    × IsRefused layout before.view (call_affinity m.affinity) (refusals.Busy at word) after.view
DidFrom layout before moment turns.Worn after = (m : Message) × HasReturnedFrom before m m after
    × IsRefused layout before.view (call_affinity m.affinity) refusals.Worn after.view
DidFrom layout before moment turns.Idle after = WasIdleFrom before after
