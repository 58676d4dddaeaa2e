-- Inner calls of workers: what one needs, what it comes to, and what is told of it.
use Rattle.std.specs.Prelude.{◌≡◌, ◌⊎◌, ℕ, ◌<◌, false, List, ◌++◌, length, Option, Some, None, Result, Ok, Err, slice_get}
use Rattle.nfs_model.specs.Tree.{Layout, range_blocks_of}
use Rattle.nfs_model.specs.Parts.{Hand, Empty, batch_in}
use Rattle.nfs_model.specs.World.{Setup, World}
use Rattle.nfs_laws.specs.Sizes.{HaveSizes}
use Rattle.nfs_model.specs.Events.Refusals as events
use Rattle.nfs_model.specs.Events.Refusals.{excluded, is_range_in_use}
use Rattle.affinity.specs.Fault.{fault_of}
use Rattle.affinity.specs.Tree.{IsNode}
use Rattle.depot_rule.specs.Shares.{too_many}
use Rattle.desk.specs.laws.Books.{settled, stamps, IsIdle, IsTaken, HasHands, IsSettled}
use Rattle.desk.specs.laws.Calls.{IsWorn}
use Rattle.desk.specs.declared.refusal.BeginRefusal as desks
use Rattle.desk.specs.declared.refusal.BeginRefusal.TheVariants as refused
use Rattle.filer_state.specs.state.Jobs as jobs
use Rattle.filer_state.specs.state.Jobs.{InnerCall, Fetch, Cull, batches_in, inner_node, inner_volume}
use Rattle.filer_state.specs.state.Running.{IsRefusedIn}
use Rattle.filer_state.specs.state.Tree.{tree}
use Rattle.engine.specs.laws.Store.{FilerBooks, filer}
use Rattle.engine.specs.laws.Inner as laws
use Rattle.engine.specs.laws.Inner.{IsFree, HasMade, HasMoved}
use Rattle.service.specs.declared.job.Job.{Job}
use Rattle.service.specs.declared.job.JobReply.{JobReply}
use Rattle.service.specs.Jobs.{job_of, job_reply_of}
use Rattle.service.specs.Inner.{IsHandFor, MayLackMemory, call_to_put}
use Rattle.engine.specs.declared.event.Done.{Done}
use Rattle.engine.specs.declared.event.Refusal.{Refusal}
use Rattle.engine.specs.declared.event.Refusal.TheVariants.{Busy, Worn, NoSuchRange, NoMemory, NoWork}
use Rattle.engine.specs.declared.inner.Asked.{Asked}
use Rattle.engine.specs.declared.inner.Asked.TheVariants as asks
use Rattle.engine.specs.declared.state.State.{State}
use Rattle.engine.specs.declared.worker.WorkerRun.TheVariants.{Idle}
use Rattle.engine.specs.Workers.{worker_with}
use Rattle.engine.specs.Seen.{setup_in, world, answer_of}

-- ---- on a desk

module _ {P : Type 0} where
  -- a worker that was lent nothing may make an inner call with what is in its hand, which is one of all hands
  pub record MayMake (b : FilerBooks P Job JobReply) (worker : ℕ) (call : InnerCall) (hand : Hand) : Type 0 where
    pub lawful : fault_of b.layout ≡ None
    pub node : IsNode b.layout (inner_node call)
    pub idle : IsIdle b worker
    pub fits : IsHandFor (range_blocks_of b.layout (inner_volume call)) call hand
    pub few : stamps b < too_many
    pub others : List Hand
    pub hands : HasHands (filer job_of job_reply_of) b (batches_in hand ++ others)
    pub sound : IsSettled (filer job_of job_reply_of) b
    pub sized : HaveSizes b.layout (tree b.layout (settled b))

  -- it was made, and is in the history
  abbrev pub IsMade : FilerBooks P Job JobReply → InnerCall → Hand → JobReply → FilerBooks P Job JobReply → Type 0
  IsMade b call hand reply c = HasMade job_of job_reply_of b call hand reply c

  -- it wasn't: by what is lent, by the count of calls, or since the range that it would fetch from isn't in use, or for memory
  abbrev pub IsRefusedFor : FilerBooks P Job JobReply → InnerCall → Refusal → Type 0
  IsRefusedFor b call Busy = IsTaken b (inner_node call)
  IsRefusedFor b call Worn = IsWorn b (inner_node call)
  IsRefusedFor b call NoSuchRange = IsFree b call × IsRefusedIn b.layout (inner_node call) call (settled b)
  IsRefusedFor b call NoMemory = IsFree b call × MayLackMemory call
  IsRefusedFor b call other = ⊥

-- ---- what is told

abbrev pub hand_after : jobs.JobReply → Hand
hand_after reply = laws.hand_after reply

abbrev pub told_as : jobs.JobReply → events.Done
told_as (jobs.Took hand) = events.HandHas (length (batch_in hand))
told_as (jobs.Gave hand) = events.HasPut (length (batch_in hand))
told_as (jobs.Surveyed counts) = events.Surveyed counts
told_as (jobs.Replied reply) = events.HasReply

-- why an inner call is refused that a desk refused
abbrev pub refusal_by : desks.BeginRefusal → Refusal
refusal_by refused.Taken = Busy
refusal_by refused.Worn = Worn

-- ---- what is asked

-- the inner call that is asked of a worker with this in its hand, if there is one
abbrev pub call_asked : Layout → Asked → Hand → Option InnerCall
call_asked layout (asks.Fetch volume range) hand = Some (Fetch volume.0 range)
call_asked layout (asks.Cull volume) hand = Some (Cull volume.0)
call_asked layout asks.PutDown hand = call_to_put layout hand

-- its hand is empty, unless it is to be put down
abbrev pub FitsAsked : Asked → Hand → Type 0
FitsAsked (asks.Fetch volume range) hand = hand ≡ Empty
FitsAsked (asks.Cull volume) hand = hand ≡ Empty
FitsAsked asks.PutDown hand = Unit {0}

-- ---- in the engine

-- an idle worker may make an inner call with what is in its hand
pub record MayTend (s : State) (worker : ℕ) (call : InnerCall) : Type 0 where
  pub hand : Hand
  pub there : slice_get s.workers.items worker ≡ Some (worker_with Idle hand)
  pub fits : IsHandFor (range_blocks_of (setup_in s).layout (inner_volume call)) call hand
  pub node : IsNode (setup_in s).layout (inner_node call)

-- the range that it would fetch from isn't in use
abbrev pub IsOutOfUse : World → InnerCall → Type 0
IsOutOfUse w (Fetch volume range) = is_range_in_use (slice_get w.server.volumes volume) range ≡ false
IsOutOfUse w call = ⊥

-- the number of its refusal: what excludes it, then a range out of use, then want of memory
abbrev pub Refuses : Setup → World → InnerCall → ℕ → Type 0
Refuses setup w call number =
    (excluded setup w (inner_node call) ≡ Some number)
    ⊎ ((number ≡ 41) × (excluded setup w (inner_node call) ≡ None) × IsOutOfUse w call)
    ⊎ ((number ≡ 90) × (excluded setup w (inner_node call) ≡ None) × MayLackMemory call)

-- an inner call as an event. A refused one changes nothing.
abbrev pub Happens : Setup → World → ℕ → InnerCall → Result events.Done ℕ → World → Type 0
Happens setup w worker call (Ok done) new =
    (excluded setup w (inner_node call) ≡ None) × (reply : jobs.JobReply) × HasMoved setup.layout w worker call reply new × (done ≡ told_as reply)
Happens setup w worker call (Err number) new = Refuses setup w call number × (new ≡ w)

abbrev pub Tends : State → ℕ → InnerCall → Result Done Refusal → State → Type 0
Tends s worker call answer new = Happens (setup_in s) (world s) worker call (answer_of answer) (world new)

-- ---- what is asked of a worker in the engine

-- an idle worker may be asked this
pub record MayAsk (s : State) (worker : ℕ) (asked : Asked) : Type 0 where
  pub hand : Hand
  pub there : slice_get s.workers.items worker ≡ Some (worker_with Idle hand)
  pub fits : FitsAsked asked hand
  pub may : (call : InnerCall) → call_asked (setup_in s).layout asked hand ≡ Some call → MayTend s worker call

-- the inner call that was asked was made or refused; where there was none, it was refused, and all is as it was
abbrev pub HasAsked : State → ℕ → Option InnerCall → Result Done Refusal → State → Type 0
HasAsked s worker (Some call) answer new = Tends s worker call answer new
HasAsked s worker None answer new = (answer ≡ Err NoWork) × (world new ≡ world s)
