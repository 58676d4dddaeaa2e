-- An inner call of a worker, with what is in its hand (our profile).
use Rattle.std.specs.Prelude.{◌≡◌, ℕ, Bool, List, [], ◌∷◌, ◌++◌, length, Option, None, Result, Ok, Err}
use Rattle.nfs_model.specs.Tree.{Layout, range_blocks_of}
use Rattle.nfs_model.specs.Parts.{Hand, Empty, batch_in}
use Rattle.affinity.specs.declared.affinity.Affinity as codes
use Rattle.affinity.specs.declared.affinity.Affinity.TheVariants as nodes
use Rattle.affinity.specs.Numbers.{number_of}
use Rattle.affinity.specs.Tree.{IsNode}
use Rattle.parcels.specs.Exact.{kind_in}
use Rattle.depot_rule.specs.History.{after, put_in, listed, entries_of, AreHands}
use Rattle.depot_rule.specs.Plays.{HasAdded}
use Rattle.depot.specs.Grants.{IsAfter, IsRefused}
use Rattle.depot.specs.declared.grants.GrantRefusal.{GrantRefusal}
use Rattle.depot.specs.declared.grants.GrantRefusal.TheVariants as refusals
use Rattle.desk.specs.laws.Backing.{IsWhole, IsGranted, IsDone}
use Rattle.filer_state.specs.state.Contents.{filer_contents}
use Rattle.filer_state.specs.state.Deeds.{DoesInner}
use Rattle.filer_state.specs.state.Jobs as jobs
use Rattle.filer_state.specs.state.Jobs.{InnerCall, JobReply, Took, Gave, gives, batches_in, inner_node, inner_volume}
use Rattle.filer_state.specs.state.Parcels.{FilerParcel}
use Rattle.filer_state.specs.state.Running.{IsRefusedIn}
use Rattle.filer_state.specs.declared.files.Files.{Files}
use Rattle.service.specs.Inner.{IsHandFor, MayLackMemory, InnerHasRun, InnerOutcome}
use Rattle.service.specs.Jobs.{job_of, batch_reply_of, job_reply_of, job_takes, job_gives}
use Rattle.service.specs.declared.job.BatchReply.{BatchReply}
use Rattle.turns.specs.declared.tend.Carried.{Carried}
use Rattle.turns.specs.declared.tend.Carried.TheVariants.{Done, Refused}
use Rattle.turns.specs.declared.tend.TendRefusal.{TendRefusal}
use Rattle.turns.specs.declared.tend.TendRefusal.TheVariants.{Busy, Worn, NoSuchRange, NoMemory}
use Rattle.turns.specs.declared.tend.Tended.{Tended}
use Rattle.turns.specs.declared.tend.Tended.TheVariants as tendeds
use Rattle.granted_calls.specs.Balance.{FilerView, FilerEntry}
use Rattle.granted_calls.specs.Runs.{FilerLent}
use Rattle.turns.specs.Stocks.{stock_told}
use Rattle.granted_calls.specs.Served.{filer_behaviour}
use Rattle.granted_calls.specs.Filers.{HasOpened}

-- the node under which an inner call runs, as the code has it
abbrev pub node_tried : InnerCall → codes.Affinity
node_tried (jobs.Fetch v r) = nodes.Range v r
node_tried (jobs.Deliver v) = nodes.VolumeLogical v
node_tried (jobs.Cull v) = nodes.VolumeLogical v
node_tried (jobs.Free v r) = nodes.Range v r
node_tried (jobs.Survey v) = nodes.VolumeVbn v

-- ---- what it needs

-- its node is of the layout, its batch is in the hand if it gives one, and else the hand is empty
pub record FitsHand (layout : Layout) (call : InnerCall) (hand : Hand) : Type 0 where
  pub node : IsNode layout (inner_node call)
  pub fits : IsHandFor (range_blocks_of layout (inner_volume call)) call hand

-- and the seat's history began with the parcels of the layout, and what is in the hand is all that the seat's calls took and didn't give
pub record MayCarry (layout : Layout) (v : FilerView) (call : InnerCall) (hand : Hand) : Type 0 where
  pub fits : FitsHand layout call hand
  pub opened : (verifier : List ℕ) × HasOpened layout verifier v
  pub own : AreHands job_takes job_gives (entries_of v) (batches_in hand)

-- ---- what comes of it

-- the parcels as the seat had seen them, and others left them since
abbrev pub left_by : FilerView → List FilerEntry → ℕ → Option (FilerParcel Files)
left_by v between = after v.tree (listed v.first) (v.seen ++ between)

-- A seat made one entry more, of an inner call. It stands in one legal history after all that the seat had seen, and what others
-- put between. It gave all that was in the hand, and moved block numbers as its reply says, between the hand and the parts of
-- its volume, as the entries before it left them.
pub record Carries (layout : Layout) (v : FilerView) (call : InnerCall) (hand : Hand) (reply : JobReply) (w : FilerView) : Type 0 where
  pub entry : FilerEntry
  pub is_call : job_of entry.call ≡ jobs.Inner call
  pub is_reply : job_reply_of entry.reply ≡ reply
  pub gave : gives (jobs.Inner call) reply ≡ batches_in hand
  pub entries : entries_of w ≡ entries_of v ++ entry ∷ []
  pub between : List FilerEntry
  pub added : HasAdded filer_behaviour v between entry
  pub did : DoesInner (inner_node call) call (filer_contents layout (left_by v between)) reply
      (filer_contents layout (put_in v.tree entry (left_by v between)))

-- Why there was none: the depot refused it; or the range that it would fetch from isn't in use, as a history left it that
-- begins with all that the seat has seen; or there was no memory, or no room in the stock, where either may be lacking.
abbrev pub IsRefusedFor : Layout → FilerView → InnerCall → TendRefusal → FilerView → Type 0
IsRefusedFor layout v call (Busy at word) w = IsRefused layout v (node_tried call) (refusals.Busy at word) w
IsRefusedFor layout v call Worn w = IsRefused layout v (node_tried call) refusals.Worn w
IsRefusedFor layout v call NoSuchRange w = (parcels : ℕ → Option (FilerParcel Files))
    × IsAfter filer_behaviour v (number_of layout (inner_node call)) parcels × IsRefusedIn layout (inner_node call) call parcels
IsRefusedFor layout v call NoMemory w = MayLackMemory call
IsRefusedFor layout v call other w = ⊥

-- what a refusal of the depot answers
abbrev pub refusal_by : GrantRefusal → TendRefusal
refusal_by (refusals.Busy at word) = Busy at word
refusal_by refusals.Worn = Worn

-- what the parcels that an entry of an inner call left under its node tell of a stock
abbrev pub stock_left : Layout → InnerCall → FilerEntry → Option Bool
stock_left layout call e = stock_told layout (inner_node call) (listed e.left)

-- what came of an inner call on a seat. Where it is done, this is told of the stock as it left it.
abbrev pub HasCarried : Layout → FilerView → InnerCall → Hand → Carried → FilerView → Type 0
HasCarried layout v call hand (Done reply told) w =
    (c : Carries layout v call hand (batch_reply_of reply) w) × (told ≡ stock_left layout call c.entry)
HasCarried layout v call hand (Refused back refusal) w = (back ≡ hand) × (entries_of w ≡ entries_of v) × IsRefusedFor layout v call refusal w

-- A depot granted a seat the parcels of an inner call, and its run came to this, and left them so. Then a look at them told this.
pub record HasRunInner (layout : Layout) (v : FilerView) (call : InnerCall) (hand : Hand) (outcome : InnerOutcome BatchReply) (told : Option Bool)
    (l : FilerLent) (w : FilerView) : Type 0 where
  pub before : FilerLent
  pub granted : IsGranted kind_in filer_behaviour layout v (inner_node call) before w
  pub done : IsDone (InnerHasRun batch_reply_of call hand) layout before outcome l
  pub whole : IsWhole kind_in layout l
  pub looked : told ≡ stock_told layout l.affinity l.parcels

-- ---- what is told of it

-- what is in the hand after an inner call with this reply
abbrev pub hand_after : JobReply → Hand
hand_after (Took hand) = hand
hand_after reply = Empty

-- how many blocks came into the hand, or left it
abbrev pub IsToldAs : JobReply → Tended → Type 0
IsToldAs (Took hand) tended = tended ≡ tendeds.InHand (length (batch_in hand))
IsToldAs (Gave hand) tended = tended ≡ tendeds.PutDown (length (batch_in hand))
IsToldAs reply tended = ⊥

-- what is in the hand after it, and what its tend answers
abbrev pub IsToldOf : Carried → Hand → Result Tended TendRefusal → Type 0
IsToldOf (Done reply told) hand answer =
    (hand ≡ hand_after (batch_reply_of reply)) × (tended : Tended) × (answer ≡ Ok tended) × IsToldAs (batch_reply_of reply) tended
IsToldOf (Refused back refusal) hand answer = (hand ≡ back) × (answer ≡ Err refusal)

-- what was told of a stock; nothing where it was refused
abbrev pub stock_by : Carried → Option Bool
stock_by (Done reply told) = told
stock_by (Refused back refusal) = None
