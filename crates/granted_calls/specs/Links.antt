-- A message under a grant that stays open, and the one after it.
use Rattle.std.specs.Prelude.{◌≡◌, ℕ, ◌≤◌, Bool, true, false, List, [], ◌∷◌, length, Option, Some, None, IfSome}
use Rattle.nfs_model.specs.Types.{SystemError}
use Rattle.nfs_model.specs.Tree.{Layout}
use Rattle.nfs_values.specs.Reply.{reply_of}
use Rattle.nfs_values.specs.declared.moment.Moment.{Moment}
use Rattle.rpc_msg.specs.declared.handle_form.HandleForm.{HandleForm}
use Rattle.nfs_values.specs.declared.reply.Reply.{Reply}
use Rattle.rpc_msg.specs.Handles.{reply_told}
use Rattle.affinity.specs.Affinity.{call_node}
use Rattle.affinity.specs.Numbers.{number_of, parents}
use Rattle.parcels.specs.Exact.{kind_in}
use Rattle.depot_rule.specs.declared.view.Read.{Read}
use Rattle.depot.specs.Grants.{entry_of, HasRead, IsEnded, IsFinished}
use Rattle.desk.specs.laws.Backing.{CanFinish, CanPutBack, IsGranted}
use Rattle.outboxes.specs.Boxes.{Addressed, addressed}
use Rattle.outboxes.specs.Messages as replies
use Rattle.outboxes.specs.Messages.{record_of}
use Rattle.service.specs.declared.job.Job.{Job}
use Rattle.service.specs.declared.job.Job.TheVariants.{Serve}
use Rattle.service.specs.declared.job.JobReply.TheVariants.{Replied}
use Rattle.service.specs.declared.outcome.Outcome.{Outcome}
use Rattle.service.specs.declared.outcome.Outcome.TheVariants as outcomes
use Rattle.granted_calls.specs.declared.entering.Entry.{Entry}
use Rattle.granted_calls.specs.declared.chained.Chained.{Chained}
use Rattle.granted_calls.specs.declared.chained.Chained.TheVariants as chains
use Rattle.granted_calls.specs.declared.linking.Tried.{Tried}
use Rattle.granted_calls.specs.declared.linking.Tried.TheVariants as tries
use Rattle.granted_calls.specs.declared.linking.Link.{Link}
use Rattle.granted_calls.specs.declared.linking.Link.TheVariants as links
use Rattle.granted_calls.specs.Balance.{Passed, FilerView}
use Rattle.granted_calls.specs.Messages.{IsPlaced, readdressed, Message}
use Rattle.granted_calls.specs.Moments.{RunsAt}
use Rattle.granted_calls.specs.Chains.{IsAhead, IsPicked, DidAll}
use Rattle.granted_calls.specs.Runs.{FilerLent, HasRunFrom}
use Rattle.granted_calls.specs.Served.{filer_behaviour, served_of_message, Standing, HasDoneFrom}
use Rattle.granted_calls.specs.Filers.{IsReady}

-- ---- entries

-- the call of an entry
abbrev pub job_in : Entry → Job
job_in e = Serve e.served.value

-- the entry is of a message's call
pub record IsEntryFor (m : Message) (moment : Moment) (starved : Bool) (e : Entry) : Type 0 where
  pub served : e.served.value ≡ served_of_message m moment starved
  pub origin : e.origin ≡ m.origin
  pub room : e.room ≡ m.room

-- the reply that was told of it fits its room, however its handles are told
abbrev pub HasRoom : Entry → Reply → Type 0
HasRoom e told = (form : HandleForm) → length (record_of (replies.message e.origin.xid (reply_told form (reply_of told)))) ≤ e.room

-- what is entered of a run
abbrev pub IsEntered : Outcome → Reply → Bool → Type 0
IsEntered outcome reply false = outcome ≡ outcomes.Replied reply
IsEntered outcome reply true = (outcome ≡ outcomes.Starved) × (reply_of reply ≡ SystemError)

-- a message's call was run on what is lent, at a moment or later, its entry is this, and this was told of it
pub record IsToEnter (layout : Layout) (m : Message) (least : Moment) (l : FilerLent) (e : Entry) (said : Reply) (l' : FilerLent) : Type 0 where
  pub moment : Moment
  pub at : RunsAt m.call least moment
  pub outcome : Outcome
  pub starved : Bool
  pub is : IsEntered outcome said starved
  pub ran : HasRunFrom layout m moment l outcome l'
  pub entry : IsEntryFor m moment starved e

-- a message's call was run on what is lent, at a moment or later, and this came of it
abbrev pub HasRunSo : Layout → Message → Moment → FilerLent → Tried → Reply → FilerLent → Type 0
HasRunSo layout m least l (tries.Moved back to) told l' =
    (back ≡ m) × (moment : Moment) × RunsAt m.call least moment × HasRunFrom layout m moment l (outcomes.Moved to) l'
HasRunSo layout m least l (tries.Entered e next) told l' = (next ≡ None) × IsToEnter layout m least l e told l'

-- ---- links

-- A message was picked by who stood so, and has a grant of what it tries, as the seat began it then.
pub record Stands (layout : Layout) (verifier : List ℕ) (b : Standing) (m : Message) (pass : Passed) (l : FilerLent) (w : FilerView) : Type 0 where
  pub ready : IsReady layout verifier b.view
  pub tree : b.view.tree ≡ parents layout
  pub granted : IsGranted kind_in filer_behaviour layout b.view (call_node m.affinity) l w
  pub picked : IsPicked b b.view pass m

-- nothing but reads was added
abbrev pub HasOnlyRead : FilerView → FilerView → Type 0
HasOnlyRead w w' = (looked : ℕ) × (more : List Read) × HasRead w looked more w'

-- what was picked after it
abbrev pub kept_of : Tried → Option Message
kept_of (tries.Moved m to) = None
kept_of (tries.Entered e next) = next

-- what is told of it
abbrev pub chained_so : Tried → Chained
chained_so (tries.Moved m to) = chains.Moved
chained_so (tries.Entered e next) = chains.Done

-- what was done since with the grant, which is still open
abbrev pub HasStayed : Tried → FilerView → FilerView → Type 0
HasStayed (tries.Moved m to) w w' = w' ≡ w
HasStayed (tries.Entered e next) w w' = HasOnlyRead w w'

-- so was it run
abbrev pub RanSo : Layout → Message → Moment → FilerLent → Tried → Reply → FilerLent → Type 0
RanSo layout m least l (tries.Moved back to) told l' = HasRunSo layout m least l (tries.Moved back to) told l'
RanSo layout m least l (tries.Entered e next) told l' = IsToEnter layout m least l e told l'

-- A message was picked by who stood so and run on a grant of what it tries, which is still open.
pub record IsOver (layout : Layout) (verifier : List ℕ) (moment : Moment) (b : Standing) (tried : Tried) (told : Reply)
    (pass' : Passed) (l' : FilerLent) (w' : FilerView) : Type 0 where
  pub message : Message
  pub placed : IsPlaced layout message
  pub pass : Passed
  pub before : FilerLent
  pub holding : FilerView
  pub stands : Stands layout verifier b message pass before holding
  pub ran : RanSo layout message moment before tried told l'
  pub stayed : HasStayed tried holding w'
  pub ahead : IsAhead pass pass' (kept_of tried)

-- one call was finished, and the next has its grant; or the grant is still open
abbrev pub HasLinked : {S : Type 0} → (S → List Addressed → S → Type 0) → Layout → List ℕ → Standing → Message → Moment → Passed → FilerLent
    → FilerView → S → Link → Reply → Passed → FilerLent → FilerView → S → Type 0
HasLinked took layout verifier b m moment pass l w sink (links.On next) told pass' l' w' sink' =
    (a : Addressed) × (mid : Standing) × HasDoneFrom b moment a mid × took sink (a ∷ []) sink'
    × Stands layout verifier mid next pass' l' w'
HasLinked took layout verifier b m moment pass l w sink (links.Over tried) told pass' l' w' sink' =
    (sink' ≡ sink) × IsOver layout verifier moment b tried told pass' l' w'

-- what was picked is placed
abbrev pub IsNextPlaced : Layout → Link → Type 0
IsNextPlaced layout (links.On next) = IsPlaced layout next
IsNextPlaced layout (links.Over tried) = IfSome (kept_of tried) (IsPlaced layout)

-- some calls were finished under one grant, which is still open
pub record HasChained {S : Type 0} (took : S → List Addressed → S → Type 0) (layout : Layout) (verifier : List ℕ) (s : Standing)
    (moment : Moment) (sink : S) (tried : Tried) (said : Reply) (pass' : Passed) (l' : FilerLent) (w' : FilerView) (sink' : S) : Type 0 where
  pub answers : List Addressed
  pub between : Standing
  pub did : DidAll moment s answers between
  pub told : took sink answers sink'
  pub over : IsOver layout verifier moment between tried said pass' l' w'

-- some calls were finished under one grant, which the next message has
pub record HasGoneSo {S : Type 0} (took : S → List Addressed → S → Type 0) (layout : Layout) (verifier : List ℕ) (s : Standing)
    (moment : Moment) (sink : S) (m : Message) (pass' : Passed) (l' : FilerLent) (w' : FilerView) (sink' : S) : Type 0 where
  pub answers : List Addressed
  pub between : Standing
  pub did : DidAll moment s answers between
  pub told : took sink answers sink'
  pub stands : Stands layout verifier between m pass' l' w'

-- ---- the end of a grant

abbrev pub CanEnd : Layout → FilerView → FilerLent → Tried → Reply → Type 0
CanEnd layout w l (tries.Moved m to) told = CanPutBack layout w l
CanEnd layout w l (tries.Entered e next) told = CanFinish kind_in filer_behaviour layout w l (job_in e) (Replied told) × HasRoom e told

-- the grant was put back; or the call was finished, and its answer went into the sink
abbrev pub HasEnded : {S : Type 0} → (S → List Addressed → S → Type 0) → Layout → FilerView → FilerLent → Tried → Reply → S
    → FilerView → Option Message → S → Type 0
HasEnded took layout w l (tries.Moved m to) told sink u kept sink' =
    IsEnded w (number_of layout l.affinity) u × (kept ≡ Some (readdressed to m)) × (sink' ≡ sink)
HasEnded took layout w l (tries.Entered e next) told sink u kept sink' =
    IsFinished filer_behaviour w (number_of layout l.affinity) (entry_of layout l.affinity l.parcels (job_in e) (Replied told)) u × (kept ≡ next)
    × took sink (addressed e.origin.connection.0 (replies.message e.origin.xid (reply_of told)) ∷ []) sink'
