-- What a worker's type keeps: each message that it picked was finished, put back or is kept.
use Rattle.std.specs.Prelude.{◌≡◌, ℕ, ◌+◌, List, Option, Some, None}
use Rattle.affinity.specs.declared.layout.Layout.{Layout}
use Rattle.depot_rule.specs.declared.view.View as seats
use Rattle.depot_rule.specs.declared.view.Entry.{Entry}
use Rattle.depot_rule.specs.Sums.{total}
use Rattle.nfs_model.specs.Types.{Asked, Ask}
use Rattle.nfs_values.specs.Call.{call_of}
use Rattle.nfs_values.specs.Caller.{caller_of}
use Rattle.filer_state.specs.state.Parcels.{FilerParcel}
use Rattle.filer_state.specs.declared.files.Files.{Files}
use Rattle.service.specs.Jobs.{asked_in}
use Rattle.service.specs.declared.job.Job.{Job}
use Rattle.service.specs.declared.job.Job.TheVariants.{Serve, Inner}
use Rattle.service.specs.declared.job.JobReply.{JobReply}
use Rattle.granted_calls.specs.declared.shared_waiting.view.View as queues
use Rattle.granted_calls.specs.Messages.{Message}

-- an entry of the history of a filer's depot
abbrev pub FilerEntry : Type 0
FilerEntry = Entry (FilerParcel Files) Job JobReply

-- what a seat of the depot knows
abbrev pub FilerView : Type 0
FilerView = seats.View (FilerParcel Files) FilerEntry

-- what a pass of the queue has put and picked
abbrev pub Passed : Type 0
Passed = queues.View Message Layout

-- ---- messages and entries, weighed by their connection, the number of their record there, its xid, and what it asks

abbrev pub Weight : Type 0
Weight = ℕ → ℕ → ℕ → Asked → ℕ

abbrev pub by_key : Weight → Message → ℕ
by_key weight m = weight m.origin.connection.0 m.origin.number m.origin.xid (Ask (call_of m.call) (caller_of m.caller))

abbrev pub by_kept : Weight → Option Message → ℕ
by_kept weight None = 0
by_kept weight (Some m) = by_key weight m

abbrev pub by_job : Weight → Job → ℕ
by_job weight (Serve call) = weight call.connection.0 call.number call.xid (asked_in call)
by_job weight (Inner call) = 0

module _ {P : Type 0} where
  -- an inner call weighs nothing
  abbrev pub by_entry : Weight → Entry P Job JobReply → ℕ
  by_entry weight e = by_job weight e.call

  -- what was picked is, as often, what was finished, what was put back, and what is kept
  abbrev pub IsEven : Passed → List (Entry P Job JobReply) → Option Message → Type 0
  IsEven pass entries kept = (weight : Weight)
      → total (by_key weight) pass.picked ≡ total (by_entry weight) entries + (total (by_key weight) pass.put + by_kept weight kept)
