-- An entry of a message's call.
use Rattle.std.proofs.Common.{◌≡◌, ℕ, ◌≤◌, Bool, length, sym, ap, ◌∙◌, subst}
use Rattle.nfs_model.specs.Tree.{Layout}
use Rattle.nfs_values.specs.Reply.{reply_of}
use Rattle.nfs_values.specs.declared.moment.Moment.{Moment}
use Rattle.nfs_values.specs.declared.reply.Reply.{Reply}
use Rattle.scheduler.specs.declared.message.Origin.{Origin}
use Rattle.affinity.specs.Numbers.{number_of}
use Rattle.parcels.specs.Exact.{kind_in}
use Rattle.depot.specs.Grants.{entry_of, IsFinished}
use Rattle.desk.specs.laws.Backing.{CanFinish}
use Rattle.outboxes.specs.Boxes.{Addressed, addressed}
use Rattle.outboxes.specs.Messages as replies
use Rattle.outboxes.specs.Messages.{record_of}
use Rattle.service.specs.declared.job.Job.TheVariants.{Serve}
use Rattle.service.specs.declared.job.JobReply.TheVariants.{Replied}
use Rattle.service.specs.declared.job.ServedCall.{ServedCall}
use Rattle.rpc_msg.specs.declared.handle_form.HandleForm.{HandleForm}
use Rattle.rpc_msg.specs.Handles.{reply_told}
use Rattle.granted_calls.specs.declared.entering.Entry.{Entry}
use Rattle.granted_calls.specs.Balance.{FilerView}
use Rattle.granted_calls.specs.Links.{job_in, HasRoom, IsEntryFor}
use Rattle.granted_calls.specs.Messages.{Message}
use Rattle.granted_calls.specs.Runs.{FilerLent}
use Rattle.granted_calls.specs.Served.{filer_behaviour, job_of_message}

module _ (m : Message) (moment : Moment) (starved : Bool) (e : Entry) (is : IsEntryFor m moment starved e) where
  pub entry-can : (told : Reply) (layout : Layout) (w : FilerView) (l : FilerLent)
      → CanFinish kind_in filer_behaviour layout w l (job_of_message m moment starved) (Replied told)
      → CanFinish kind_in filer_behaviour layout w l (job_in e) (Replied told)
  entry-can told layout w l can = subst (λ (s : ServedCall). CanFinish kind_in filer_behaviour layout w l (Serve s) (Replied told)) (sym is.served) can

  pub entry-finished : (told : Reply) (layout : Layout) (w : FilerView) (l : FilerLent) (u : FilerView)
      → IsFinished filer_behaviour w (number_of layout l.affinity) (entry_of layout l.affinity l.parcels (job_in e) (Replied told)) u
      → IsFinished filer_behaviour w (number_of layout l.affinity)
      (entry_of layout l.affinity l.parcels (job_of_message m moment starved) (Replied told)) u
  entry-finished told layout w l u finished =
      subst (λ (s : ServedCall). IsFinished filer_behaviour w (number_of layout l.affinity) (entry_of layout l.affinity l.parcels (Serve s) (Replied told)) u)
      is.served finished

  pub entry-room : (told : Reply) → ((form : HandleForm) → length (record_of (replies.message m.origin.xid (reply_told form (reply_of told)))) ≤ m.room)
      → HasRoom e told
  entry-room told fits = λ form.
      subst (λ (o : Origin). length (record_of (replies.message o.xid (reply_told form (reply_of told)))) ≤ e.room) (sym is.origin)
      (subst (λ (n : ℕ). length (record_of (replies.message m.origin.xid (reply_told form (reply_of told)))) ≤ n) (sym is.room) (fits form))

  pub entry-answer : (reply : Reply) (a : Addressed) → a ≡ addressed e.origin.connection.0 (replies.message e.origin.xid (reply_of reply))
      → a ≡ addressed m.origin.connection.0 (replies.message m.origin.xid (reply_of reply))
  entry-answer reply a same = same ∙ ap (λ (o : Origin). addressed o.connection.0 (replies.message o.xid (reply_of reply))) is.origin
