-- Entries of the history, as the definitions have them.
use Rattle.std.specs.Prelude.{ℕ, List, Option, Some}
use Rattle.nfs_model.specs.Types as types
use Rattle.nfs_model.specs.Parts.{Hand}
use Rattle.nfs_model.specs.Replay as replay
use Rattle.affinity.specs.Affinity.{call_node}
use Rattle.nfs_values.specs.Call.{call_of}
use Rattle.nfs_values.specs.Caller.{caller_of}
use Rattle.nfs_values.specs.Moment.{moment_of}
use Rattle.nfs_values.specs.Reply.{reply_of}
use Rattle.depot_rule.specs.Machine.{IsLocal, Keeps}
use Rattle.filer_state.specs.state.Parcels.{FilerParcel}
use Rattle.filer_state.specs.state.Sound.{IsFiler}
use Rattle.filer_state.specs.state.Jobs as jobs
use Rattle.filer_state.specs.state.Jobs.{takes, gives}
use Rattle.filer_state.specs.state.Deeds.{FilerSteps}
use Rattle.filer_state.specs.laws.lemmas.Lawful.{steps-local, steps-keep}
use Rattle.service.specs.declared.job.ServedCall.{ServedCall}
use Rattle.service.specs.declared.job.InnerCall.{InnerCall}
use Rattle.service.specs.declared.job.InnerCall.TheVariants.{Fetch, Deliver, Cull, Free, Survey}
use Rattle.service.specs.declared.job.BatchReply.{BatchReply}
use Rattle.service.specs.declared.job.BatchReply.TheVariants.{Took, Gave}
use Rattle.service.specs.declared.job.FreeCounts.{FreeCounts}
use Rattle.service.specs.declared.job.Job.{Job}
use Rattle.service.specs.declared.job.Job.TheVariants.{Serve, Inner}
use Rattle.service.specs.declared.job.JobReply.{JobReply}
use Rattle.service.specs.declared.job.JobReply.TheVariants as replies

-- what it asks
abbrev pub asked_in : ServedCall → types.Asked
asked_in c = types.Ask (call_of c.call) (caller_of c.caller)

abbrev pub finished_of : ServedCall → replay.FinishedCall
finished_of c = record {
  connection = c.connection.0;
  number = c.number;
  xid = c.xid;
  asked = asked_in c;
  affinity = Some (call_node c.affinity);
  moment = moment_of c.moment;
  starved = c.starved;
}

abbrev pub inner_of : InnerCall → jobs.InnerCall
inner_of (Fetch volume range) = jobs.Fetch volume.0 range
inner_of (Deliver volume) = jobs.Deliver volume.0
inner_of (Cull volume) = jobs.Cull volume.0
inner_of (Free volume range) = jobs.Free volume.0 range
inner_of (Survey volume) = jobs.Survey volume.0

abbrev pub job_of : Job → jobs.Job
job_of (Serve call) = jobs.Serve (finished_of call)
job_of (Inner call) = jobs.Inner (inner_of call)

abbrev pub batch_reply_of : BatchReply → jobs.JobReply
batch_reply_of (Took batch) = jobs.Took batch
batch_reply_of (Gave batch) = jobs.Gave batch

abbrev pub counts_reply_of : FreeCounts → jobs.JobReply
counts_reply_of told = jobs.Surveyed told.counts.items

abbrev pub job_reply_of : JobReply → jobs.JobReply
job_reply_of (replies.Replied reply) = jobs.Replied (reply_of reply)
job_reply_of (replies.Moved reply) = batch_reply_of reply
job_reply_of (replies.Surveyed counts) = counts_reply_of counts

-- ---- the machine

abbrev pub job_steps : {P : Type 0} → List ℕ → ℕ → Job → (ℕ → Option (FilerParcel P)) → JobReply → (ℕ → Option (FilerParcel P)) → Type 0
job_steps parents a job f reply f' = FilerSteps parents a (job_of job) f (job_reply_of reply) f'

-- the batches that an entry takes into its seat's hand, and those that it gives from it
abbrev pub job_takes : Job → JobReply → List Hand
job_takes job reply = takes (job_of job) (job_reply_of reply)

abbrev pub job_gives : Job → JobReply → List Hand
job_gives job reply = gives (job_of job) (job_reply_of reply)

pub jobs-local : {P : Type 0} → IsLocal (job_steps {P = P})
jobs-local ps a job f g reply f' step = steps-local ps a (job_of job) f g (job_reply_of reply) f' step

pub jobs-keep : {P : Type 0} → Keeps (job_steps {P = P}) job_takes job_gives IsFiler
jobs-keep ps a job f reply f' hands hands' made sound step moved =
    steps-keep ps a (job_of job) f (job_reply_of reply) f' hands hands' made sound step moved
