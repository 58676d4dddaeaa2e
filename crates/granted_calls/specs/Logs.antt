-- Histories of a filer's depot, as the definitions' entries have them.
use Rattle.std.specs.Prelude.{List, map}
use Rattle.nfs_model.specs.Types.{Reply}
use Rattle.nfs_model.specs.Replay.{FinishedCall}
use Rattle.depot_rule.specs.declared.view.Entry.{Entry}
use Rattle.filer_state.specs.state.Jobs as jobs
use Rattle.filer_state.specs.state.Replayed.{calls_of, replies_of}
use Rattle.service.specs.Jobs.{job_of, job_reply_of}
use Rattle.service.specs.declared.job.Job.{Job}
use Rattle.service.specs.declared.job.JobReply.{JobReply}

module _ {P : Type 0} where
  -- an entry, as the definitions have it
  abbrev pub as_defined : Entry P Job JobReply → Entry P jobs.Job jobs.JobReply
  as_defined e = record { node = e.node; call = job_of e.call; reply = job_reply_of e.reply; left = e.left }

  abbrev pub all_defined : List (Entry P Job JobReply) → List (Entry P jobs.Job jobs.JobReply)
  all_defined es = map as_defined es

  -- the calls that a history finished, in order, but for inner calls
  abbrev pub calls_in : List (Entry P Job JobReply) → List FinishedCall
  calls_in es = calls_of (all_defined es)

  -- and the replies to them
  abbrev pub replies_in : List (Entry P Job JobReply) → List Reply
  replies_in es = replies_of (all_defined es)
