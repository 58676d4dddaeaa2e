use Rattle.std.proofs.Common.{sym, subst}
use Rattle.nfs_values.specs.Caller.{caller_of}
use Rattle.nfs_values.specs.Moment.{moment_of}
use Rattle.filer_state.specs.declared.files.Files.{Files}
use Rattle.desk.specs.laws.Books.{now}
use Rattle.desk.specs.laws.Calls.{HasWorked}
use Rattle.desk.specs.Words.{books}
use Rattle.engine.specs.laws.Store.{FilerBooks}
use Rattle.service.specs.declared.job.Job.{Job}
use Rattle.service.specs.declared.job.JobReply.{JobReply}
use Rattle.service.specs.Running.{HasRunCall}
use Rattle.engine.specs.counts.Counts.{AreSized, IsCounted}
use Rattle.engine.proofs.Counted.{may-recount, recounted}
use Rattle.engine.proofs.working.run_on.Goals as goal

pub work-outcome-requires-clause-may : goal.work-outcome-requires-clause-may
work-outcome-requires-clause-may c =
    c.requires.may

pub recount-requires-clause-may : goal.recount-requires-clause-may
recount-requires-clause-may c =
    may-recount _ (books c.args.desk.now) (books c.work-outcome.new.self) c.args.worker c.work-outcome.result c.work-outcome.ensures.worked
    c.args.counts.now.items c.requires.counted

pub returns-clause-worked : goal.returns-clause-worked
returns-clause-worked c =
    let r = c.args.running.now in
    subst (λ (b : FilerBooks Files Job JobReply).
    HasWorked (HasRunCall r.message.call (caller_of r.message.caller) (moment_of r.moment)) (books c.args.desk.now) c.args.worker c.work-outcome.result b)
    (sym c.recount.ensures.same)
    c.work-outcome.ensures.worked

pub returns-clause-counted : goal.returns-clause-counted
returns-clause-counted c =
    subst (λ (b : FilerBooks Files Job JobReply). AreSized b.layout (now b) → IsCounted b.layout c.recount.new.counts.items (now b))
    (sym c.recount.ensures.same)
    (recounted _ (books c.args.desk.now) (books c.work-outcome.new.self) c.args.worker c.work-outcome.result c.work-outcome.ensures.worked
    c.args.counts.now.items c.requires.counted c.recount.new.counts.items c.recount.ensures.counted c.requires.sized)
