use Rattle.std.proofs.Common.{subst}
use Rattle.parcels.specs.Exact.{kind_in}
use Rattle.depot.specs.Words.{view}
use Rattle.desk.specs.Any.{node_lent}
use Rattle.desk.specs.laws.Backing.{HasGoneOn}
use Rattle.service.specs.declared.job.Job.TheVariants.{Serve}
use Rattle.service.specs.declared.job.JobReply.TheVariants.{Replied}
use Rattle.service.specs.declared.job.ServedCall.{ServedCall}
use Rattle.granted_calls.specs.Served.{filer_behaviour}
use Rattle.granted_calls.specs.Filers.{layout_in}
use Rattle.granted_calls.proofs.linking.go_on_by.Goals as goal

pub returns-in-Ok-clause-went : goal.returns-in-Ok-clause-went
returns-in-Ok-clause-went g c went =
    let L = layout_in c.args.filer.now in
    subst (λ (s : ServedCall). HasGoneOn kind_in filer_behaviour L (view c.args.seat.now) (node_lent L c.args.grant.now) (Serve s)
    (Replied c.args.told.now) (view c.go_on_node.new.seat)) c.deref.ensures c.in-Ok.ensures.gone_on
