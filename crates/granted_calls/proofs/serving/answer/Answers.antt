use Rattle.std.proofs.Common.{sym, subst}
use Rattle.affinity.specs.Numbers.{number_of}
use Rattle.parcels.specs.Exact.{kind_in}
use Rattle.depot.specs.Grants.{entry_of, IsFinished}
use Rattle.depot.specs.Words.{view}
use Rattle.desk.specs.Any.{node_lent}
use Rattle.desk.specs.laws.Backing.{CanFinish}
use Rattle.service.specs.declared.job.Job.TheVariants.{Serve}
use Rattle.service.specs.declared.job.JobReply.TheVariants.{Replied}
use Rattle.service.specs.declared.job.ServedCall.{ServedCall}
use Rattle.granted_calls.specs.Served.{filer_behaviour}
use Rattle.granted_calls.specs.Filers.{layout_in}
use Rattle.granted_calls.proofs.Entered.{entry-answer, entry-can, entry-finished, entry-room}
use Rattle.granted_calls.proofs.serving.answer.Goals as goal

pub finish_node-requires-clause-can : goal.finish_node-requires-clause-can
finish_node-requires-clause-can g c =
    let L = layout_in c.args.filer.now in
    let l = node_lent L c.args.grant in
    let w = view c.args.seat.now in
    subst (λ (s : ServedCall). CanFinish kind_in filer_behaviour L w l (Serve s) (Replied c.args.told.now)) (sym c.deref.ensures)
    (entry-can c.args.message c.args.moment c.args.starved c.enter-entry.result c.enter-entry.ensures c.args.told.now L w l c.requires.can)

pub answered-requires : goal.answered-requires
answered-requires g c =
    entry-room c.args.message c.args.moment c.args.starved c.enter-entry.result c.enter-entry.ensures c.args.told.now c.requires.room

pub returns-clause-finished : goal.returns-clause-finished
returns-clause-finished g c =
    let L = layout_in c.args.filer.now in
    let l = node_lent L c.args.grant in
    let w = view c.args.seat.now in
    let u = view c.finish_node.new.seat in
    entry-finished c.args.message c.args.moment c.args.starved c.enter-entry.result c.enter-entry.ensures c.args.told.now L w l u
    (subst (λ (s : ServedCall). IsFinished filer_behaviour w (number_of L l.affinity)
    (entry_of L l.affinity l.parcels (Serve s) (Replied c.args.told.now)) u) c.deref.ensures c.finish_node.ensures.finished)

pub returns-clause-answer : goal.returns-clause-answer
returns-clause-answer g c =
    entry-answer c.args.message c.args.moment c.args.starved c.enter-entry.result c.enter-entry.ensures c.args.told.now c.answered.result
    c.answered.ensures
