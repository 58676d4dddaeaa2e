use Rattle.std.proofs.Common.{[], ◌∷◌, refl, sym, subst}
use Rattle.affinity.specs.Numbers.{number_of}
use Rattle.depot.specs.Grants.{entry_of, IsFinished}
use Rattle.depot.specs.Words.{view}
use Rattle.desk.specs.Any.{node_lent}
use Rattle.outboxes.specs.Boxes.{Addressed}
use Rattle.service.specs.declared.job.Job.TheVariants.{Serve}
use Rattle.service.specs.declared.job.JobReply.TheVariants.{Replied}
use Rattle.service.specs.declared.job.ServedCall.{ServedCall}
use Rattle.granted_calls.specs.Telling.{TookTold}
use Rattle.granted_calls.specs.declared.linking.Tried.{Tried}
use Rattle.granted_calls.specs.Links.{HasEnded}
use Rattle.granted_calls.specs.Served.{filer_behaviour}
use Rattle.granted_calls.specs.Filers.{layout_in}
use Rattle.granted_calls.proofs.linking.end_on.Goals as goal

pub returns-in-Entered-clause-ended : goal.returns-in-Entered-clause-ended
returns-in-Entered-clause-ended g c =
    let took = TookTold c.args.handles g.S.AnswerSink.took in
    let L = layout_in c.args.filer.now in
    let l = node_lent L c.args.grant in
    let w = view c.args.seat.now in
    let u = view c.finish_node.new.seat in
    subst (λ (t : Tried). HasEnded took L w l t c.args.told.now c.args.sink.now u c.in-Entered.next c.take_answer.new.self) (sym c.in-Entered.is) (
      subst (λ (s : ServedCall). IsFinished filer_behaviour w (number_of L l.affinity)
          (entry_of L l.affinity l.parcels (Serve s) (Replied c.args.told.now)) u) c.deref.ensures c.finish_node.ensures.finished,
      refl,
      subst (λ (a : Addressed). g.S.AnswerSink.took c.args.sink.now (a ∷ []) c.take_answer.new.self) c.answered.ensures c.take_answer.ensures,
    )
