use Rattle.std.proofs.Common.{sym, subst}
use Rattle.affinity.specs.Numbers.{number_of}
use Rattle.depot.specs.Grants.{entry_of, IsFinished}
use Rattle.depot.specs.Words.{machine_of, layout_in, view}
use Rattle.desk.specs.laws.Backing.{CanFinish}
use Rattle.desk.specs.Any.{large_lent}
use Rattle.desk.proofs.grants.finish_large.Goals as goal

pub finish_node-requires-clause-can : goal.finish_node-requires-clause-can
finish_node-requires-clause-can g c =
    let layout = layout_in c.args.depot.now in
    subst (λ grant. CanFinish g.M.Parcel.HasKind.kind (machine_of c.args.seat.now) layout (view c.args.seat.now) (large_lent grant layout)
    (g.C.Entered.entered c.args.call.now) (g.A.Entered.entered c.args.reply.now)) c.in-Aggregate.is c.requires.can

pub returns-in-Aggregate-clause-finished : goal.returns-in-Aggregate-clause-finished
returns-in-Aggregate-clause-finished g c =
    let layout = layout_in c.args.depot.now in
    subst (λ grant. IsFinished (machine_of c.args.seat.now) (view c.args.seat.now) (number_of layout (large_lent grant layout).affinity)
    (entry_of layout (large_lent grant layout).affinity (large_lent grant layout).parcels
    (g.C.Entered.entered c.args.call.now) (g.A.Entered.entered c.args.reply.now)) (view c.finish_node.new.seat))
    (sym c.in-Aggregate.is) c.finish_node.ensures.finished

pub finish_node-requires-in-Serial-clause-can : goal.finish_node-requires-in-Serial-clause-can
finish_node-requires-in-Serial-clause-can g c =
    let layout = layout_in c.args.depot.now in
    subst (λ grant. CanFinish g.M.Parcel.HasKind.kind (machine_of c.args.seat.now) layout (view c.args.seat.now) (large_lent grant layout)
    (g.C.Entered.entered c.args.call.now) (g.A.Entered.entered c.args.reply.now)) c.in-Serial.is c.requires.can

pub returns-in-Serial-clause-finished : goal.returns-in-Serial-clause-finished
returns-in-Serial-clause-finished g c =
    let layout = layout_in c.args.depot.now in
    subst (λ grant. IsFinished (machine_of c.args.seat.now) (view c.args.seat.now) (number_of layout (large_lent grant layout).affinity)
    (entry_of layout (large_lent grant layout).affinity (large_lent grant layout).parcels
    (g.C.Entered.entered c.args.call.now) (g.A.Entered.entered c.args.reply.now))
    (view c.finish_node-in-Serial.new.seat))
    (sym c.in-Serial.is) c.finish_node-in-Serial.ensures.finished
