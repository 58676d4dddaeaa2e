use Rattle.std.proofs.Common.{sym, subst}
use Rattle.affinity.specs.Numbers.{number_of}
use Rattle.depot.specs.Grants.{entry_of, IsFinished}
use Rattle.depot.specs.Words.{machine_of, layout_in, view}
use Rattle.desk.specs.laws.Backing.{CanFinish}
use Rattle.desk.specs.Any.{small_lent}
use Rattle.desk.proofs.grants.finish_small.Goals as goal

pub finish_node-requires-clause-can : goal.finish_node-requires-clause-can
finish_node-requires-clause-can g c =
    let layout = layout_in c.args.depot.now in
    subst (λ grant. CanFinish g.M.Parcel.HasKind.kind (machine_of c.args.seat.now) layout (view c.args.seat.now) (small_lent grant layout)
    (g.C.Entered.entered c.args.call.now) (g.A.Entered.entered c.args.reply.now)) c.in-Stripe.is c.requires.can

pub returns-in-Stripe-clause-finished : goal.returns-in-Stripe-clause-finished
returns-in-Stripe-clause-finished g c =
    let layout = layout_in c.args.depot.now in
    subst (λ grant. IsFinished (machine_of c.args.seat.now) (view c.args.seat.now) (number_of layout (small_lent grant layout).affinity)
    (entry_of layout (small_lent grant layout).affinity (small_lent grant layout).parcels
    (g.C.Entered.entered c.args.call.now) (g.A.Entered.entered c.args.reply.now))
    (view c.finish_node.new.seat))
    (sym c.in-Stripe.is) c.finish_node.ensures.finished

pub finish_node-requires-in-Logical-clause-can : goal.finish_node-requires-in-Logical-clause-can
finish_node-requires-in-Logical-clause-can g c =
    let layout = layout_in c.args.depot.now in
    subst (λ grant. CanFinish g.M.Parcel.HasKind.kind (machine_of c.args.seat.now) layout (view c.args.seat.now) (small_lent grant layout)
    (g.C.Entered.entered c.args.call.now) (g.A.Entered.entered c.args.reply.now)) c.in-Logical.is c.requires.can

pub returns-in-Logical-clause-finished : goal.returns-in-Logical-clause-finished
returns-in-Logical-clause-finished g c =
    let layout = layout_in c.args.depot.now in
    subst (λ grant. IsFinished (machine_of c.args.seat.now) (view c.args.seat.now) (number_of layout (small_lent grant layout).affinity)
    (entry_of layout (small_lent grant layout).affinity (small_lent grant layout).parcels
    (g.C.Entered.entered c.args.call.now) (g.A.Entered.entered c.args.reply.now))
    (view c.finish_node-in-Logical.new.seat))
    (sym c.in-Logical.is) c.finish_node-in-Logical.ensures.finished

pub finish_node-requires-in-Volume-clause-can : goal.finish_node-requires-in-Volume-clause-can
finish_node-requires-in-Volume-clause-can g c =
    let layout = layout_in c.args.depot.now in
    subst (λ grant. CanFinish g.M.Parcel.HasKind.kind (machine_of c.args.seat.now) layout (view c.args.seat.now) (small_lent grant layout)
    (g.C.Entered.entered c.args.call.now) (g.A.Entered.entered c.args.reply.now)) c.in-Volume.is c.requires.can

pub returns-in-Volume-clause-finished : goal.returns-in-Volume-clause-finished
returns-in-Volume-clause-finished g c =
    let layout = layout_in c.args.depot.now in
    subst (λ grant. IsFinished (machine_of c.args.seat.now) (view c.args.seat.now) (number_of layout (small_lent grant layout).affinity)
    (entry_of layout (small_lent grant layout).affinity (small_lent grant layout).parcels
    (g.C.Entered.entered c.args.call.now) (g.A.Entered.entered c.args.reply.now))
    (view c.finish_node-in-Volume.new.seat))
    (sym c.in-Volume.is) c.finish_node-in-Volume.ensures.finished
