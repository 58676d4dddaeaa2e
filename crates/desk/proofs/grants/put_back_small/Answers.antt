use Rattle.std.proofs.Common.{sym, subst}
use Rattle.affinity.specs.Numbers.{number_of}
use Rattle.depot.specs.Grants.{IsEnded}
use Rattle.depot.specs.Words.{layout_in, view}
use Rattle.desk.specs.laws.Backing.{CanPutBack}
use Rattle.desk.specs.Any.{small_lent}
use Rattle.desk.proofs.grants.put_back_small.Goals as goal

pub put_back_node-requires-clause-can : goal.put_back_node-requires-clause-can
put_back_node-requires-clause-can g c =
    let layout = layout_in c.args.depot.now in
    subst (λ grant. CanPutBack layout (view c.args.seat.now) (small_lent grant layout)) c.in-Stripe.is c.requires.can

pub returns-in-Stripe-clause-ended : goal.returns-in-Stripe-clause-ended
returns-in-Stripe-clause-ended g c =
    let layout = layout_in c.args.depot.now in
    subst (λ grant. IsEnded (view c.args.seat.now) (number_of layout (small_lent grant layout).affinity) (view c.put_back_node.new.seat))
    (sym c.in-Stripe.is)
    c.put_back_node.ensures.ended

pub put_back_node-requires-in-Logical-clause-can : goal.put_back_node-requires-in-Logical-clause-can
put_back_node-requires-in-Logical-clause-can g c =
    let layout = layout_in c.args.depot.now in
    subst (λ grant. CanPutBack layout (view c.args.seat.now) (small_lent grant layout)) c.in-Logical.is c.requires.can

pub returns-in-Logical-clause-ended : goal.returns-in-Logical-clause-ended
returns-in-Logical-clause-ended g c =
    let layout = layout_in c.args.depot.now in
    subst (λ grant. IsEnded (view c.args.seat.now) (number_of layout (small_lent grant layout).affinity) (view c.put_back_node-in-Logical.new.seat))
    (sym c.in-Logical.is)
    c.put_back_node-in-Logical.ensures.ended

pub put_back_node-requires-in-Volume-clause-can : goal.put_back_node-requires-in-Volume-clause-can
put_back_node-requires-in-Volume-clause-can g c =
    let layout = layout_in c.args.depot.now in
    subst (λ grant. CanPutBack layout (view c.args.seat.now) (small_lent grant layout)) c.in-Volume.is c.requires.can

pub returns-in-Volume-clause-ended : goal.returns-in-Volume-clause-ended
returns-in-Volume-clause-ended g c =
    let layout = layout_in c.args.depot.now in
    subst (λ grant. IsEnded (view c.args.seat.now) (number_of layout (small_lent grant layout).affinity) (view c.put_back_node-in-Volume.new.seat))
    (sym c.in-Volume.is)
    c.put_back_node-in-Volume.ensures.ended
