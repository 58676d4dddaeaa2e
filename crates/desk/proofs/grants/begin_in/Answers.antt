use Rattle.std.proofs.Common.{sym, subst}
use Rattle.affinity.specs.Affinity.{call_node}
use Rattle.depot.specs.Words.{machine_of, layout_in, view}
use Rattle.desk.specs.Any.{node_lent}
use Rattle.desk.specs.laws.Backing.{IsGranted}
use Rattle.desk.proofs.grants.begin_in.Goals as goal

pub returns-in_ok-node-in-Stripe-clause-granted : goal.returns-in_ok-node-in-Stripe-clause-granted
returns-in_ok-node-in-Stripe-clause-granted g c = (
  _,
  c.put_small.ensures,
  subst (λ h. IsGranted g.M.Parcel.HasKind.kind (machine_of c.args.seat.now) (layout_in c.args.depot.now) (view c.args.seat.now) (call_node h)
      (node_lent (layout_in c.args.depot.now) c.in_ok-node-in-Stripe.node)
      (view c.begin_node.new.seat)) (sym c.in-Stripe.is) c.in_ok-node-in-Stripe.ensures.granted,
)

pub returns-in_ok-node-in-Logical-clause-granted : goal.returns-in_ok-node-in-Logical-clause-granted
returns-in_ok-node-in-Logical-clause-granted g c = (
  _,
  c.put_small-in-Logical.ensures,
  subst (λ h. IsGranted g.M.Parcel.HasKind.kind (machine_of c.args.seat.now) (layout_in c.args.depot.now) (view c.args.seat.now) (call_node h)
      (node_lent (layout_in c.args.depot.now) c.in_ok-node-in-Logical.node)
      (view c.begin_node-in-Logical.new.seat)) (sym c.in-Logical.is) c.in_ok-node-in-Logical.ensures.granted,
)

pub returns-in_ok-node-in-Volume-clause-granted : goal.returns-in_ok-node-in-Volume-clause-granted
returns-in_ok-node-in-Volume-clause-granted g c = (
  _,
  c.put_small-in-Volume.ensures,
  subst (λ h. IsGranted g.M.Parcel.HasKind.kind (machine_of c.args.seat.now) (layout_in c.args.depot.now) (view c.args.seat.now) (call_node h)
      (node_lent (layout_in c.args.depot.now) c.in_ok-node-in-Volume.node)
      (view c.begin_node-in-Volume.new.seat)) (sym c.in-Volume.is) c.in_ok-node-in-Volume.ensures.granted,
)
