use Rattle.std.proofs.Common.{sym, subst}
use Rattle.affinity.specs.Numbers.{number_of}
use Rattle.depot.specs.Grants.{IsEnded}
use Rattle.depot.specs.Words.{layout_in, view}
use Rattle.desk.specs.laws.Backing.{CanPutBack}
use Rattle.desk.specs.Any.{large_lent}
use Rattle.desk.proofs.grants.put_back_large.Goals as goal

pub put_back_node-requires-clause-can : goal.put_back_node-requires-clause-can
put_back_node-requires-clause-can g c =
    let layout = layout_in c.args.depot.now in
    subst (λ grant. CanPutBack layout (view c.args.seat.now) (large_lent grant layout)) c.in-Aggregate.is c.requires.can

pub returns-in-Aggregate-clause-ended : goal.returns-in-Aggregate-clause-ended
returns-in-Aggregate-clause-ended g c =
    let layout = layout_in c.args.depot.now in
    subst (λ grant. IsEnded (view c.args.seat.now) (number_of layout (large_lent grant layout).affinity) (view c.put_back_node.new.seat))
    (sym c.in-Aggregate.is)
    c.put_back_node.ensures.ended

pub put_back_node-requires-in-Serial-clause-can : goal.put_back_node-requires-in-Serial-clause-can
put_back_node-requires-in-Serial-clause-can g c =
    let layout = layout_in c.args.depot.now in
    subst (λ grant. CanPutBack layout (view c.args.seat.now) (large_lent grant layout)) c.in-Serial.is c.requires.can

pub returns-in-Serial-clause-ended : goal.returns-in-Serial-clause-ended
returns-in-Serial-clause-ended g c =
    let layout = layout_in c.args.depot.now in
    subst (λ grant. IsEnded (view c.args.seat.now) (number_of layout (large_lent grant layout).affinity) (view c.put_back_node-in-Serial.new.seat))
    (sym c.in-Serial.is)
    c.put_back_node-in-Serial.ensures.ended
