use Rattle.std.proofs.Common.{sym, subst}
use Rattle.affinity.specs.Affinity.{affinity_of}
use Rattle.parcels.specs.Sets.{stripe_parcels}
use Rattle.depot.specs.Grants.{HasWith}
use Rattle.depot.specs.Words.{view, layout_in, number_in, node_of}
use Rattle.depot.specs.lemmas.Seats.{begun-with}
use Rattle.depot_rows.proofs.trial.look.Goals as goal

pub put_back-requires-clause-as_granted : goal.put_back-requires-clause-as_granted
put_back-requires-clause-as_granted c =
    let L = layout_in c.args.depot.now in let grant = c.in-Ok.grant in
    subst (λ h. HasWith (view c.begin.new.seat) (number_in L grant) (stripe_parcels L (affinity_of (node_of grant)) h)) (sym c.held.ensures.value)
    (begun-with (view c.args.seat.now) (view c.begin.new.seat) _ _ c.in-Ok.ensures.granted)
