use Rattle.depot_rule.proofs.Following.{are-single}
use Rattle.depot_rule.proofs.laws.parcels_are_single.Goals as goal

pub returns : goal.returns
returns g c = are-single g.row.P.Denot g.row.E.Denot
