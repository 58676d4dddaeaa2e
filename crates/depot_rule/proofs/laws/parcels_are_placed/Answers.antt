use Rattle.depot_rule.proofs.Following.{are-placed}
use Rattle.depot_rule.proofs.laws.parcels_are_placed.Goals as goal

pub returns : goal.returns
returns g c = are-placed g.row.P.Denot g.row.E.Denot
