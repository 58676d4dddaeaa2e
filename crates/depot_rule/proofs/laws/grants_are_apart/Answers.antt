use Rattle.depot_rule.proofs.Following.{are-apart}
use Rattle.depot_rule.proofs.laws.grants_are_apart.Goals as goal

pub returns : goal.returns
returns g c = are-apart g.row.P.Denot g.row.E.Denot
