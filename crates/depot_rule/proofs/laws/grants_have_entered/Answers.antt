use Rattle.depot_rule.proofs.Following.{have-entered}
use Rattle.depot_rule.proofs.laws.grants_have_entered.Goals as goal

pub returns : goal.returns
returns g c = have-entered g.row.P.Denot g.row.E.Denot
