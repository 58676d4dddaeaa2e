use Rattle.depot_rule.proofs.Following.{is-granted}
use Rattle.depot_rule.proofs.laws.exclusive_is_granted.Goals as goal

pub returns : goal.returns
returns g c = is-granted g.row.P.Denot g.row.E.Denot
