use Rattle.depot_rule.proofs.Opening.{opens}
use Rattle.depot_rule.proofs.laws.opens_within.Goals as goal

pub returns : goal.returns
returns g c = λ kind_of. opens g.row.P.Denot g.row.E.Denot kind_of
