use Rattle.depot_rule.proofs.Opening.{closes}
use Rattle.depot_rule.proofs.laws.closes_whole.Goals as goal

pub returns : goal.returns
returns g c = λ kind_of. closes g.row.P.Denot g.row.E.Denot kind_of
