use Rattle.std.proofs.Common.{ap}
use Rattle.affinity.specs.Ancestors.{tally}
use Rattle.depot.specs.Calls.{known}
use Rattle.depot.proofs.Moves.{only-grants}
use Rattle.depot.proofs.Holding.{nothing}
use Rattle.depot.proofs.laws.seats_share_by_grants.Goals as goal

pub returns : goal.returns
returns g c = λ a pos.
    let seat = c.args.seat.now in
    only-grants (known seat.badge.views) a pos seat.idle.0 (ap (tally a) (nothing (known seat.badge.views).path seat.idle.2))
