use Rattle.affinity.specs.Ancestors.{ancestors}
use Rattle.depot_rule.specs.Seats.{view_of}
use Rattle.depot.proofs.Moves.{ended-from}
use Rattle.depot.proofs.claiming.give_up.Goals as goal

pub returns-clause-ended : goal.returns-clause-ended
returns-clause-ended g c =
    let released = c.release.ensures.released in
    ended-from (view_of c.args.place.now.me.0) c.args.node released.0 (ancestors (view_of c.args.place.now.me.0).tree c.args.node) c.requires.ready.2
    released.1 c.leave_all.ensures.left
