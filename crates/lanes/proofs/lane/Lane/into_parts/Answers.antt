use Rattle.std.specs.Arc.{arc_value}
use Rattle.lanes.proofs.Inside.{at-inside}
use Rattle.lanes.proofs.lane.Lane.into_parts.Goals as goal

pub returns-clause-inside : goal.returns-clause-inside
returns-clause-inside g c =
    let l = c.args.self in
    at-inside (arc_value l.filer) l.intake.queue l.intake.worker l.inside

pub returns-clause-told : goal.returns-clause-told
returns-clause-told g c = c.args.self.story

pub returns-clause-owes : goal.returns-clause-owes
returns-clause-owes g c = c.args.self.owes
