use Rattle.outboxes.proofs.Places.{is-there}
use Rattle.outboxes.proofs.box_list.is_at.Goals as goal

pub returns-in-Some : goal.returns-in-Some
returns-in-Some c =
    is-there c.args.number c.args.place c.args.list.now c.in-Some.entry.now c.in-Some.ensures.lookup.3.0 c.in-Some.ensures.lookup.1
