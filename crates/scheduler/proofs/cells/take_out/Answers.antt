use Rattle.scheduler.proofs.Seated.{line-at, lines-set, taken-is, not-none}
use Rattle.scheduler.proofs.cells.take_out.Goals as goal

pub queue_of-requires : goal.queue_of-requires
queue_of-requires g c =
    c.requires.queues c.args.cell c.in-Some.message
    (taken-is c.args.messages.now c.args.cell c.index-messages-cell.result c.take.result c.in-Some.message c.requires.within
    c.take.ensures.value c.in-Some.is)

pub vacate-requires : goal.vacate-requires
vacate-requires g c =
    line-at c.args.messages.now c.args.lines.now c.args.cell c.queue_of.result c.in-Some.message c.requires.lined
    (taken-is c.args.messages.now c.args.cell c.index-messages-cell.result c.take.result c.in-Some.message c.requires.within
    c.take.ensures.value c.in-Some.is) c.queue_of.ensures.number

pub unreachable-requires : goal.unreachable-requires
unreachable-requires g c =
    not-none c.args.messages.now c.args.cell c.index-messages-cell.result c.take.result c.requires.within c.take.ensures.value c.in-None.is
    c.requires.there

pub returns-clause-message : goal.returns-clause-message
returns-clause-message g c =
    taken-is c.args.messages.now c.args.cell c.index-messages-cell.result c.take.result c.in-Some.message c.requires.within
    c.take.ensures.value c.in-Some.is

pub returns-clause-lined : goal.returns-clause-lined
returns-clause-lined g c =
    lines-set c.args.messages.now c.args.lines.now c.vacate.new.self c.args.cell c.take.new.self c.take.ensures.after c.requires.lined c.vacate.ensures
