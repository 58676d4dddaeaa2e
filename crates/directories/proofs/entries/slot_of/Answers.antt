use Rattle.std.proofs.Common.{sym, ◌∙◌}
use Rattle.directories.proofs.Slots.{slot-guessed, slot-under, read-there}
use Rattle.directories.proofs.entries.slot_of.Goals as goal

pub returns-then-holds : goal.returns-then-holds
returns-then-holds c =
    slot-guessed c.args.slots.now c.args.order.now _ c.args.cookie.0 c.args.guess c.requires.ordered.1 (sym c.holds.ensures ∙ c.if-holds.true)

pub returns : goal.returns
returns c =
    slot-under c.args.slots.now c.args.order.now c.args.cookie.0 c.position_of.result c.at.result
    (_, c.requires.ordered.1.rising) c.position_of.ensures.position
    c.position_of.ensures.within (read-there c.args.order.now c.position_of.result c.at.result c.at.ensures)
