use Rattle.std.proofs.Common.{sym, ◌∙◌, arith}
use Rattle.directories.proofs.Slots.{position-guessed, read-there}
use Rattle.directories.proofs.entries.position_from_end.Goals as goal

pub returns-then-holds-clause-position : goal.returns-then-holds-clause-position
returns-then-holds-clause-position c =
    position-guessed c.args.slots.now c.args.order.now c.args.next.0 c.args.cookie.0 c.saturating_sub-guess.result c.at-slot.result c.requires.ordered
    (sym c.holds.ensures ∙ c.if-holds.true) (omega (arith, c.if-guess-len.true, c.len-2.ensures))
    (read-there c.args.order.now c.saturating_sub-guess.result c.at-slot.result c.at-slot.ensures)

pub position_of-requires-clause-rising : goal.position_of-requires-clause-rising
position_of-requires-clause-rising c = (_, c.requires.ordered.rising)
