use Rattle.std.proofs.Common.{rules, ◌∙◌}
use Rattle.scheduler.proofs.Seated.{lines-room, lines-more, lines-same}
use Rattle.scheduler.proofs.cells.renumber.Goals as goal
use Rattle.scheduler.proofs.cells.renumber.Goals.{in-Some, in_default}

pub push-requires-clause-room : goal.push-requires-clause-room
push-requires-clause-room g c =
    lines-room c.args.messages.now c.loop-message.lines c.loop-message.message-index c.loop-message.invariant (search rules) c.requires.cells

pub loop-message-preserved : goal.loop-message-preserved
loop-message-preserved g c = elim c.match-message.branch [
  | in-Some w ↦ lines-more c.args.messages.now c.loop-message.lines c.match-message.lines c.loop-message.message-index w.queue_of.result c.message-item.result
      w.in-Some.message
      (search rules) c.message-item.is w.in-Some.is c.loop-message.invariant w.queue_of.ensures.number (w.lines-is ∙ w.push.ensures)
  | in_default w ↦ lines-same c.args.messages.now c.loop-message.lines c.match-message.lines c.loop-message.message-index c.message-item.result
      (search rules) c.message-item.is w.in_default.is c.loop-message.invariant w.lines-is
]
