-- the records that were taken stand behind what was there
use Rattle.std.proofs.Common.{◌≡◌, List, ◌++◌}
use Rattle.outboxes.specs.Messages.{ReplyMessage}
use Rattle.tcp_front.specs.Writing.{records_of}
use Rattle.tcp_front.proofs.joining.join.Given as goal

abbrev pub invariant-loop : goal.invariant-loop
invariant-loop g l =
    (ms : List ReplyMessage) × g.S.RecordSource.gave l.fn.source ms l.source
    × (l.buffer.items ≡ l.fn.buffer.items ++ records_of ms)
