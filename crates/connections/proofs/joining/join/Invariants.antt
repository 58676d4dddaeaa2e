-- the records that were taken stand behind what was there, and are paid
use Rattle.std.proofs.Common.{◌≡◌, List, ◌++◌}
use Rattle.outboxes.specs.Messages.{ReplyMessage}
use Rattle.tcp_front.specs.Writing.{records_of}
use Rattle.connections.specs.Owing.{Pays}
use Rattle.connections.specs.Taking.{Takes}
use Rattle.connections.specs.lemmas.Taking.{waits}
use Rattle.connections.proofs.joining.join.Given as goal

abbrev pub invariant-loop-record : goal.invariant-loop-record
invariant-loop-record l =
    (ms : List ReplyMessage) × Takes l.connection.0 ms l.fn.outboxes l.outboxes × Pays ms l.fn.owed l.owed
    × (l.buffer.items ≡ l.fn.buffer.items ++ records_of ms)

abbrev pub decreases-loop-record : goal.decreases-loop-record
decreases-loop-record l = waits l.connection.0 l.outboxes
