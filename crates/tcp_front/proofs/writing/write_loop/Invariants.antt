-- the records that were taken went out whole, and nothing failed
use Rattle.std.proofs.Common.{◌≡◌, List, length}
use Rattle.outboxes.specs.Messages.{ReplyMessage}
use Rattle.tcp_front.specs.Counts.{HasNotFailed}
use Rattle.tcp_front.specs.Writing.{HasSent, counted, records_of}
use Rattle.tcp_front.proofs.writing.write_loop.Given as goal

abbrev pub invariant-loop : goal.invariant-loop
invariant-loop g l = record {
  same : HasNotFailed l.fn.writer l.writer;
  did : (ms : List ReplyMessage) × g.S.RecordSource.gave l.fn.source ms l.source
      × HasSent (g.W.Write.contents) l.fn.writer (records_of ms) l.writer × (l.sent ≡ counted (length (records_of ms)));
}
