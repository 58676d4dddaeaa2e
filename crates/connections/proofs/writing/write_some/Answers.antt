use Rattle.std.proofs.Common.{Some, refl}
use Rattle.connections.proofs.Cut.{some-of}
use Rattle.connections.proofs.OneWrite.{parts, parts-rest, some-waits}
use Rattle.connections.proofs.writing.write_some.Goals as goal

pub write_rest-requires : goal.write_rest-requires
write_rest-requires g c = some-of c.args.rest.now c.is_empty.result c.is_empty.ensures c.if-not-is_empty.true

pub returns-then-is_empty-2 : goal.returns-then-is_empty-2
returns-then-is_empty-2 g c =
    parts g.D.Device.unread g.D.Device.written c.args.connection.0 c.args.device.now c.write_rest-then-is_empty-2.new.device c.args.outboxes.now
    c.join.new.outboxes c.args.owed.now c.join.new.owed (Some c.in-Some.record) c.make_ready.new.buffer.items c.join.new.buffer.items c.args.rest.now c.write_rest-then-is_empty-2.new.rest
    c.in-Some.ensures c.make_ready.ensures (c.is_empty.ensures.0 c.if-not-is_empty.false) c.write_rest-then-is_empty-2.result c.of.result
    c.of.ensures c.write_rest-then-is_empty-2.ensures.sent
    c.write_rest-then-is_empty-2.ensures.asks

pub returns-else-is_empty-2 : goal.returns-else-is_empty-2
returns-else-is_empty-2 g c =
    parts g.D.Device.unread g.D.Device.written c.args.connection.0 c.args.device.now c.write_buffer-in-Some.new.device
    c.args.outboxes.now c.join.new.outboxes c.args.owed.now c.join.new.owed (Some c.in-Some.record) c.make_ready.new.buffer.items c.join.new.buffer.items c.args.rest.now
    c.write_buffer-in-Some.new.rest c.in-Some.ensures c.make_ready.ensures (c.is_empty.ensures.0 c.if-not-is_empty.false) c.write_buffer-in-Some.result _ refl
    c.write_buffer-in-Some.ensures.sent c.write_buffer-in-Some.ensures.asks

pub returns-then-not-is_empty : goal.returns-then-not-is_empty
returns-then-not-is_empty g c =
    parts-rest g.D.Device.unread g.D.Device.written c.args.connection.0 c.args.device.now c.write_rest.new.device c.args.outboxes.now
    c.args.owed.now c.args.rest.now c.write_rest.new.rest c.write_rest.result c.write_rest.ensures.sent c.write_rest.ensures.asks

pub write_rest-requires-then-is_empty-2 : goal.write_rest-requires-then-is_empty-2
write_rest-requires-then-is_empty-2 g c = some-waits c.of.result c.join.new.buffer.items c.in-Some.record c.of.ensures
