use Rattle.std.proofs.Common.{arith, ◌∙◌}
use Rattle.scheduler.proofs.Seated.{packed-present, packed-queues, packed-length, packed-lined}
use Rattle.scheduler.proofs.cells.make_room.Goals as goal

pub renumber-requires-clause-queues : goal.renumber-requires-clause-queues
renumber-requires-clause-queues g c =
    packed-queues c.args.messages.now.items c.deref.result.now (c.deref.ensures.value ∙ c.drop_vacant.ensures.messages) c.requires.queues

pub renumber-requires-clause-cells : goal.renumber-requires-clause-cells
renumber-requires-clause-cells g c =
    let size = packed-length c.args.messages.now.items c.deref.result.now (c.deref.ensures.value ∙ c.drop_vacant.ensures.messages) in
    let count = c.requires.count in
    omega (arith, size, count)

pub returns-clause-messages : goal.returns-clause-messages
returns-clause-messages g c = packed-present c.args.messages.now.items c.drop_vacant.new.messages.items c.drop_vacant.ensures.messages

pub returns-clause-lined : goal.returns-clause-lined
returns-clause-lined g c =
    packed-lined c.args.messages.now.items c.drop_vacant.new.messages.items c.deref.result.now c.renumber.new.lines c.drop_vacant.ensures.messages
    c.deref.ensures.value
    c.renumber.ensures

pub returns-clause-queues : goal.returns-clause-queues
returns-clause-queues g c = packed-queues c.args.messages.now.items c.drop_vacant.new.messages.items c.drop_vacant.ensures.messages c.requires.queues

pub returns-clause-cells : goal.returns-clause-cells
returns-clause-cells g c =
    let size = packed-length c.args.messages.now.items c.drop_vacant.new.messages.items c.drop_vacant.ensures.messages in
    let count = c.requires.count in
    omega (arith, size, count)
