use Rattle.outboxes.specs.Boxes.{with_last}
use Rattle.outboxes.proofs.Places.{set-rise, set-waits}
use Rattle.outboxes.proofs.box_list.BoxList.put.Goals as goal

pub invariant_of-self : goal.invariant_of-self
invariant_of-self c =
    set-rise c.self.inside.list.items c.args.self.now c.args.number c.self.invariant c.self.view_is c.deref.result.now c.deref.ensures.value
    c.in-Some.place c.in-Some.ensures.place c.index_mut.result.now c.index_mut.ensures.value c.put.new.self

pub returns-in-Some : goal.returns-in-Some
returns-in-Some c =
    set-waits c.self.inside.list.items c.args.self.now c.args.number c.self.invariant c.self.view_is c.deref.result.now c.deref.ensures.value
    c.in-Some.place c.in-Some.ensures.place c.index_mut.result.now c.index_mut.ensures.value (with_last c.args.link.value.numbered) c.put.new.self
    c.put.ensures
