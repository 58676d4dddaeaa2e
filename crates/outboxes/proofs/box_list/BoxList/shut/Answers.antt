use Rattle.outboxes.proofs.Places.{fewer-rise, fewer-wait, none-removed}
use Rattle.outboxes.proofs.box_list.BoxList.shut.Goals as goal

pub invariant_of-self : goal.invariant_of-self
invariant_of-self c =
    fewer-rise c.self.inside.list.items c.args.self.now c.args.number c.self.invariant c.self.view_is c.deref.result.now c.deref.ensures.value
    c.in-Some.place c.in-Some.ensures.place c.remove.new.self.items c.remove.ensures.items

pub returns-in-Some : goal.returns-in-Some
returns-in-Some c =
    fewer-wait c.self.inside.list.items c.args.self.now c.args.number c.self.invariant c.self.view_is c.deref.result.now c.deref.ensures.value
    c.in-Some.place c.in-Some.ensures.place c.remove.new.self.items c.remove.ensures.items

pub returns-in_default : goal.returns-in_default
returns-in_default c =
    none-removed c.self.inside.list.items c.args.self.now c.args.number c.self.invariant c.self.view_is c.deref.result.now c.deref.ensures.value
    c.in_default.ensures.none
