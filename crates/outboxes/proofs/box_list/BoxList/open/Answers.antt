use Rattle.outboxes.proofs.Places.{more-rise, more-wait}
use Rattle.outboxes.proofs.box_list.BoxList.open.Goals as goal

pub invariant_of-self-2 : goal.invariant_of-self-2
invariant_of-self-2 c =
    more-rise c.self.inside.list.items c.args.self.now c.args.number c.self.invariant c.self.view_is c.requires c.new.result c.new.ensures
    c.push.new.self.items c.in_ok-push.ensures.items

pub returns-clause-ok : goal.returns-clause-ok
returns-clause-ok c =
    more-wait c.self.inside.list.items c.args.self.now c.args.number c.self.invariant c.self.view_is c.requires c.new.result c.new.ensures
    c.push.new.self.items c.in_ok-push.ensures.items
