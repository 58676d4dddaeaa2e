use Rattle.std.proofs.Common.{drop, ◌∙◌}
use Rattle.outboxes.proofs.Places.{first-there, set-rise, set-waits}
use Rattle.outboxes.proofs.box_list.BoxList.take.Goals as goal

pub invariant_of-self : goal.invariant_of-self
invariant_of-self c =
    set-rise c.self.inside.list.items c.args.self.now c.args.number c.self.invariant c.self.view_is c.deref.result.now c.deref.ensures.value
    c.in-Some.place c.in-Some.ensures.place c.index_mut.result.now c.index_mut.ensures.value c.take.new.self

pub returns-in-Some-clause-record : goal.returns-in-Some-clause-record
returns-in-Some-clause-record c =
    c.take.ensures.record
    ∙ first-there c.self.inside.list.items c.args.self.now c.args.number c.self.invariant c.self.view_is c.deref.result.now c.deref.ensures.value
    c.in-Some.place c.in-Some.ensures.place c.index_mut.result.now c.index_mut.ensures.value

pub returns-in-Some-clause-rest : goal.returns-in-Some-clause-rest
returns-in-Some-clause-rest c =
    set-waits c.self.inside.list.items c.args.self.now c.args.number c.self.invariant c.self.view_is c.deref.result.now c.deref.ensures.value
    c.in-Some.place c.in-Some.ensures.place c.index_mut.result.now c.index_mut.ensures.value (λ ms. drop 1 ms) c.take.new.self c.take.ensures.rest
