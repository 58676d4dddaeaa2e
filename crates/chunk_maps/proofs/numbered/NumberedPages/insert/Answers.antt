use Rattle.chunk_maps.proofs.Numbers.{page-rises, page-finds, more-rise, more-find}
use Rattle.chunk_maps.proofs.numbered.NumberedPages.insert.Goals as goal

pub invariant_of-self : goal.invariant_of-self
invariant_of-self g c =
    page-rises c.self.inside.list.items c.args.self.now c.args.number c.in-Ok.place c.index_mut.result.now c.args.page c.self.invariant c.self.view_is
    c.in-Ok.ensures.found c.index_mut.ensures.value

pub returns-in-Ok-clause-ok : goal.returns-in-Ok-clause-ok
returns-in-Ok-clause-ok g c =
    page-finds c.self.inside.list.items c.args.self.now c.args.number c.in-Ok.place c.index_mut.result.now c.args.page c.self.invariant c.self.view_is
    c.in-Ok.ensures.found c.index_mut.ensures.value

pub invariant_of-self-in-Err : goal.invariant_of-self-in-Err
invariant_of-self-in-Err g c =
    more-rise c.self.inside.list.items c.args.self.now c.args.number c.in-Err.place c.args.page c.self.invariant c.self.view_is c.in-Err.ensures.absent
    c.insert.new.self.items c.in_ok-insert-in-Err.ensures.items

pub returns-in_ok-insert-in-Err-clause-ok : goal.returns-in_ok-insert-in-Err-clause-ok
returns-in_ok-insert-in-Err-clause-ok g c =
    more-find c.self.inside.list.items c.args.self.now c.args.number c.in-Err.place c.args.page c.self.invariant c.self.view_is c.in-Err.ensures.absent
    c.insert.new.self.items c.in_ok-insert-in-Err.ensures.items
