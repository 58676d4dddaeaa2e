use Rattle.chunk_maps.proofs.Numbers.{fewer-rise, fewer-find}
use Rattle.chunk_maps.proofs.numbered.NumberedPages.remove.Goals as goal

pub invariant_of-self : goal.invariant_of-self
invariant_of-self g c =
    fewer-rise c.self.inside.list.items c.args.self.now c.args.number c.in-Ok.place c.self.invariant c.self.view_is c.in-Ok.ensures.found
    c.remove.new.self.items c.remove.ensures.items

pub returns-in-Ok : goal.returns-in-Ok
returns-in-Ok g c =
    fewer-find c.self.inside.list.items c.args.self.now c.args.number c.in-Ok.place c.self.invariant c.self.view_is c.in-Ok.ensures.found
    c.remove.new.self.items c.remove.ensures.items
