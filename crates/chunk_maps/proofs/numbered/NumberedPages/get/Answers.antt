use Rattle.chunk_maps.proofs.Numbers.{found-there}
use Rattle.chunk_maps.proofs.numbered.NumberedPages.get.Goals as goal

pub returns-in-Ok : goal.returns-in-Ok
returns-in-Ok g c =
    found-there c.args.number c.in-Ok.place c.self.inside.list.items c.args.self.now c.index.result.now c.self.invariant c.self.view_is
    c.in-Ok.ensures.found c.index.ensures
