use Rattle.chunk_maps.proofs.Numbers.{is-there}
use Rattle.chunk_maps.proofs.numbered.NumberedPages.is_at.Goals as goal

pub returns-in-Some : goal.returns-in-Some
returns-in-Some g c =
    is-there c.args.number c.args.place c.self.inside.list.items c.args.self.now c.deref.result.now c.in-Some.page.now c.self.view_is c.deref.ensures.value
    c.in-Some.ensures.lookup.3.0 c.in-Some.ensures.lookup.1
