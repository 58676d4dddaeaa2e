use Rattle.std.proofs.Common.{◌/◌, None, refl, sym, ◌∙◌}
use Rattle.chunk_maps.specs.Chunks.{page_size}
use Rattle.chunk_maps.proofs.Numbers.{page-rises, value-was, pages-set}
use Rattle.chunk_maps.proofs.numbered.NumberedPages.take.Goals as goal

pub invariant_of-self : goal.invariant_of-self
invariant_of-self g c =
    page-rises c.self.inside.list.items c.args.self.now (c.args.fileid / page_size) c.args.place c.index_mut.result.now c.take_on.new.page c.self.invariant
    c.self.view_is c.requires c.index_mut.ensures.value

pub returns-clause-item : goal.returns-clause-item
returns-clause-item g c =
    c.take_on.ensures.item
    ∙ sym (value-was g.C.Chunk.values c.self.inside.list.items c.args.self.now (c.args.fileid / page_size) c.args.place c.index_mut.result.now
    c.take_on.new.page c.self.invariant c.self.view_is c.requires c.index_mut.ensures.value c.args.fileid refl)

pub returns-clause-gone : goal.returns-clause-gone
returns-clause-gone g c =
    pages-set g.C.Chunk.values c.self.inside.list.items c.args.self.now (c.args.fileid / page_size) c.args.place c.index_mut.result.now c.take_on.new.page
    c.self.invariant c.self.view_is c.requires c.index_mut.ensures.value c.args.fileid None refl c.take_on.ensures.gone
