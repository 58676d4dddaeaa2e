use Rattle.std.proofs.Common.{◌/◌}
use Rattle.chunk_maps.specs.Chunks.{page_chunks}
use Rattle.chunk_maps.proofs.Numbers.{page-rises, pages-same, pages-none}
use Rattle.chunk_maps.proofs.numbered.NumberedPages.free.Goals as goal

pub invariant_of-self : goal.invariant_of-self
invariant_of-self g c =
    page-rises c.self.inside.list.items c.args.self.now (c.args.number / page_chunks) c.args.place c.index_mut.result.now c.free_on.new.page c.self.invariant
    c.self.view_is c.requires c.index_mut.ensures.value

pub returns-clause-same : goal.returns-clause-same
returns-clause-same g c =
    pages-same g.C.Chunk.values c.self.inside.list.items c.args.self.now (c.args.number / page_chunks) c.args.place c.index_mut.result.now c.free_on.new.page
    c.self.invariant c.self.view_is c.requires c.index_mut.ensures.value c.free_on.ensures.same

pub returns-clause-none : goal.returns-clause-none
returns-clause-none g c = λ empty.
    pages-none g.C.Chunk.values c.self.inside.list.items c.args.self.now (c.args.number / page_chunks) c.args.place c.index_mut.result.now c.free_on.new.page
    c.self.invariant c.self.view_is c.requires c.index_mut.ensures.value (c.free_on.ensures.none empty)
