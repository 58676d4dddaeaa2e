use Rattle.std.proofs.Common.{◌/◌, refl, sym, ◌∙◌}
use Rattle.chunk_maps.specs.Chunks.{page_size}
use Rattle.chunk_maps.proofs.Numbers.{page-rises, value-was, pages-changed}
use Rattle.chunk_maps.proofs.numbered.NumberedPages.change.Goals as goal

pub invariant_of-self : goal.invariant_of-self
invariant_of-self g c =
    page-rises c.self.inside.list.items c.args.self.now (c.args.fileid / page_size) c.args.place c.index_mut.result.now c.change_on.new.page c.self.invariant
    c.self.view_is c.requires.there c.index_mut.ensures.value

pub returns-clause-old : goal.returns-clause-old
returns-clause-old g c =
    c.change_on.ensures.old
    ∙ sym (value-was g.C.Chunk.values c.self.inside.list.items c.args.self.now (c.args.fileid / page_size) c.args.place c.index_mut.result.now
    c.change_on.new.page c.self.invariant c.self.view_is c.requires.there c.index_mut.ensures.value c.args.fileid refl)

pub returns-clause-changed : goal.returns-clause-changed
returns-clause-changed g c = λ h known.
    pages-changed g.C.Chunk.values c.self.inside.list.items c.args.self.now (c.args.fileid / page_size) c.args.place c.index_mut.result.now
    c.change_on.new.page c.self.invariant c.self.view_is c.requires.there c.index_mut.ensures.value c.args.fileid h refl (c.change_on.ensures.changed h known)
