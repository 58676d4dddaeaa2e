use Rattle.std.proofs.Common.{◌/◌, Some, IsSome, refl, subst}
use Rattle.std.proofs.lemmas.Result.{on_ok_weaker, on_err_weaker}
use Rattle.chunk_maps.specs.Chunks.{page_size}
use Rattle.chunk_maps.proofs.Numbers.{page-rises, value-was, pages-set, pages-same}
use Rattle.chunk_maps.proofs.numbered.NumberedPages.put.Goals as goal

pub invariant_of-self : goal.invariant_of-self
invariant_of-self g c =
    page-rises c.self.inside.list.items c.args.self.now (c.args.fileid / page_size) c.args.place c.index_mut.result.now c.put_on.new.page c.self.invariant
    c.self.view_is c.requires c.index_mut.ensures.value

pub returns-clause-ok : goal.returns-clause-ok
returns-clause-ok g c =
    on_ok_weaker c.put_on.result
    (pages-set g.C.Chunk.values c.self.inside.list.items c.args.self.now (c.args.fileid / page_size) c.args.place c.index_mut.result.now c.put_on.new.page
    c.self.invariant c.self.view_is c.requires c.index_mut.ensures.value c.args.fileid (Some (g.C.Chunk.value c.args.item)) refl)
    c.put_on.ensures.ok

pub returns-clause-err : goal.returns-clause-err
returns-clause-err g c =
    on_err_weaker c.put_on.result
    (pages-same g.C.Chunk.values c.self.inside.list.items c.args.self.now (c.args.fileid / page_size) c.args.place c.index_mut.result.now c.put_on.new.page
    c.self.invariant c.self.view_is c.requires c.index_mut.ensures.value)
    c.put_on.ensures.err

pub returns-clause-succeeds : goal.returns-clause-succeeds
returns-clause-succeeds g c = λ some.
    c.put_on.ensures.succeeds
    (subst (λ o. IsSome o)
    (value-was g.C.Chunk.values c.self.inside.list.items c.args.self.now (c.args.fileid / page_size) c.args.place c.index_mut.result.now c.put_on.new.page
    c.self.invariant c.self.view_is c.requires c.index_mut.ensures.value c.args.fileid refl)
    some)
