use Rattle.std.proofs.Common.{◌<◌, Some, refl, subst}
use Rattle.std.proofs.lemmas.Result.{on_ok_weaker, on_err_weaker}
use Rattle.chunk_maps.proofs.Pages.{page-set, page-same}
use Rattle.chunk_maps.proofs.page.put_on.Goals as goal

pub returns-in-Some-clause-ok : goal.returns-in-Some-clause-ok
returns-in-Some-clause-ok g c =
    on_ok_weaker c.put_in.result
    (page-set g.C.Chunk.values c.args.page.now.items c.place.result c.in-Some.chunk.now c.put_in.new.chunk
    (subst (λ n. c.place.result < n) c.args.page.now.ok.0 (c.in-Some.ensures.variant.0 refl))
    c.in-Some.ensures.value c.args.fileid (Some (g.C.Chunk.value c.args.item)) c.place.ensures)
    c.put_in.ensures.ok

pub returns-in-Some-clause-err : goal.returns-in-Some-clause-err
returns-in-Some-clause-err g c =
    on_err_weaker c.put_in.result
    (page-same g.C.Chunk.values c.args.page.now.items c.place.result c.in-Some.chunk.now c.put_in.new.chunk
    (subst (λ n. c.place.result < n) c.args.page.now.ok.0 (c.in-Some.ensures.variant.0 refl))
    c.in-Some.ensures.value)
    c.put_in.ensures.err
