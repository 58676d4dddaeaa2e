use Rattle.std.proofs.Common.{rules}
use Rattle.std.proofs.lemmas.List.Sorted.{answers_always}
use Rattle.chunk_maps.proofs.Numbers.{halved}
use Rattle.chunk_maps.proofs.numbered.NumberedPages.search.Goals as goal

-- the closure tells a page's number
pub returns : goal.returns
returns g c =
    let facts = c.binary_search_by_key.ensures in
    let by_number = facts.position (λ page. page.0) (answers_always _ _ _ (λ f a r h called. search rules)) in
    halved c.args.number c.self.inside.list.items c.args.self.now c.deref.result.now c.binary_search_by_key.result c.self.invariant c.self.view_is
    c.deref.ensures.value facts.bound by_number
