use Rattle.std.proofs.Common.{rules}
use Rattle.std.proofs.lemmas.List.Sorted.{answers_always}
use Rattle.outboxes.proofs.Places.{searched}
use Rattle.outboxes.proofs.box_list.search.Goals as goal

-- the closure tells an outbox's number
pub returns : goal.returns
returns c =
    let facts = c.binary_search_by_key.ensures in
    searched c.args.number c.args.list.now c.binary_search_by_key.result c.requires facts.bound
    (facts.position (λ e. e.0) (answers_always _ _ _ (λ f a r h called. search rules)))
