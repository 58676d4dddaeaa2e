use Rattle.std.proofs.Common.{ap, ◌∙◌}
use Rattle.memos.specs.Kept.{memos_kept}
use Rattle.memos.proofs.Places.{none-kept}
use Rattle.memos.proofs.memos.Memos.new.Goals as goal

pub returns-clause-memos : goal.returns-clause-memos
returns-clause-memos c =
    ap memos_kept (c.in_ok-places.ensures.items_if_clones_equal (λ y same. same)) ∙ none-kept c.args.places c.empty.result c.empty.ensures
