use Rattle.std.proofs.Common.{rules, ◌∙◌, is_some}
use Rattle.std.proofs.lemmas.Fn.{filter_same}
use Rattle.scheduler.proofs.Present.{some-of}
use Rattle.scheduler.proofs.cells.drop_vacant.Goals as goal

pub returns-clause-messages : goal.returns-clause-messages
returns-clause-messages g c =
    filter_same _ (λ o. is_some o) _ (λ x b f' k. search rules) _ _ c.retain.ensures.filtered ∙ some-of c.args.messages.now.items
