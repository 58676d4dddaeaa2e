use Rattle.std.proofs.Common.{sym, ap, ◌∙◌}
use Rattle.std.specs.FinMap.{get}
use Rattle.chunk_maps.specs.MapLaws.{get-values_of}
use Rattle.stripe_cards.proofs.cards.Cards.get.Goals as goal

pub returns : goal.returns
returns c =
    c.get.ensures ∙ sym (get-values_of c.self.inside.chunks c.args.fileid.0) ∙ ap (λ m. get m c.args.fileid.0) c.self.view_is
