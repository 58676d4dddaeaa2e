use Rattle.std.proofs.Common.{Some, sym, ap, ◌∙◌}
use Rattle.std.specs.Option.{option_map}
use Rattle.stripe_cards.specs.Cards.{card_of}
use Rattle.service_data.proofs.Grown.{grown-directory}
use Rattle.service_data.proofs.homes.grow_card.Goals as goal

pub returns-in-Some-Directory : goal.returns-in-Some-Directory
returns-in-Some-Directory c =
    grown-directory c.args.fileid.0 c.args.size c.args.stripe.now (option_map card_of c.card.result) c.card.ensures.card
    (sym (ap (option_map card_of) (c.in-Some-Directory.is ∙ ap Some c.in-Some-Directory.field-0-is)))
