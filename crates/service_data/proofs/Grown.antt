-- A directory's card stays as it is.
use Rattle.std.proofs.Common.{◌≡◌, ℕ, Option, Some, sym, ap, ◌∙◌}
use Rattle.std.specs.FinMap.{get}
use Rattle.nfs_model.specs.volume.Maps.{changed_value}
use Rattle.nfs_model.specs.volume.lemmas.Numbered.{insert-same}
use Rattle.nfs_model.specs.volume.Stripes.{Card, OfDirectory, StripeValue}
use Rattle.filer_state.specs.bytes.Extending.{card_grown, stripe_grown}

pub grown-directory : (fileid size : ℕ) (s : StripeValue) (card : Option Card)
    → card ≡ get s.cards fileid → Some OfDirectory ≡ card → s ≡ stripe_grown fileid size s
grown-directory fileid size s card found is =
    ap (λ cards. record s { cards = cards }) (sym (insert-same s.cards fileid OfDirectory (sym (is ∙ found))))
    ∙ ap (λ (x : Option Card). record s { cards = changed_value (card_grown size) x fileid s.cards }) (is ∙ found)
