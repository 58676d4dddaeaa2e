use Rattle.std.proofs.Common.{sym, ap, subst, ◌∙◌, rules}
use Rattle.nfs_values.specs.Ownership.{ownership_of}
use Rattle.nfs_model.specs.volume.Maps.{changed_at}
use Rattle.nfs_model.specs.volume.Stripes.{card_owned}
use Rattle.chunk_maps.specs.MapLaws.{changed-values}
use Rattle.chunk_maps.specs.Maps.{values_of}
use Rattle.stripe_cards.specs.Counts.{AreCounted}
use Rattle.stripe_cards.proofs.Counted.{counted-owned}
use Rattle.stripe_cards.proofs.cards.Cards.set_owner.Goals as goal

pub returns : goal.returns
returns c =
    let g = card_owned (ownership_of c.args.owner) in
    changed-values g c.args.fileid.0 c.self.inside.chunks c.change.new.self (c.change.ensures.changed g (λ x y made. search rules))
    ∙ ap (changed_at g c.args.fileid.0) c.self.view_is

pub invariant_of-self : goal.invariant_of-self
invariant_of-self c =
    let g = card_owned (ownership_of c.args.owner) in
    subst (AreCounted c.self.inside.touches)
    (sym (changed-values g c.args.fileid.0 c.self.inside.chunks c.change.new.self (c.change.ensures.changed g (λ x y made. search rules))))
    (counted-owned c.self.inside.touches (values_of c.self.inside.chunks) c.args.fileid.0 (ownership_of c.args.owner) c.self.invariant)
