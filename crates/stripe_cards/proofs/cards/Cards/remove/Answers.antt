use Rattle.std.proofs.Common.{is_some, sym, ap, subst, ◌∙◌}
use Rattle.std.specs.FinMap.{remove}
use Rattle.nfs_model.specs.volume.Stripes.{touch_of}
use Rattle.chunk_maps.specs.Maps.{values_of}
use Rattle.stripe_cards.specs.Counts.{one_less, AreCounted, ChangesCount}
use Rattle.chunk_maps.specs.MapLaws.{get-values_of, removed-values}
use Rattle.stripe_cards.proofs.Counted.{counted-removed, counted-removed-down}
use Rattle.stripe_cards.proofs.cards.Cards.remove.Goals as goal

pub invariant_of-self : goal.invariant_of-self
invariant_of-self c =
    let old = c.self.inside.chunks in
    subst (AreCounted c.count_down.new.counts) (sym (removed-values c.args.fileid.0 old c.remove-card.new.self c.remove-card.ensures.gone))
    (counted-removed-down c.self.inside.touches (values_of old) c.args.fileid.0 c.count_down.new.counts
    (ap (λ o. is_some (touch_of o)) (get-values_of old c.args.fileid.0)
    ∙ ap (λ o. is_some (touch_of o)) (sym c.remove-card.ensures.item) ∙ sym c.is_touched.ensures ∙ c.if-is_touched.true)
    (subst (λ q. ChangesCount one_less q c.self.inside.touches c.count_down.new.counts) c.class_of.ensures.class c.count_down.ensures)
    c.self.invariant)

pub invariant_of-self-else-is_touched : goal.invariant_of-self-else-is_touched
invariant_of-self-else-is_touched c =
    let old = c.self.inside.chunks in
    subst (AreCounted c.self.inside.touches) (sym (removed-values c.args.fileid.0 old c.remove-card.new.self c.remove-card.ensures.gone))
    (counted-removed c.self.inside.touches (values_of old) c.args.fileid.0 c.self.invariant)

pub returns-then-is_touched : goal.returns-then-is_touched
returns-then-is_touched c =
    removed-values c.args.fileid.0 c.self.inside.chunks c.remove-card.new.self c.remove-card.ensures.gone
    ∙ ap (λ m. remove m c.args.fileid.0) c.self.view_is

pub returns-else-is_touched : goal.returns-else-is_touched
returns-else-is_touched c =
    removed-values c.args.fileid.0 c.self.inside.chunks c.remove-card.new.self c.remove-card.ensures.gone
    ∙ ap (λ m. remove m c.args.fileid.0) c.self.view_is
