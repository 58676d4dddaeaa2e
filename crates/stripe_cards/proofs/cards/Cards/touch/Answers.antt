use Rattle.std.proofs.Common.{sym, ap, subst, ◌∙◌, rules}
use Rattle.nfs_values.specs.Moment.{moment_of}
use Rattle.nfs_model.specs.volume.Maps.{changed_at}
use Rattle.nfs_model.specs.volume.Stripes.{card_touched}
use Rattle.chunk_maps.specs.Maps.{values_of}
use Rattle.stripe_cards.specs.Counts.{is_untouched, one_more, AreCounted, ChangesCount}
use Rattle.chunk_maps.specs.MapLaws.{get-values_of, changed-values}
use Rattle.stripe_cards.proofs.Counted.{counted-up, counted-touched}
use Rattle.stripe_cards.proofs.cards.Cards.touch.Goals as goal

pub invariant_of-self : goal.invariant_of-self
invariant_of-self c =
    let g = card_touched (moment_of c.args.moment) in
    let old = c.self.inside.chunks in
    subst (AreCounted c.count_up.new.counts)
    (sym (changed-values g c.args.fileid.0 old c.change-card.new.self (c.change-card.ensures.changed g (λ x y made. search rules))))
    (counted-up c.self.inside.touches (values_of old) c.args.fileid.0 (moment_of c.args.moment) c.count_up.new.counts
    (subst (λ q. ChangesCount one_more q c.self.inside.touches c.count_up.new.counts) c.class_of.ensures.class c.count_up.ensures) c.self.invariant)

pub invariant_of-self-else-is_untouched : goal.invariant_of-self-else-is_untouched
invariant_of-self-else-is_untouched c =
    let g = card_touched (moment_of c.args.moment) in
    let old = c.self.inside.chunks in
    subst (AreCounted c.self.inside.touches)
    (sym (changed-values g c.args.fileid.0 old c.change-card.new.self (c.change-card.ensures.changed g (λ x y made. search rules))))
    (counted-touched c.self.inside.touches (values_of old) c.args.fileid.0 (moment_of c.args.moment)
    (ap is_untouched (get-values_of old c.args.fileid.0 ∙ sym c.change-card.ensures.old) ∙ sym c.is_untouched.ensures ∙ c.if-is_untouched.false)
    c.self.invariant)

pub returns-then-is_untouched : goal.returns-then-is_untouched
returns-then-is_untouched c =
    let g = card_touched (moment_of c.args.moment) in
    changed-values g c.args.fileid.0 c.self.inside.chunks c.change-card.new.self (c.change-card.ensures.changed g (λ x y made. search rules))
    ∙ ap (changed_at g c.args.fileid.0) c.self.view_is

pub returns-else-is_untouched : goal.returns-else-is_untouched
returns-else-is_untouched c =
    let g = card_touched (moment_of c.args.moment) in
    changed-values g c.args.fileid.0 c.self.inside.chunks c.change-card.new.self (c.change-card.ensures.changed g (λ x y made. search rules))
    ∙ ap (changed_at g c.args.fileid.0) c.self.view_is
