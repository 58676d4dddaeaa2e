use Rattle.std.proofs.Common.{is_some, sym, ap, subst, ◌∙◌, rules}
use Rattle.std.specs.FinMap.{get}
use Rattle.nfs_values.specs.Moment.{moment_of}
use Rattle.nfs_model.specs.volume.Maps.{changed_at}
use Rattle.nfs_model.specs.volume.Stripes.{touch_of, card_settled}
use Rattle.chunk_maps.specs.Maps.{values_of}
use Rattle.stripe_cards.specs.Counts.{one_less, AreCounted, ChangesCount}
use Rattle.chunk_maps.specs.MapLaws.{get-values_of, changed-values}
use Rattle.stripe_cards.proofs.Changed.{some-mapped}
use Rattle.stripe_cards.proofs.Counted.{no-touch, settled-none, counted-settled, counted-settled-down}
use Rattle.stripe_cards.proofs.cards.Cards.take_touch.Goals as goal

pub invariant_of-self : goal.invariant_of-self
invariant_of-self c =
    let old = c.self.inside.chunks in
    subst (AreCounted c.count_down.new.counts)
    (sym (changed-values card_settled c.args.fileid.0 old c.change.new.self (c.change.ensures.changed card_settled (λ x y made. search rules))))
    (counted-settled-down c.self.inside.touches (values_of old) c.args.fileid.0 c.count_down.new.counts
    (ap (λ o. is_some (touch_of o)) (get-values_of old c.args.fileid.0 ∙ sym c.change.ensures.old)
    ∙ sym (ap (λ o. is_some o) c.touch_on-touch.ensures)
    ∙ some-mapped moment_of c.touch_on-touch.result ∙ sym c.is_some.ensures ∙ c.if-is_some.true)
    (subst (λ q. ChangesCount one_less q c.self.inside.touches c.count_down.new.counts) c.class_of-class.ensures.class c.count_down.ensures)
    c.self.invariant)

pub invariant_of-self-else-is_some : goal.invariant_of-self-else-is_some
invariant_of-self-else-is_some c =
    let old = c.self.inside.chunks in
    subst (AreCounted c.self.inside.touches)
    (sym (changed-values card_settled c.args.fileid.0 old c.change.new.self (c.change.ensures.changed card_settled (λ x y made. search rules))))
    (counted-settled c.self.inside.touches (values_of old) c.args.fileid.0 c.self.invariant)

pub returns-then-is_some-clause-touch : goal.returns-then-is_some-clause-touch
returns-then-is_some-clause-touch c =
    c.touch_on-touch.ensures
    ∙ ap touch_of (c.change.ensures.old ∙ sym (get-values_of c.self.inside.chunks c.args.fileid.0) ∙ ap (λ m. get m c.args.fileid.0) c.self.view_is)

pub returns-else-is_some-clause-touch : goal.returns-else-is_some-clause-touch
returns-else-is_some-clause-touch c =
    c.touch_on-touch.ensures
    ∙ ap touch_of (c.change.ensures.old ∙ sym (get-values_of c.self.inside.chunks c.args.fileid.0) ∙ ap (λ m. get m c.args.fileid.0) c.self.view_is)

pub returns-then-is_some-clause-taken : goal.returns-then-is_some-clause-taken
returns-then-is_some-clause-taken c =
    changed-values card_settled c.args.fileid.0 c.self.inside.chunks c.change.new.self (c.change.ensures.changed card_settled (λ x y made. search rules))
    ∙ ap (changed_at card_settled c.args.fileid.0) c.self.view_is

pub returns-else-is_some-clause-taken : goal.returns-else-is_some-clause-taken
returns-else-is_some-clause-taken c =
    changed-values card_settled c.args.fileid.0 c.self.inside.chunks c.change.new.self (c.change.ensures.changed card_settled (λ x y made. search rules))
    ∙ ap (changed_at card_settled c.args.fileid.0) c.self.view_is

pub returns-then-self-class-eq0-clause-touch : goal.returns-then-self-class-eq0-clause-touch
returns-then-self-class-eq0-clause-touch c =
    sym (ap (λ m. touch_of (get m c.args.fileid.0)) (sym c.self.view_is)
    ∙ no-touch c.self.inside.touches (values_of c.self.inside.chunks) c.args.fileid.0 c.self.invariant
    (rw c.class_of-class.ensures.class at c.if-self-class-eq0.true))

pub returns-then-self-class-eq0-clause-taken : goal.returns-then-self-class-eq0-clause-taken
returns-then-self-class-eq0-clause-taken c =
    settled-none c.args.self.now c.args.fileid.0 (ap (λ m. touch_of (get m c.args.fileid.0)) (sym c.self.view_is)
    ∙ no-touch c.self.inside.touches (values_of c.self.inside.chunks) c.args.fileid.0 c.self.invariant
    (rw c.class_of-class.ensures.class at c.if-self-class-eq0.true))
