use Rattle.std.proofs.Common.{sym, ap, ◌∙◌}
use Rattle.std.specs.FinMap.{get}
use Rattle.nfs_model.specs.volume.Stripes.{touch_of}
use Rattle.chunk_maps.specs.Maps.{values_of}
use Rattle.stripe_cards.proofs.Counted.{no-touch}
use Rattle.stripe_cards.proofs.cards.Cards.touch_of.Goals as goal

pub returns-then-self-class_of-eq0 : goal.returns-then-self-class_of-eq0
returns-then-self-class_of-eq0 c =
    sym (ap (λ m. touch_of (get m c.args.fileid.0)) (sym c.self.view_is)
    ∙ no-touch c.self.inside.touches (values_of c.self.inside.chunks) c.args.fileid.0 c.self.invariant
    (rw c.class_of.ensures.class at c.if-self-class_of-eq0.true))
