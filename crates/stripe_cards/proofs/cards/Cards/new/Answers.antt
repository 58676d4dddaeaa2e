use Rattle.std.proofs.Common.{subst, sym}
use Rattle.chunk_maps.specs.Maps.{values_of}
use Rattle.stripe_cards.specs.Counts.{AreCounted}
use Rattle.chunk_maps.specs.MapLaws.{no-values}
use Rattle.stripe_cards.proofs.Counted.{none-counted}
use Rattle.stripe_cards.proofs.cards.Cards.new.Goals as goal

pub invariant_of-result : goal.invariant_of-result
invariant_of-result c =
    subst (λ counts. AreCounted counts (values_of c.new.result)) (sym c.no_touches.ensures)
    (none-counted (values_of c.new.result) (no-values c.new.result c.new.ensures))

pub returns : goal.returns
returns c = no-values c.new.result c.new.ensures
