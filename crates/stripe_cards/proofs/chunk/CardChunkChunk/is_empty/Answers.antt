use Rattle.std.proofs.Common.{refl, ap, sym, ◌∙◌, arith}
use Rattle.std.proofs.lemmas.Bool.Decides.{nat_tests}
use Rattle.chunk_maps.specs.Chunks.{slot_of}
use Rattle.stripe_cards.specs.declared.packed.Packed.TheVariants.{Absent}
use Rattle.stripe_cards.specs.Cards.{packed_card}
use Rattle.chunk_maps.specs.SlotLaws.{none-in}
use Rattle.stripe_cards.proofs.chunk.CardChunkChunk.is_empty.Goals as goal

pub returns : goal.returns
returns c = λ empty q.
    ap (λ l. slot_of l q) (sym c.self.view_is)
    ∙ none-in packed_card Absent refl c.self.inside.cards.value (sym c.self.invariant.1 ∙ grind (arith, nat_tests, empty)) q
