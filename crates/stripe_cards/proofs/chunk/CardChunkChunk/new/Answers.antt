use Rattle.std.proofs.Common.{refl, ◌∙◌}
use Rattle.stripe_cards.specs.Cards.{card_of}
use Rattle.stripe_cards.specs.declared.packed.Packed.TheVariants.{Absent}
use Rattle.stripe_cards.specs.Cards.{packed_card}
use Rattle.chunk_maps.specs.SlotLaws.{used-first, long-first, slots-first}
use Rattle.stripe_cards.proofs.chunk.CardChunkChunk.new.Goals as goal

pub invariant_of-result : goal.invariant_of-result
invariant_of-result c =
    let blank = c.deref_mut.ensures.value ∙ c.in_ok-cards.ensures.ok in (
      long-first packed_card Absent refl c.deref_mut.result.now c.slot.result c.pack.result blank,
      used-first packed_card Absent refl c.deref_mut.result.now c.slot.result c.pack.result (card_of c.args.card) c.slot.ensures.within blank c.pack.ensures,
    )

pub returns : goal.returns
returns c =
    slots-first packed_card Absent refl c.deref_mut.result.now c.slot.result c.args.fileid c.pack.result (card_of c.args.card) c.slot.ensures.slot
    (c.deref_mut.ensures.value ∙ c.in_ok-cards.ensures.ok) c.pack.ensures
