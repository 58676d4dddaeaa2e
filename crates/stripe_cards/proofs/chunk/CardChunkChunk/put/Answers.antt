use Rattle.std.proofs.Common.{refl, ap, is_some, Some, arith}
use Rattle.stripe_cards.specs.Cards.{card_of}
use Rattle.chunk_maps.specs.Chunks.{one_if}
use Rattle.stripe_cards.specs.declared.packed.Packed.TheVariants.{Absent}
use Rattle.stripe_cards.specs.Cards.{packed_card}
use Rattle.chunk_maps.specs.SlotLaws.{used-few, used-written, long-written, slots-written}
use Rattle.stripe_cards.proofs.chunk.CardChunkChunk.put.Goals as goal

pub overflow_add-self : goal.overflow_add-self
overflow_add-self c = let few = used-few packed_card Absent refl c.self.inside.cards.value c.self.invariant.0 in omega (arith, few, c.self.invariant.1)

pub invariant_of-self : goal.invariant_of-self
invariant_of-self c =
    let cards = c.self.inside.cards.value in
    let sum = used-written packed_card Absent refl cards c.deref.result.now c.deref_mut.result.now c.slot-slot.result c.pack.result c.self.invariant.0
    c.slot-slot.ensures.within c.deref.ensures c.deref_mut.ensures.value in
    let one = ap (λ o. one_if (is_some o)) c.pack.ensures in (
      long-written packed_card Absent refl cards c.deref_mut.result.now c.slot-slot.result c.pack.result c.self.invariant.0 c.deref_mut.ensures.value,
      omega (arith, sum, one, c.self.invariant.1, c.count.ensures),
    )

pub returns : goal.returns
returns c =
    slots-written packed_card Absent refl c.self.inside.cards.value c.deref_mut.result.now c.slot-slot.result c.args.fileid c.pack.result (Some
    (card_of c.args.card))
    c.args.self.now c.self.invariant.0 c.slot-slot.ensures.slot c.deref_mut.ensures.value c.pack.ensures c.self.view_is
