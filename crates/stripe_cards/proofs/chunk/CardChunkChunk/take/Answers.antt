use Rattle.std.proofs.Common.{None, refl, arith}
use Rattle.stripe_cards.specs.declared.packed.Packed.TheVariants.{Absent}
use Rattle.stripe_cards.specs.Cards.{packed_card}
use Rattle.chunk_maps.specs.SlotLaws.{used-written, long-written, slots-written}
use Rattle.stripe_cards.proofs.chunk.CardChunkChunk.take.Goals as goal

pub overflow_sub-self : goal.overflow_sub-self
overflow_sub-self c =
    let sum = used-written packed_card Absent refl c.self.inside.cards.value c.deref.result.now c.deref_mut.result.now c.slot-slot.result Absent
    c.self.invariant.0
    c.slot-slot.ensures.within c.deref.ensures c.deref_mut.ensures.value in
    omega (arith, sum, c.self.invariant.1, c.count.ensures)

pub invariant_of-self : goal.invariant_of-self
invariant_of-self c =
    let cards = c.self.inside.cards.value in
    let sum = used-written packed_card Absent refl cards c.deref.result.now c.deref_mut.result.now c.slot-slot.result Absent c.self.invariant.0
    c.slot-slot.ensures.within c.deref.ensures c.deref_mut.ensures.value in (
      long-written packed_card Absent refl cards c.deref_mut.result.now c.slot-slot.result Absent c.self.invariant.0 c.deref_mut.ensures.value,
      omega (arith, sum, c.self.invariant.1, c.count.ensures),
    )

pub returns-clause-gone : goal.returns-clause-gone
returns-clause-gone c =
    slots-written packed_card Absent refl c.self.inside.cards.value c.deref_mut.result.now c.slot-slot.result c.args.fileid Absent None
    c.args.self.now c.self.invariant.0 c.slot-slot.ensures.slot c.deref_mut.ensures.value refl c.self.view_is
