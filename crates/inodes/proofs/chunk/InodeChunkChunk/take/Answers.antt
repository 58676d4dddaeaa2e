use Rattle.std.proofs.Common.{None, refl, arith}
use Rattle.inodes.specs.Inode.{stored}
use Rattle.chunk_maps.specs.SlotLaws.{used-written, long-written, slots-written}
use Rattle.inodes.proofs.chunk.InodeChunkChunk.take.Goals as goal

pub overflow_sub-self : goal.overflow_sub-self
overflow_sub-self c =
    let sum = used-written stored None refl c.self.inside.inodes.value c.deref.result.now c.deref_mut.result.now c.slot-slot.result None c.self.invariant.0
    c.slot-slot.ensures.within c.deref.ensures c.deref_mut.ensures.value in
    omega (arith, sum, c.self.invariant.1, c.count.ensures)

pub invariant_of-self : goal.invariant_of-self
invariant_of-self c =
    let inodes = c.self.inside.inodes.value in
    let sum = used-written stored None refl inodes c.deref.result.now c.deref_mut.result.now c.slot-slot.result None c.self.invariant.0
    c.slot-slot.ensures.within c.deref.ensures c.deref_mut.ensures.value in (
      long-written stored None refl inodes c.deref_mut.result.now c.slot-slot.result None c.self.invariant.0 c.deref_mut.ensures.value,
      omega (arith, sum, c.self.invariant.1, c.count.ensures),
    )

pub returns-clause-gone : goal.returns-clause-gone
returns-clause-gone c =
    slots-written stored None refl c.self.inside.inodes.value c.deref_mut.result.now c.slot-slot.result c.args.fileid None None
    c.args.self.now c.self.invariant.0 c.slot-slot.ensures.slot c.deref_mut.ensures.value refl c.self.view_is
