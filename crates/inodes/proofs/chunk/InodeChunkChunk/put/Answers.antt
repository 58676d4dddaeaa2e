use Rattle.std.proofs.Common.{None, Some, refl, arith}
use Rattle.inodes.specs.Inode.{inode_value}
use Rattle.inodes.specs.Inode.{stored}
use Rattle.chunk_maps.specs.SlotLaws.{used-few, used-written, long-written, slots-written}
use Rattle.inodes.proofs.chunk.InodeChunkChunk.put.Goals as goal

pub overflow_add-self : goal.overflow_add-self
overflow_add-self c = let few = used-few stored None refl c.self.inside.inodes.value c.self.invariant.0 in omega (arith, few, c.self.invariant.1)

pub invariant_of-self : goal.invariant_of-self
invariant_of-self c =
    let inodes = c.self.inside.inodes.value in
    let sum = used-written stored None refl inodes c.deref.result.now c.deref_mut.result.now c.slot-slot.result (Some c.args.inode) c.self.invariant.0
    c.slot-slot.ensures.within c.deref.ensures c.deref_mut.ensures.value in (
      long-written stored None refl inodes c.deref_mut.result.now c.slot-slot.result (Some c.args.inode) c.self.invariant.0 c.deref_mut.ensures.value,
      omega (arith, sum, c.self.invariant.1, c.count.ensures),
    )

pub returns : goal.returns
returns c =
    slots-written stored None refl c.self.inside.inodes.value c.deref_mut.result.now c.slot-slot.result c.args.fileid (Some c.args.inode) (Some
    (inode_value c.args.inode))
    c.args.self.now c.self.invariant.0 c.slot-slot.ensures.slot c.deref_mut.ensures.value refl c.self.view_is
