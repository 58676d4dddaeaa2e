use Rattle.std.proofs.Common.{None, ◌∙◌, refl, Some}
use Rattle.inodes.specs.Inode.{inode_value}
use Rattle.inodes.specs.Inode.{stored}
use Rattle.chunk_maps.specs.SlotLaws.{used-first, long-first, slots-first}
use Rattle.inodes.proofs.chunk.InodeChunkChunk.new.Goals as goal

pub invariant_of-result : goal.invariant_of-result
invariant_of-result c =
    let blank = c.deref_mut.ensures.value ∙ c.in_ok-inodes.ensures.ok in (
      long-first stored None refl c.deref_mut.result.now c.slot.result (Some c.args.inode) blank,
      used-first stored None refl c.deref_mut.result.now c.slot.result (Some c.args.inode) (inode_value c.args.inode) c.slot.ensures.within blank refl,
    )

pub returns : goal.returns
returns c =
    slots-first stored None refl c.deref_mut.result.now c.slot.result c.args.fileid (Some c.args.inode) (inode_value c.args.inode) c.slot.ensures.slot
    (c.deref_mut.ensures.value ∙ c.in_ok-inodes.ensures.ok) refl
