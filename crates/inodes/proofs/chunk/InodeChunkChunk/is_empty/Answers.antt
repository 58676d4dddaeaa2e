use Rattle.std.proofs.Common.{None, refl, ap, sym, ◌∙◌, arith}
use Rattle.std.proofs.lemmas.Bool.Decides.{nat_tests}
use Rattle.chunk_maps.specs.Chunks.{slot_of}
use Rattle.inodes.specs.Inode.{stored}
use Rattle.chunk_maps.specs.SlotLaws.{none-in}
use Rattle.inodes.proofs.chunk.InodeChunkChunk.is_empty.Goals as goal

pub returns : goal.returns
returns c = λ empty q.
    ap (λ l. slot_of l q) (sym c.self.view_is)
    ∙ none-in stored None refl c.self.inside.inodes.value (sym c.self.invariant.1 ∙ grind (arith, nat_tests, empty)) q
