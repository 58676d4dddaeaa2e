use Rattle.std.proofs.Common.{◌*◌, ◌/◌, ap, ◌∙◌}
use Rattle.nfs_model.specs.Server.{block_size}
use Rattle.nfs_model.specs.volume.Stripes.{block_mapped, byte_cut}
use Rattle.stripes.specs.Bytes.{bytes_mapped}
use Rattle.stripes.proofs.Bytes.{block-mapped}
use Rattle.stripes.proofs.block.Block.cut.Goals as goal

pub returns : goal.returns
returns c =
    let change = byte_cut c.args.size in
    let block = c.args.size / block_size in
    block-mapped change block (record { number = c.self.inside.number.0; bytes = c.self.inside.bytes.value }) c.cut_part.new.part c.self.invariant
    (c.cut_part.ensures ∙ ap (bytes_mapped change (block_size * block)) c.deref_mut.ensures.value)
    ∙ ap (block_mapped change block) c.self.view_is
