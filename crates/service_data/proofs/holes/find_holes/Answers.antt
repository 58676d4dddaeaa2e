use Rattle.std.proofs.Common.{◌/◌, arith}
use Rattle.nfs_model.specs.Server.{block_size}
use Rattle.nfs_model.specs.volume.Stripes.{is_filled}
use Rattle.filer_state.specs.state.Sets.{logical_before}
use Rattle.filer_state.specs.state.Tree.{home_stripe}
use Rattle.service_data.proofs.Holed.{found-next}
use Rattle.service_data.proofs.holes.find_holes.Goals as goal

pub loop-block-preserved : goal.loop-block-preserved
loop-block-preserved c = (
  let few = c.loop-block.invariant.0 in let more = c.note_hole-count.ensures.few in omega arith,
  found-next (λ b. is_filled (home_stripe (logical_before c.args.held.now).stripes c.args.fileid.0 b) c.args.fileid.0 b)
      (c.args.offset / block_size) c.loop-block.block c.is_filled-filled.result (omega arith) _ _ c.loop-block.invariant.1 c.is_filled-filled.ensures
      c.note_hole-count.ensures.found,
)
