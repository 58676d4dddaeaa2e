use Rattle.std.proofs.Common.{arith, inr}
use Rattle.server_options.proofs.Doubled.{doubled}
use Rattle.server_options.proofs.plan.range_blocks_for.Goals as goal

pub loop-range_blocks-preserved : goal.loop-range_blocks-preserved
loop-range_blocks-preserved c =
    let less = c.loop-range_blocks-test.true in
    record {
      size = doubled c.loop-range_blocks.range_blocks c.args.blocks c.loop-range_blocks.invariant.size less c.requires;
      fewest = inr (omega (arith, less));
    }
