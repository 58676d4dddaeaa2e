use Rattle.std.proofs.Common.{◌≡◌, ◌*◌, ◌-◌, ◌<◌, ◌⊎◌}
use Rattle.nfs_model.specs.volume.Ranges.{IsRangeSize}
use Rattle.server_options.proofs.plan.range_blocks_for.Given as goal

-- 16 ranges of half as many blocks would not do
abbrev pub invariant-loop-range_blocks : goal.invariant-loop-range_blocks
invariant-loop-range_blocks l = record {
  size : IsRangeSize l.range_blocks;
  fewest : (l.range_blocks ≡ 1024) ⊎ (8 * l.range_blocks < l.fn.blocks);
}

abbrev pub decreases-loop-range_blocks : goal.decreases-loop-range_blocks
decreases-loop-range_blocks l = l.fn.blocks - l.range_blocks
