use Rattle.std.proofs.Common.{◌≡◌}
use Rattle.state_rows.proofs.blocks.hundred_dead.Given as goal

abbrev pub invariant-loop-number : goal.invariant-loop-number
invariant-loop-number g l = l.dead.range_blocks ≡ 1024
