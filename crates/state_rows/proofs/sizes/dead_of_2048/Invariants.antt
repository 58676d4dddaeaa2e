use Rattle.std.proofs.Common.{◌≡◌}
use Rattle.state_rows.proofs.sizes.dead_of_2048.Given as goal

abbrev pub invariant-loop-number : goal.invariant-loop-number
invariant-loop-number g l = l.dead.range_blocks ≡ 2048
