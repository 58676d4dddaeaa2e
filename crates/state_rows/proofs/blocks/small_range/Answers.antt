use Rattle.std.proofs.Common.{refl, arith}
use Rattle.state_rows.proofs.blocks.small_range.Goals as goal

pub new-requires-clause-size : goal.new-requires-clause-size
new-requires-clause-size g c = record { doublings = 0; is = refl; most = omega arith }
