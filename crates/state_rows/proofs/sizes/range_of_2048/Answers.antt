use Rattle.std.proofs.Common.{refl, arith}
use Rattle.state_rows.proofs.sizes.range_of_2048.Goals as goal

pub new-requires-clause-size : goal.new-requires-clause-size
new-requires-clause-size g c = record { doublings = 1; is = refl; most = omega arith }
