use Rattle.std.proofs.Common.{refl, arith}
use Rattle.state_rows.proofs.sizes.dead_of_largest.Goals as goal

pub new-requires : goal.new-requires
new-requires g c = record { doublings = 14; is = refl; most = omega arith }
