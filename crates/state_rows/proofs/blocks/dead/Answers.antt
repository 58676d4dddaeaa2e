use Rattle.std.proofs.Common.{refl, arith}
use Rattle.state_rows.proofs.blocks.dead.Goals as goal

pub new-requires : goal.new-requires
new-requires g c = record { doublings = 0; is = refl; most = omega arith }
