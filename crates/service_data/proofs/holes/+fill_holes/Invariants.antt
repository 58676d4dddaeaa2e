use Rattle.std.proofs.Common.{length}
use Rattle.service_data.proofs.holes.+fill_holes.Given as goal

abbrev pub decreases-fill_holes : goal.decreases-fill_holes
decreases-fill_holes l = length l.holes.now
