use Rattle.std.proofs.Common.{length}
use Rattle.service_data.proofs.holes.+number_holes.Given as goal

abbrev pub decreases-number_holes : goal.decreases-number_holes
decreases-number_holes l = length l.blocks.now
