use Rattle.std.proofs.Common.{length}
use Rattle.service_data.proofs.parts.+number_blocks.Given as goal

abbrev pub decreases-number_blocks : goal.decreases-number_blocks
decreases-number_blocks l = length l.blocks.now
