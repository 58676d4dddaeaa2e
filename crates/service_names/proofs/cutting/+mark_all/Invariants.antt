use Rattle.std.proofs.Common.{length}
use Rattle.service_names.proofs.cutting.+mark_all.Given as goal

abbrev pub decreases-mark_all : goal.decreases-mark_all
decreases-mark_all l = length l.blocks.now
