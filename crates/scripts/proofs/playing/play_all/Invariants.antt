use Rattle.std.proofs.Common.{length}
use Rattle.scripts.proofs.playing.play_all.Given as goal

abbrev pub decreases-loop-text : goal.decreases-loop-text
decreases-loop-text g l = length l.script.rest.now
