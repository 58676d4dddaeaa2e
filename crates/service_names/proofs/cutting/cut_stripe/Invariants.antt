use Rattle.std.specs.Prelude.{length}
use Rattle.nfs_model.specs.volume.Stripes.{numbers_freed}
use Rattle.service_names.proofs.Freed.{IsCutOn}
use Rattle.service_names.proofs.cutting.cut_stripe.Given as goal

-- what has left the file, and what is still to leave
abbrev pub invariant-loop-fileid : goal.invariant-loop-fileid
invariant-loop-fileid l = IsCutOn l.fileid.0 l.size l.initial.stripe l.initial.dead l.initial.filled l.stripe l.dead l.left

abbrev pub decreases-loop-fileid : goal.decreases-loop-fileid
decreases-loop-fileid l = length (numbers_freed l.fileid.0 l.size l.stripe)
