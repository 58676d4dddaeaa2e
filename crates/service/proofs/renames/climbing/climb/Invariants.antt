use Rattle.std.proofs.Common.{◌≡◌}
use Rattle.service_names.specs.RenamingChanges.{climbs}
use Rattle.service.proofs.renames.climbing.climb.Given as goal

-- what is left of the climb answers for all of it
abbrev pub invariant-loop-left : goal.invariant-loop-left
invariant-loop-left l =
    climbs l.left l.held.own.inodes.inodes l.target.0 l.at.0 ≡ climbs l.held.own.most_steps l.held.own.inodes.inodes l.target.0 l.fn.fileid.0

abbrev pub decreases-loop-left : goal.decreases-loop-left
decreases-loop-left l = l.left
