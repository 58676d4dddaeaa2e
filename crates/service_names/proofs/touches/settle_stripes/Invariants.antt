use Rattle.std.proofs.Common.{◌≡◌, ◌≤◌}
use Rattle.nfs_values.specs.Ownership.{ownership_of}
use Rattle.service_names.proofs.Putting.{AreFrom}
use Rattle.service_names.proofs.Settling.{IsSettled}
use Rattle.service_names.proofs.touches.settle_stripes.Given as goal

-- the node settled in the stripes so far
abbrev pub invariant-loop-left : goal.invariant-loop-left
invariant-loop-left l = (l.left ≤ l.initial.held.own.stripes) × (l.held.own ≡ l.initial.held.own)
    × AreFrom (IsSettled l.fileid.0 (ownership_of l.owner)) l.initial.held.own.stripes l.initial.held.stripes.at l.left l.held.stripes.at

abbrev pub decreases-loop-left : goal.decreases-loop-left
decreases-loop-left l = l.left
