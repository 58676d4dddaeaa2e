use Rattle.std.proofs.Common.{◌≤◌}
use Rattle.std.specs.Option.{option_map}
use Rattle.nfs_values.specs.Ownership.{ownership_of}
use Rattle.service_names.proofs.Sized.{AreSizedFrom}
use Rattle.service_names.proofs.cutting.size_stripes.Given as goal

-- the file has its size in the stripes so far
abbrev pub invariant-loop-left : goal.invariant-loop-left
invariant-loop-left l = (l.left ≤ l.initial.held.own.stripes)
    × AreSizedFrom l.fileid.0 l.size (option_map ownership_of l.owner) l.initial.held.own.stripes l.initial.held.stripes.at l.initial.held.own l.filled l.left
    l.held.stripes.at l.held.own l.rest

abbrev pub decreases-loop-left : goal.decreases-loop-left
decreases-loop-left l = l.left
