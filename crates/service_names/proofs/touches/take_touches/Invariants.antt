use Rattle.std.proofs.Common.{◌≡◌, ◌≤◌}
use Rattle.std.specs.Option.{option_map}
use Rattle.nfs_values.specs.Moment.{moment_of}
use Rattle.service_names.proofs.Taking.{AreTakenFrom}
use Rattle.service_names.proofs.touches.take_touches.Given as goal

-- the touches of the stripes so far are taken
abbrev pub invariant-loop-left : goal.invariant-loop-left
invariant-loop-left l = (l.left ≤ l.initial.held.own.stripes) × (l.held.own ≡ l.initial.held.own)
    × AreTakenFrom l.fileid.0 l.initial.held.own.stripes l.initial.held.stripes.at l.left (option_map moment_of l.touch) l.held.stripes.at

abbrev pub decreases-loop-left : goal.decreases-loop-left
decreases-loop-left l = l.left
