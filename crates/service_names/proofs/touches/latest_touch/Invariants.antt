use Rattle.std.proofs.Common.{◌≤◌}
use Rattle.std.specs.Option.{option_map}
use Rattle.nfs_values.specs.Moment.{moment_of}
use Rattle.filer_state.specs.state.Sets.{stripe_value, placed}
use Rattle.service_names.proofs.Latest.{IsTouchFrom}
use Rattle.service_names.proofs.touches.latest_touch.Given as goal

-- the latest touch of the stripes so far
abbrev pub invariant-loop-left : goal.invariant-loop-left
invariant-loop-left l = (l.left ≤ l.held.own.stripes)
    × IsTouchFrom (λ i. stripe_value (placed l.held.stripes.at i)) l.fileid.0 l.held.own.stripes l.left (option_map moment_of l.touch)

abbrev pub decreases-loop-left : goal.decreases-loop-left
decreases-loop-left l = l.left
