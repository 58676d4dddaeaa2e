use Rattle.std.proofs.Common.{◌≡◌, ◌≤◌, ◌-◌, not, take}
use Rattle.std.specs.List.{filter, range_with_len}
use Rattle.nfs_model.specs.volume.Stripes.{is_filled}
use Rattle.filer_state.specs.state.Sets.{logical_before}
use Rattle.filer_state.specs.state.Tree.{home_stripe}
use Rattle.service_data.proofs.holes.find_holes.Given as goal

-- the holes among the blocks so far
abbrev pub invariant-loop-block : goal.invariant-loop-block
invariant-loop-block l = (l.count ≤ l.block - l.first)
    × (take l.count l.found ≡ filter (λ b. not (is_filled (home_stripe (logical_before l.held).stripes l.fileid.0 b) l.fileid.0 b))
    (range_with_len l.first (l.block - l.first)))
