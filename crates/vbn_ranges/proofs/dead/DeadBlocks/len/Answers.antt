use Rattle.std.proofs.Common.{subst}
use Rattle.nfs_model.specs.volume.Ranges.{DeadValue, IsOfVolume, IsRangeSize}
use Rattle.vbn_ranges.proofs.DeadSets.{of-volume}
use Rattle.vbn_ranges.proofs.dead.DeadBlocks.len.Goals as goal

pub returns-clause-volume : goal.returns-clause-volume
returns-clause-volume c =
    subst (λ (d : DeadValue). IsOfVolume d.range_blocks d.blocks) c.self.view_is
    (of-volume c.self.inside.range_blocks c.self.inside.ranges.items c.self.inside.count c.self.invariant)

pub returns-clause-size : goal.returns-clause-size
returns-clause-size c = subst (λ (d : DeadValue). IsRangeSize d.range_blocks) c.self.view_is c.self.invariant.sized
