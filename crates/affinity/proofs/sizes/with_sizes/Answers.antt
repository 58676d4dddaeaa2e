use Rattle.std.proofs.Common.{ap, ◌∙◌, map, add-one}
use Rattle.affinity.specs.Specification.{volume_sized}
use Rattle.affinity.proofs.Tested.{asked-more}
use Rattle.affinity.proofs.sizes.with_sizes.Goals as goal

pub loop-volume-preserved : goal.loop-volume-preserved
loop-volume-preserved c =
    rw add-one
    (ap (map volume_sized) c.in_ok-push.ensures.items
    ∙ asked-more c.loop-volume.specifications.items c.args.volumes.now c.loop-volume.volume-index _ _ c.loop-volume.invariant
    c.loop-volume-test.true
    c.sized.ensures)
