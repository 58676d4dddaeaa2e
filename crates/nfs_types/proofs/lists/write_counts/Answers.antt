use Rattle.std.proofs.Common.{◌≡◌, ◌+◌, ◌++◌, length, drop, get_or, refl, ap, ◌∙◌, arith}
use Rattle.std.proofs.lemmas.List.{length-append}
use Rattle.nfs_values.specs.declared.answer.VolumeCount.{VolumeCount}
use Rattle.nfs_types.proofs.Rest.{counts_spelled, count_spelled, counts_more, item_more, length-counts}
use Rattle.nfs_types.proofs.lists.write_counts.Goals as goal

pub loop-volume-init : goal.loop-volume-init
loop-volume-init c = (refl, omega (arith, length-counts c.args.volumes.now), omega arith)

pub loop-volume-preserved : goal.loop-volume-preserved
loop-volume-preserved c =
    let written : (d : VolumeCount) × (c.write.new.out.items ≡ c.loop-volume.out.items ++ count_spelled
    (get_or c.args.volumes.now c.loop-volume.volume-index d)) = (_, c.write.ensures.items) in
    let x = get_or c.args.volumes.now c.loop-volume.volume-index written.0 in
    let rest = counts_spelled (drop (c.loop-volume.volume-index + 1) c.args.volumes.now) in
    let e : counts_spelled (drop c.loop-volume.volume-index c.args.volumes.now)
    ≡ count_spelled x ++ rest = counts_more c.args.volumes.now c.loop-volume.volume-index written.0 (omega arith) in
    let more : length c.write.new.out.items ≡ length c.loop-volume.out.items + 20 = ap length written.1
    ∙ length-append c.loop-volume.out.items (count_spelled x) in
    (item_more c.loop-volume.out.items c.write.new.out.items (count_spelled x) rest _ _ e c.loop-volume.invariant.0 written.1, omega (arith, more), omega arith)
