use Rattle.engine.specs.counts.Counts.{with_set}
use Rattle.engine.proofs.counts.Recounted.{changed-is}
use Rattle.engine.proofs.counts.counting.recount_volume.Goals as goal

pub returns : goal.returns
returns c =
    changed-is (with_set c.args.held.now) c.args.counts.now.items c.args.volume c.index_mut.result.now c.count_volume.result c.requires
    (c.count_volume.ensures c.args.held.now.logical.own.stripes)
