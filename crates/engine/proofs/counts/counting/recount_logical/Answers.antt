use Rattle.std.proofs.Common.{ap, ◌∙◌}
use Rattle.engine.specs.counts.Counts.{with_logical}
use Rattle.engine.proofs.counts.Recounted.{changed-is}
use Rattle.engine.proofs.counts.counting.recount_logical.Goals as goal

pub returns : goal.returns
returns c =
    changed-is (with_logical c.args.held.now.own) c.args.counts.now.items c.args.volume c.index.result.now c.count.result c.requires
    (c.count.ensures ∙ ap (with_logical c.args.held.now.own) c.index.ensures)
