use Rattle.std.proofs.Common.{ap, ◌∙◌}
use Rattle.std.specs.Prelude.{◌*◌}
use Rattle.nfs_model.specs.volume.Logical.{LogicalValue}
use Rattle.engine.specs.counts.Counts.{counts_of}
use Rattle.engine.proofs.counts.counting.count_volume.Goals as goal

pub returns : goal.returns
returns c = λ stripes.
    let size = c.range_blocks-range_blocks.ensures.value ∙ ap (λ (l : LogicalValue). l.dead.range_blocks) c.get.ensures in
    let used = c.ranges_used.ensures.used in
    c.count.ensures ∙ (λ j. counts_of c.args.held.now.logical.own (size j * used j))
