use Rattle.std.proofs.Common.{◌∙◌, ap, List, ℕ}
use Rattle.nfs_model.specs.volume.Ranges.{dead_taken}
use Rattle.vbn_ranges.proofs.DeadCounts.{lowest-batch-is}
use Rattle.vbn_ranges.proofs.dead.DeadBlocks.take_batch.Goals as goal

pub returns-clause-batch : goal.returns-clause-batch
returns-clause-batch c = c.take_counted.ensures.batch ∙ lowest-batch-is c.args.self.now.range_blocks c.args.self.now.blocks

pub returns-clause-left : goal.returns-clause-left
returns-clause-left c =
    c.take_counted.ensures.left
    ∙ ap (λ (bs : List ℕ). dead_taken bs c.args.self.now) (lowest-batch-is c.args.self.now.range_blocks c.args.self.now.blocks)
