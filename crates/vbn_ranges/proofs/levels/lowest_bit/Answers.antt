use Rattle.vbn_ranges.proofs.Summaries.{lowest-set, below-lowest}
use Rattle.vbn_ranges.proofs.levels.lowest_bit.Goals as goal

pub returns-clause-bit : goal.returns-clause-bit
returns-clause-bit c =
    lowest-set c.args.words.now c.args.first_filled c.requires.filled (c.type_inv.words c.args.first_filled).fits

pub returns-clause-before : goal.returns-clause-before
returns-clause-before c =
    below-lowest c.args.words.now c.args.first_filled c.requires.filled (c.type_inv.words c.args.first_filled).fits c.requires.before
