use Rattle.vbn_ranges.proofs.Ranged.{all-by-ends}
use Rattle.vbn_ranges.proofs.range.are_of.Goals as goal

pub returns-then-first-range_blocks : goal.returns-then-first-range_blocks
returns-then-first-range_blocks c =
    all-by-ends c.args.range_blocks c.args.range c.args.blocks.now c.in-Some.first.now c.in-Some-last.last.now c.requires.size c.requires.ascending
    c.in-Some.ensures.value c.in-Some-last.ensures.value c.if-first-range_blocks.true
