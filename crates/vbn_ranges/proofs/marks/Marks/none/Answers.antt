use Rattle.std.proofs.Common.{◌/◌}
use Rattle.vbn_ranges.proofs.Marked.{none-marked}
use Rattle.vbn_ranges.proofs.marks.Marks.none.Goals as goal

pub returns : goal.returns
returns c = none-marked c.args.range_blocks c.args.range (c.args.range_blocks / 64) _ c.in_ok-store.ensures.words
