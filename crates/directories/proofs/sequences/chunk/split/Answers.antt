use Rattle.std.proofs.Common.{arith}
use Rattle.directories.proofs.sequences.Places.{in-lower, in-upper}
use Rattle.directories.proofs.sequences.chunk.split.Goals as goal

pub returns-then-here-kept-clause-items : goal.returns-then-here-kept-clause-items
returns-then-here-kept-clause-items g c =
    rw (c.put.ensures, c.cut.ensures.lower, c.cut.ensures.upper_items)
    (in-lower c.args.chunk.now.items _ c.args.here c.args.item (omega arith) c.if-here-kept.true)

pub returns-clause-items : goal.returns-clause-items
returns-clause-items g c =
    rw (c.put-2.ensures, c.cut.ensures.lower, c.cut.ensures.upper_items)
    (in-upper c.args.chunk.now.items _ c.args.here c.args.item (omega arith) (omega arith))
