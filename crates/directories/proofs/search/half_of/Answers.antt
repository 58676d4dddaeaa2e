use Rattle.std.proofs.Common.{arith}
use Rattle.directories.proofs.Around.{half-above, half-below}
use Rattle.directories.proofs.search.half_of.Goals as goal

pub returns-then-in_middle-hash-clause-half : goal.returns-then-in_middle-hash-clause-half
returns-then-in_middle-hash-clause-half c =
    half-above c.args.index.now c.args.hash c.len-size.result c.at-in_middle.result c.len-size.ensures (omega (arith, c.if-size-eq0.false))
    c.at-in_middle.ensures c.if-in_middle-hash.true

pub returns-then-in_middle-hash-2-clause-half : goal.returns-then-in_middle-hash-2-clause-half
returns-then-in_middle-hash-2-clause-half c =
    half-below c.args.index.now c.args.hash c.len-size.result c.at-in_middle.result c.len-size.ensures (omega (arith, c.if-size-eq0.false))
    c.at-in_middle.ensures c.if-in_middle-hash-2.true
