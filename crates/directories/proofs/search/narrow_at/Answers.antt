use Rattle.std.proofs.Common.{arith}
use Rattle.directories.proofs.Around.{around-above, around-below}
use Rattle.directories.proofs.search.narrow_at.Goals as goal

pub at-here-requires : goal.at-here-requires
at-here-requires c = let within = c.requires.within in omega (arith, within, c.if-position-high.false)

pub returns-then-here-hash : goal.returns-then-here-hash
returns-then-here-hash c = record {
  around =
      around-above c.args.index.now c.args.hash c.args.bounds.low c.args.bounds.high c.args.position c.at-here.result c.requires
      c.if-position-high.false c.at-here.ensures c.if-here-hash.true;
  inside = omega (arith, c.if-position-low.false);
}

pub returns-then-here-hash-2 : goal.returns-then-here-hash-2
returns-then-here-hash-2 c = record {
  around =
      around-below c.args.index.now c.args.hash c.args.bounds.low c.args.bounds.high c.args.position c.at-here.result c.requires
      c.if-position-low.false c.if-position-high.false c.at-here.ensures c.if-here-hash-2.true;
  inside = omega (arith, c.if-position-high.false);
}
