use Rattle.stripes.proofs.Called.{long-blocks}
use Rattle.stripes.proofs.blocks.Blocks.give_back.Goals as goal

pub returns-clause-long : goal.returns-clause-long
returns-clause-long c = long-blocks c.self.inside.spans.entries c.self.invariant
