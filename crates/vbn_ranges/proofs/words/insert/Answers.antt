use Rattle.std.proofs.Common.{arith}
use Rattle.vbn_ranges.proofs.Single.{insert-is}
use Rattle.vbn_ranges.proofs.words.insert.Goals as goal

pub returns-clause-bits : goal.returns-clause-bits
returns-clause-bits c = insert-is c.args.words.now c.args.place (omega arith)
