use Rattle.service.proofs.InHand.{freed-runs, to-free-batch}
use Rattle.service.proofs.inner.free_from.Goals as goal

pub free-requires-clause-carried : goal.free-requires-clause-carried
free-requires-clause-carried c = (c.args.volume.0, c.requires.1)

pub free-requires-clause-some : goal.free-requires-clause-some
free-requires-clause-some c =
    (to-free-batch c.args.held.now.own.range_blocks c.args.volume.0 c.args.batch c.args.held.now.own c.requires).0

pub free-requires-clause-batch : goal.free-requires-clause-batch
free-requires-clause-batch c =
    (to-free-batch c.args.held.now.own.range_blocks c.args.volume.0 c.args.batch c.args.held.now.own c.requires).1

pub returns-clause-runs : goal.returns-clause-runs
returns-clause-runs c =
    freed-runs c.args.volume.0 c.args.batch c.new.result c.args.held.now.own c.free.new.held.own c.new.ensures c.free.ensures.right
