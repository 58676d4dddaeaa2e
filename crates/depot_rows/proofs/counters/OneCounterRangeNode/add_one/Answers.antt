use Rattle.std.proofs.Common.{refl}
use Rattle.parcels.specs.lemmas.Exactly.{range-exact}
use Rattle.depot_rows.proofs.Counted.{range-added}
use Rattle.depot_rows.proofs.counters.OneCounterRangeNode.add_one.Goals as goal

pub returns-clause-exact : goal.returns-clause-exact
returns-clause-exact c = λ layout node. range-exact layout node c.args.held.now _ tt

pub returns-clause-added : goal.returns-clause-added
returns-clause-added c = λ layout node. range-added layout node c.args.held.now _ refl
