use Rattle.std.proofs.Common.{refl}
use Rattle.parcels.specs.lemmas.Exactly.{aggregate-exact}
use Rattle.depot_rows.proofs.Counted.{aggregate-added, aggregate-as-it-was}
use Rattle.depot_rows.proofs.counters.OneCounterAggregateNode.add_one.Goals as goal

pub returns-clause-exact : goal.returns-clause-exact
returns-clause-exact c = λ layout node. aggregate-exact layout node c.args.held.now _ (aggregate-as-it-was c.args.held.now)

pub returns-clause-added : goal.returns-clause-added
returns-clause-added c = λ layout node. aggregate-added layout node c.args.held.now _ refl
