use Rattle.std.proofs.Common.{refl}
use Rattle.parcels.specs.lemmas.Exactly.{logical-exact}
use Rattle.depot_rows.proofs.Counted.{logical-added}
use Rattle.depot_rows.proofs.counters.OneCounterLogicalNode.add_one.Goals as goal

pub returns-clause-exact : goal.returns-clause-exact
returns-clause-exact c = λ layout node. logical-exact layout node c.args.held.now _ (λ i. refl)

pub returns-clause-added : goal.returns-clause-added
returns-clause-added c = λ layout node. logical-added layout node c.args.held.now _ refl
