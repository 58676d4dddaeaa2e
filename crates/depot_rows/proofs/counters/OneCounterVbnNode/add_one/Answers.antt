use Rattle.std.proofs.Common.{refl}
use Rattle.parcels.specs.lemmas.Exactly.{vbn-exact}
use Rattle.depot_rows.proofs.Counted.{vbn-added}
use Rattle.depot_rows.proofs.counters.OneCounterVbnNode.add_one.Goals as goal

pub returns-clause-exact : goal.returns-clause-exact
returns-clause-exact c = λ layout node. vbn-exact layout node c.args.held.now _ (λ i. refl)

pub returns-clause-added : goal.returns-clause-added
returns-clause-added c = λ layout node. vbn-added layout node c.args.held.now _ refl
