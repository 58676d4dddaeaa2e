use Rattle.std.proofs.Common.{refl}
use Rattle.parcels.specs.lemmas.Exactly.{serial-exact}
use Rattle.depot_rows.proofs.Counted.{serial-added, serial-as-it-was}
use Rattle.depot_rows.proofs.counters.OneCounterSerialNode.add_one.Goals as goal

pub returns-clause-exact : goal.returns-clause-exact
returns-clause-exact c = λ layout node. serial-exact layout node c.args.held.now _ (serial-as-it-was c.args.held.now)

pub returns-clause-added : goal.returns-clause-added
returns-clause-added c = λ layout node. serial-added layout node c.args.held.now _ refl
