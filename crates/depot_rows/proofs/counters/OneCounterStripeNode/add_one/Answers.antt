use Rattle.std.proofs.Common.{refl}
use Rattle.parcels.specs.lemmas.Exactly.{stripe-exact}
use Rattle.depot_rows.proofs.Counted.{stripe-added}
use Rattle.depot_rows.proofs.counters.OneCounterStripeNode.add_one.Goals as goal

pub returns-clause-exact : goal.returns-clause-exact
returns-clause-exact c = λ layout node. stripe-exact layout node c.args.held.now _ tt

pub returns-clause-added : goal.returns-clause-added
returns-clause-added c = λ layout node. stripe-added layout node c.args.held.now _ refl
