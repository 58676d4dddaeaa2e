use Rattle.std.proofs.Common.{◌+◌, ◌%◌, refl}
use Rattle.affinity.specs.Affinity.{affinity_of}
use Rattle.affinity.specs.Layout.{layout_of}
use Rattle.affinity.specs.Numbers.{parents}
use Rattle.depot.specs.trial.lemmas.Stripes.{stripe-changed, stripe-added}
use Rattle.depot_rows.proofs.adder.AdderTaskParcelNumbersParcelKinds.on_stripe.Goals as goal

pub returns-clause-exact : goal.returns-clause-exact
returns-clause-exact c = stripe-changed (layout_of c.args.layout.now) (affinity_of c.args.affinity) c.args.held.now _ c.requires.exact

pub returns-clause-does : goal.returns-clause-does
returns-clause-does c =
    let L = layout_of c.args.layout.now in
    let sum = (c.args.held.now.own + c.args.self.number) % 18446744073709551616 in
    stripe-added L (affinity_of c.args.affinity) c.args.held.now (record { own = sum }) (parents L) c.args.self.number sum refl refl
