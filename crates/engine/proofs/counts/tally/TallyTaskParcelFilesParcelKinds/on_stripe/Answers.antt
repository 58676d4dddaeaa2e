use Rattle.std.proofs.Common.{refl}
use Rattle.affinity.specs.Affinity.{affinity_of}
use Rattle.affinity.specs.Layout.{layout_of}
use Rattle.parcels.specs.lemmas.Sorts.{stripe-kind}
use Rattle.engine.proofs.counts.Tallied.{stripe-tallied}
use Rattle.engine.proofs.counts.tally.TallyTaskParcelFilesParcelKinds.on_stripe.Goals as goal

pub returns-clause-does : goal.returns-clause-does
returns-clause-does c =
    let L = layout_of c.args.arg2.now in
    let a = affinity_of c.args.arg3 in
    let held = c.args.arg4.now in
    stripe-tallied L c.args.arg2.now.lawful a (stripe-kind L a held c.requires.node c.requires.exact) c.requires.node held c.args.self.counts.items
    c.args.self.counts refl
