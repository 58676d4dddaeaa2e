use Rattle.affinity.specs.Affinity.{affinity_of}
use Rattle.affinity.specs.Layout.{layout_of}
use Rattle.parcels.specs.lemmas.Sorts.{aggregate-kind}
use Rattle.engine.proofs.counts.Tallied.{aggregate-tallied}
use Rattle.engine.proofs.counts.tally.TallyTaskParcelFilesParcelKinds.on_aggregate.Goals as goal

pub aggregate_of-requires : goal.aggregate_of-requires
aggregate_of-requires c =
    aggregate-kind (layout_of c.args.layout.now) (affinity_of c.args.affinity) c.args.held.now c.requires.node c.requires.exact

pub returns-clause-does : goal.returns-clause-does
returns-clause-does c =
    aggregate-tallied (layout_of c.args.layout.now) c.args.layout.now.lawful c.aggregate_of.result (affinity_of c.args.affinity) c.aggregate_of.ensures
    c.requires.node c.args.held.now c.args.self.counts.items c.recount_aggregate.new.counts c.recount_aggregate.ensures
