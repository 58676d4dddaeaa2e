use Rattle.affinity.specs.Affinity.{affinity_of}
use Rattle.parcels.specs.lemmas.Around.{is-aggregate}
use Rattle.engine.proofs.counts.nodes.aggregate_of.Goals as goal

pub returns : goal.returns
returns c = is-aggregate (affinity_of c.args.affinity) c.aggregate_number.result c.requires c.aggregate_number.ensures
