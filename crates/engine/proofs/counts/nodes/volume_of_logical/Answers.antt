use Rattle.affinity.specs.Affinity.{affinity_of}
use Rattle.parcels.specs.lemmas.Around.{is-logical}
use Rattle.engine.proofs.counts.nodes.volume_of_logical.Goals as goal

pub returns : goal.returns
returns c = is-logical (affinity_of c.args.affinity) c.volume_number.result c.requires c.volume_number.ensures
