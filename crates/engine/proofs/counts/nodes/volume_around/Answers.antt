use Rattle.affinity.specs.Affinity.{affinity_of}
use Rattle.parcels.specs.lemmas.Around.{is-volume}
use Rattle.engine.proofs.counts.nodes.volume_around.Goals as goal

pub returns : goal.returns
returns c = is-volume (affinity_of c.args.affinity) c.volume_number.result c.requires c.volume_number.ensures
