use Rattle.filer_state.specs.laws.lemmas.Counted.{partition-is}
use Rattle.filer_state.proofs.laws.laws.parts_partition.Goals as goal

pub returns : goal.returns
returns c = λ p hands made in_hands sound listed. partition-is p hands in_hands sound.well_formed sound.partition listed
