use Rattle.filer_state.specs.nodes.lemmas.Made.{sound-made}
use Rattle.filer_state.specs.nodes.lemmas.MadeNodes.{volume-made}
use Rattle.filer_state.specs.nodes.lemmas.Dropped.{sound-left, volume-left}
use Rattle.filer_state.proofs.nodes.laws.nodes_are_made_and_dropped.Goals as goal

pub returns-clause-made : goal.returns-clause-made
returns-clause-made c = λ p m hands hands' made parent may sound weigh says. (
  sound-made p m sound.well_formed may hands hands' made weigh sound,
  volume-made p m sound.well_formed may parent says,
)

pub returns-clause-dropped : goal.returns-clause-dropped
returns-clause-dropped c = λ p m hands hands' made now parent later may sound weigh says. (
  sound-left p m sound.well_formed may hands hands' made now later weigh sound,
  volume-left p m sound.well_formed may parent says,
)
