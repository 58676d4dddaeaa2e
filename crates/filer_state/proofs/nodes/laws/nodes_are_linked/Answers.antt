use Rattle.filer_state.specs.nodes.lemmas.Linked.{sound-linked, volume-linked}
use Rattle.filer_state.specs.nodes.lemmas.Counted.{sound-counted, volume-counted}
use Rattle.filer_state.proofs.nodes.laws.nodes_are_linked.Goals as goal

pub returns-clause-linked : goal.returns-clause-linked
returns-clause-linked c = λ p m hands hands' made parent may sound weigh says. (
  sound-linked p m sound.well_formed may hands hands' made weigh sound,
  volume-linked p m sound.well_formed may parent says,
)

pub returns-clause-unlinked : goal.returns-clause-unlinked
returns-clause-unlinked c = λ p m node hands hands' made now parent later may sound weigh says left. (
  sound-counted p m sound.well_formed may hands hands' made now later weigh sound,
  volume-counted p m sound.well_formed may parent node says left,
)
