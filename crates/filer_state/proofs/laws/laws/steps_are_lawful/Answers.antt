use Rattle.filer_state.specs.state.Deeds.{FilerSteps}
use Rattle.filer_state.specs.laws.lemmas.Commuting.{local-commute}
use Rattle.filer_state.specs.laws.lemmas.Lawful.{steps-local, steps-keep}
use Rattle.filer_state.proofs.laws.laws.steps_are_lawful.Goals as goal

pub returns-clause-local : goal.returns-clause-local
returns-clause-local g c = steps-local

pub returns-clause-keeps : goal.returns-clause-keeps
returns-clause-keeps g c = steps-keep

pub returns-clause-commute : goal.returns-clause-commute
returns-clause-commute g c = local-commute FilerSteps steps-local
