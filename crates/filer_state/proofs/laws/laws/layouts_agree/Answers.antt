use Rattle.affinity.specs.lemmas.Alike.{alike}
use Rattle.filer_state.specs.state.Contents.{filer_contents}
use Rattle.filer_state.specs.laws.lemmas.Alike.{filer-same}
use Rattle.filer_state.specs.laws.lemmas.Steps.{sound-by-weight}
use Rattle.filer_state.proofs.laws.laws.layouts_agree.Goals as goal

pub returns-clause-stored : goal.returns-clause-stored
returns-clause-stored g c = λ l m same f. filer-same l m (alike l m same) f

pub returns-clause-weight : goal.returns-clause-weight
returns-clause-weight g c = λ layout f hands others made same sound. sound-by-weight (filer_contents layout f) hands others made same sound
