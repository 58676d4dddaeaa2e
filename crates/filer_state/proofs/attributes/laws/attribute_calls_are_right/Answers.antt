use Rattle.filer_state.specs.attributes.lemmas.Getting.{getattr-right}
use Rattle.filer_state.proofs.attributes.laws.attribute_calls_are_right.Goals as goal

pub returns : goal.returns
returns c = λ v fileid handle node set. getattr-right v fileid handle node set
