use Rattle.filer_state.specs.changes.lemmas.Setattr.{setattr-done}
use Rattle.filer_state.proofs.changes.laws.setting_calls_are_right.Goals as goal

pub returns : goal.returns
returns c = λ v fileid handle node set guard caller moment s. setattr-done fileid handle node set guard caller moment v s
