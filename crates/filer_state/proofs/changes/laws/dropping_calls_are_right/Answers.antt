use Rattle.filer_state.specs.changes.lemmas.Remove.{remove-done}
use Rattle.filer_state.specs.changes.lemmas.Rmdir.{rmdir-done}
use Rattle.filer_state.proofs.changes.laws.dropping_calls_are_right.Goals as goal

pub returns-clause-remove : goal.returns-clause-remove
returns-clause-remove c = λ v fileid handle name node moment s. remove-done fileid handle name node moment v s

pub returns-clause-rmdir : goal.returns-clause-rmdir
returns-clause-rmdir c = λ v fileid handle name node moment s. rmdir-done fileid handle name node moment v s
