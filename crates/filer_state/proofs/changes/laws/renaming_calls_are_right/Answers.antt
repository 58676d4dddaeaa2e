use Rattle.filer_state.specs.changes.lemmas.Renames.{rename-is-done, rename-starves}
use Rattle.filer_state.proofs.changes.laws.renaming_calls_are_right.Goals as goal

pub returns-clause-rename : goal.returns-clause-rename
returns-clause-rename c = λ v from_id to_id from from_name to to_name node moment s.
    rename-is-done from to node from_id from_name to_id to_name moment v s

pub returns-clause-rename_starves : goal.returns-clause-rename_starves
returns-clause-rename_starves c = λ v from_id to_id volumes from from_name to to_name node moment s from_change to_change names two is.
    rename-starves v from_id to_id volumes from from_name to to_name node moment s from_change to_change names two is
