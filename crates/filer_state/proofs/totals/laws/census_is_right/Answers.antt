use Rattle.filer_state.specs.totals.lemmas.Census.{census-right, census-starves}
use Rattle.filer_state.proofs.totals.laws.census_is_right.Goals as goal

pub returns-clause-told : goal.returns-clause-told
returns-clause-told c = λ layout caller moment contents. census-right layout caller moment contents

pub returns-clause-starves : goal.returns-clause-starves
returns-clause-starves c = λ layout caller moment contents. census-starves layout caller moment contents
