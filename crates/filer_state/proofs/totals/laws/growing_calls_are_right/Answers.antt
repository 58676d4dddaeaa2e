use Rattle.filer_state.specs.totals.lemmas.Grows.{grow-right}
use Rattle.filer_state.proofs.totals.laws.growing_calls_are_right.Goals as goal

pub returns : goal.returns
returns c = record { right = λ layout a v more caller moment s on home. grow-right layout a v more caller moment s on home }
