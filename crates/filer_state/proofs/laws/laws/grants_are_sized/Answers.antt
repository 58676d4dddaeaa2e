use Rattle.filer_state.specs.laws.lemmas.LayoutSizes.{range-sized, logical-sized}
use Rattle.filer_state.proofs.laws.laws.grants_are_sized.Goals as goal

pub returns-clause-range : goal.returns-clause-range
returns-clause-range g c = λ layout lawful given v r on less held h. range-sized layout lawful given v on r less held h

pub returns-clause-logical : goal.returns-clause-logical
returns-clause-logical g c = λ layout lawful given v on held h. logical-sized layout lawful given v on held h
