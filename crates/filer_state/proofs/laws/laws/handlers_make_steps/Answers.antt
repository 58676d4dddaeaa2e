use Rattle.filer_state.specs.laws.lemmas.Kinds.{stripe-step, range-step, vbn-step, logical-step, volume-step, aggregate-step, serial-step}
use Rattle.filer_state.proofs.laws.laws.handlers_make_steps.Goals as goal

pub returns-clause-stripe : goal.returns-clause-stripe
returns-clause-stripe g c = λ layout lawful job reply v i on less old new right. stripe-step layout lawful job reply v on i less old new right

pub returns-clause-range : goal.returns-clause-range
returns-clause-range g c = λ layout lawful job reply v r on less old new right. range-step layout lawful job reply v on r less old new right

pub returns-clause-vbn : goal.returns-clause-vbn
returns-clause-vbn g c = vbn-step

pub returns-clause-logical : goal.returns-clause-logical
returns-clause-logical g c = logical-step

pub returns-clause-volume : goal.returns-clause-volume
returns-clause-volume g c = volume-step

pub returns-clause-aggregate : goal.returns-clause-aggregate
returns-clause-aggregate g c = aggregate-step

pub returns-clause-serial : goal.returns-clause-serial
returns-clause-serial g c = serial-step
