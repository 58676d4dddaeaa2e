use Rattle.filer_state.specs.laws.lemmas.Granted.{stripe-has, range-has, vbn-has, logical-has, volume-has, aggregate-has, serial-has}
use Rattle.filer_state.proofs.laws.laws.grants_are_known.Goals as goal

pub returns-clause-stripe : goal.returns-clause-stripe
returns-clause-stripe g c = λ layout lawful given v i on less held. stripe-has layout lawful given v on i less held

pub returns-clause-range : goal.returns-clause-range
returns-clause-range g c = λ layout lawful given v r on less held. range-has layout lawful given v on r less held

pub returns-clause-vbn : goal.returns-clause-vbn
returns-clause-vbn g c = λ layout lawful given v on held. vbn-has layout lawful given v on held

pub returns-clause-logical : goal.returns-clause-logical
returns-clause-logical g c = λ layout lawful given v on held. logical-has layout lawful given v on held

pub returns-clause-volume : goal.returns-clause-volume
returns-clause-volume g c = λ layout lawful given v on held. volume-has layout lawful given v on held

pub returns-clause-aggregate : goal.returns-clause-aggregate
returns-clause-aggregate g c = λ layout lawful given a less held. aggregate-has layout lawful given a less held

pub returns-clause-serial : goal.returns-clause-serial
returns-clause-serial g c = λ layout lawful given held. serial-has layout lawful given held
