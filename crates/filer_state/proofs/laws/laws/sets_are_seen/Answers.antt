use Rattle.filer_state.specs.laws.lemmas.SeenSets.{stripe-seen, range-seen, vbn-seen, logical-seen, volume-seen, aggregate-seen, serial-seen}
use Rattle.filer_state.proofs.laws.laws.sets_are_seen.Goals as goal

pub returns-clause-stripe : goal.returns-clause-stripe
returns-clause-stripe g c = λ layout lawful v i on less held. stripe-seen layout lawful v on i less held

pub returns-clause-range : goal.returns-clause-range
returns-clause-range g c = λ layout lawful v r on less held. range-seen layout lawful v on r less held

pub returns-clause-vbn : goal.returns-clause-vbn
returns-clause-vbn g c = vbn-seen

pub returns-clause-logical : goal.returns-clause-logical
returns-clause-logical g c = logical-seen

pub returns-clause-volume : goal.returns-clause-volume
returns-clause-volume g c = volume-seen

pub returns-clause-aggregate : goal.returns-clause-aggregate
returns-clause-aggregate g c = aggregate-seen

pub returns-clause-serial : goal.returns-clause-serial
returns-clause-serial g c = serial-seen
