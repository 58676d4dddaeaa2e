use Rattle.affinity.specs.lemmas.Places.{number_positive, number_within}
use Rattle.affinity.specs.lemmas.Numbered.{own_number, some_node}
use Rattle.affinity.proofs.laws.numbers_are_their_own.Goals as goal

pub returns-clause-within : goal.returns-clause-within
returns-clause-within c layout a h = (number_positive layout a, number_within layout a h)

pub returns-clause-own : goal.returns-clause-own
returns-clause-own c = own_number

pub returns-clause-all : goal.returns-clause-all
returns-clause-all c = some_node
