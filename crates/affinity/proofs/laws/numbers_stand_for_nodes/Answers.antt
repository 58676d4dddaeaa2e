use Rattle.affinity.specs.lemmas.Standing.{parents-tree, number-place, place-node, covers-under, under-number, excludes-number, number-excludes}
use Rattle.affinity.proofs.laws.numbers_stand_for_nodes.Goals as goal

pub returns-clause-tree : goal.returns-clause-tree
returns-clause-tree c = parents-tree

pub returns-clause-place : goal.returns-clause-place
returns-clause-place c = number-place

pub returns-clause-node : goal.returns-clause-node
returns-clause-node c = place-node

pub returns-clause-covers : goal.returns-clause-covers
returns-clause-covers c layout a b lawful m n = (under-number layout lawful a b m n, covers-under layout lawful a b m)

pub returns-clause-excludes : goal.returns-clause-excludes
returns-clause-excludes c layout a b lawful m n = (number-excludes layout lawful a b m n, excludes-number layout lawful a b m n)
