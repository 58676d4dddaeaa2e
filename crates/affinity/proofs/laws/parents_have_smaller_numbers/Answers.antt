use Rattle.affinity.specs.lemmas.Parents.{parent_at}
use Rattle.affinity.specs.lemmas.Smaller.{length-parents, parent_smaller}
use Rattle.affinity.proofs.laws.parents_have_smaller_numbers.Goals as goal

pub returns-clause-size : goal.returns-clause-size
returns-clause-size c = length-parents

pub returns-clause-parent : goal.returns-clause-parent
returns-clause-parent c = parent_at

pub returns-clause-smaller : goal.returns-clause-smaller
returns-clause-smaller c = parent_smaller
