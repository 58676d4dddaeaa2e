use Rattle.affinity.specs.lemmas.Alike.{alike}
use Rattle.affinity.proofs.laws.parents_tell_the_tree.Goals as goal

pub returns : goal.returns
returns c = alike
