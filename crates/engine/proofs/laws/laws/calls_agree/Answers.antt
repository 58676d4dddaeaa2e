use Rattle.engine.specs.laws.lemmas.Agreeing.{agreed}
use Rattle.engine.proofs.laws.laws.calls_agree.Goals as goal

pub returns : goal.returns
returns g c = λ job told setup w b s. agreed job told setup w b s c.parts_partition.ensures
