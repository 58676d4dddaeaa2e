use Rattle.xdr.specs.lemmas.Shapes.{one_value}
use Rattle.xdr.proofs.laws.one_spelling.Goals as goal

pub returns : goal.returns
returns c = one_value
