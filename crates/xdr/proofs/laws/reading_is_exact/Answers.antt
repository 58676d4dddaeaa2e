use Rattle.xdr.specs.lemmas.Shapes.{found, again}
use Rattle.xdr.proofs.laws.reading_is_exact.Goals as goal

pub returns-clause-found : goal.returns-clause-found
returns-clause-found c = λ shape bytes v rest fits e. let f = found shape bytes (v, rest) fits e in (f.0.parts, f.1)

pub returns-clause-again : goal.returns-clause-again
returns-clause-again c = again
