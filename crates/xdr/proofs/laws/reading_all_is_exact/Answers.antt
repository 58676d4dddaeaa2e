use Rattle.xdr.specs.lemmas.Shapes.{all_found, all_again}
use Rattle.xdr.proofs.laws.reading_all_is_exact.Goals as goal

pub returns-clause-found : goal.returns-clause-found
returns-clause-found c = all_found

pub returns-clause-again : goal.returns-clause-again
returns-clause-again c = all_again
