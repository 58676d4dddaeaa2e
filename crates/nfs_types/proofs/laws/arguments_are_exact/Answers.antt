use Rattle.nfs_types.specs.lemmas.Exact.{asked_found, asked_again}
use Rattle.nfs_types.proofs.laws.arguments_are_exact.Goals as goal

pub returns-clause-found : goal.returns-clause-found
returns-clause-found c = asked_found

pub returns-clause-again : goal.returns-clause-again
returns-clause-again c = asked_again
