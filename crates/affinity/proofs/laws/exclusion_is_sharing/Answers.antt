use Rattle.affinity.specs.lemmas.Sharing.{shares_from, excludes_from}
use Rattle.affinity.specs.lemmas.Chains.{excludes-cases, excludes_by}
use Rattle.affinity.proofs.laws.exclusion_is_sharing.Goals as goal

pub returns-clause-above : goal.returns-clause-above
returns-clause-above c layout a b = (excludes-cases layout a b, excludes_by layout a b)

pub returns-clause-shared : goal.returns-clause-shared
returns-clause-shared c layout a b m n = (shares_from layout a b m n, excludes_from layout a b)
