use Rattle.nfs_laws.proofs.Refusals.{zero_is_permitted, zero_is_served, zero_searches}
use Rattle.nfs_laws.proofs.laws.root_is_refused_nothing.Goals as goal

pub returns-clause-asked : goal.returns-clause-asked
returns-clause-asked c = zero_is_permitted

pub returns-clause-served : goal.returns-clause-served
returns-clause-served c = zero_is_served

pub returns-clause-mounts : goal.returns-clause-mounts
returns-clause-mounts c = zero_searches
