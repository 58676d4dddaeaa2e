use Rattle.nfs_laws.proofs.Repeated.{failure_stays}
use Rattle.nfs_laws.proofs.laws.failures_change_nothing.Goals as goal

pub returns : goal.returns
returns c = failure_stays
