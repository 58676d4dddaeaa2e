use Rattle.nfs_laws.proofs.Refusals.{refused_fails, refused_stays}
use Rattle.nfs_laws.proofs.laws.refused_calls_change_nothing.Goals as goal

pub returns-clause-left : goal.returns-clause-left
returns-clause-left c = refused_stays

pub returns-clause-told : goal.returns-clause-told
returns-clause-told c = refused_fails
