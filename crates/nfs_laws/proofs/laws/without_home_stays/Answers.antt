use Rattle.nfs_laws.proofs.AtOnce.{without_home_stays}
use Rattle.nfs_laws.proofs.laws.without_home_stays.Goals as goal

pub returns : goal.returns
returns c = without_home_stays
