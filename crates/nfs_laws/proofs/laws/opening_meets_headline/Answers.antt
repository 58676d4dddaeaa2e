use Rattle.nfs_laws.proofs.Opening.{opening_headline}
use Rattle.nfs_laws.proofs.laws.opening_meets_headline.Goals as goal

pub returns : goal.returns
returns c = opening_headline
