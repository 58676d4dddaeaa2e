use Rattle.nfs_laws.proofs.FileidsBelow.{lies_below}
use Rattle.nfs_laws.proofs.laws.fileids_lie_below_the_next.Goals as goal

pub returns : goal.returns
returns c = lies_below
