use Rattle.nfs_laws.proofs.Batches.{batch_is, lowest_is}
use Rattle.nfs_laws.proofs.laws.batches_are_of_one_range.Goals as goal

pub returns-clause-fetched : goal.returns-clause-fetched
returns-clause-fetched c = batch_is

pub returns-clause-culled : goal.returns-clause-culled
returns-clause-culled c = lowest_is
