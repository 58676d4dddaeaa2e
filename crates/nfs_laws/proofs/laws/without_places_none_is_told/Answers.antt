use Rattle.nfs_laws.proofs.Forgetting.{forgetting}
use Rattle.nfs_laws.proofs.laws.without_places_none_is_told.Goals as goal

pub returns : goal.returns
returns c = forgetting
