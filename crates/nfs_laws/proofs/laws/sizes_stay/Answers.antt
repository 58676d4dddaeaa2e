use Rattle.nfs_model.specs.Server.{opening}
use Rattle.nfs_laws.specs.lemmas.Sizes.{opening_sizes, sizes_after}
use Rattle.nfs_laws.proofs.laws.sizes_stay.Goals as goal

pub returns : goal.returns
returns c layout verifier calls = sizes_after layout calls (opening layout verifier) (opening_sizes layout verifier)
