use Rattle.nfs_laws.proofs.Kept.{Runs-push}
use Rattle.nfs_laws.proofs.laws.runs_go_on.Goals as goal

pub returns : goal.returns
returns c = Runs-push
