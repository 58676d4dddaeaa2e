use Rattle.nfs_laws.proofs.Kept.{keeps}
use Rattle.nfs_laws.proofs.laws.events_keep_headline.Goals as goal

pub returns : goal.returns
returns c = λ setup old event answer new scan h agreed e. keeps setup scan old event answer new h agreed e
