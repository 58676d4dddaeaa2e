use Rattle.nfs_laws.proofs.Kept.{others_agree}
use Rattle.nfs_laws.proofs.laws.other_events_agree.Goals as goal

pub returns : goal.returns
returns c = λ setup old event answer new scan none h e. others_agree setup scan old event answer new none h e
