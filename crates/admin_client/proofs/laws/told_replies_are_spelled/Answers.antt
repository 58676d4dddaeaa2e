use Rattle.admin_client.proofs.Heads.{told_spelled}
use Rattle.admin_client.proofs.laws.told_replies_are_spelled.Goals as goal

pub returns : goal.returns
returns c = told_spelled
