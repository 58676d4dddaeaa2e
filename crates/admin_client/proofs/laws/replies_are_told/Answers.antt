use Rattle.admin_client.proofs.Heads.{counts_told, growths_told, refusals_told}
use Rattle.admin_client.proofs.laws.replies_are_told.Goals as goal

pub returns-clause-counts : goal.returns-clause-counts
returns-clause-counts c = counts_told

pub returns-clause-growths : goal.returns-clause-growths
returns-clause-growths c = growths_told

pub returns-clause-refusals : goal.returns-clause-refusals
returns-clause-refusals c = refusals_told
