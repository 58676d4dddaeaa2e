use Rattle.rpc_msg.proofs.Fitting.{reply_fits, reply_at_once_fits}
use Rattle.rpc_msg.proofs.laws.replies_fit.Goals as goal

pub returns-clause-offered : goal.returns-clause-offered
returns-clause-offered c = reply_fits

pub returns-clause-at_once : goal.returns-clause-at_once
returns-clause-at_once c = reply_at_once_fits
