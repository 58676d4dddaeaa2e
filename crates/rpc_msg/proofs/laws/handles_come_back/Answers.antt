use Rattle.rpc_msg.proofs.ComeBack.{comes-back, comes-to-another}
use Rattle.rpc_msg.proofs.laws.handles_come_back.Goals as goal

pub returns-clause-same : goal.returns-clause-same
returns-clause-same c = comes-back

pub returns-clause-other : goal.returns-clause-other
returns-clause-other c = comes-to-another
