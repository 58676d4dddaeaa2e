use Rattle.rpc_msg.proofs.Fitting.{opening_is_roomy, room_stays}
use Rattle.rpc_msg.proofs.laws.servers_are_roomy.Goals as goal

pub returns-clause-begins : goal.returns-clause-begins
returns-clause-begins c = opening_is_roomy

pub returns-clause-stays : goal.returns-clause-stays
returns-clause-stays c = room_stays
