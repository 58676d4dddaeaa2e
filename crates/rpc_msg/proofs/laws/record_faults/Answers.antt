use Rattle.rpc_msg.specs.Offer.{basic}
use Rattle.rpc_msg.specs.lemmas.Hearing.{fault_of_record}
use Rattle.rpc_msg.proofs.laws.record_faults.Goals as goal

pub returns-clause-basic : goal.returns-clause-basic
returns-clause-basic c = fault_of_record basic

pub returns-clause-any : goal.returns-clause-any
returns-clause-any c = fault_of_record
