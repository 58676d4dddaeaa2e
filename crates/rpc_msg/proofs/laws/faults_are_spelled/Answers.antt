use Rattle.rpc_msg.specs.Offer.{basic}
use Rattle.rpc_msg.proofs.SayingAgain.{exactly_incomplete, exactly_no_call}
use Rattle.rpc_msg.proofs.laws.faults_are_spelled.Goals as goal

pub returns-clause-incomplete : goal.returns-clause-incomplete
returns-clause-incomplete c = exactly_incomplete basic

pub returns-clause-no_call : goal.returns-clause-no_call
returns-clause-no_call c = exactly_no_call basic

pub returns-clause-any_incomplete : goal.returns-clause-any_incomplete
returns-clause-any_incomplete c = exactly_incomplete

pub returns-clause-any_no_call : goal.returns-clause-any_no_call
returns-clause-any_no_call c = exactly_no_call
