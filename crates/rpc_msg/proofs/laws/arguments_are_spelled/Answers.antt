use Rattle.rpc_msg.specs.Offer.{basic}
use Rattle.rpc_msg.proofs.SayingAgain.{exactly_garbage, exactly_call}
use Rattle.rpc_msg.proofs.laws.arguments_are_spelled.Goals as goal

pub returns-clause-garbage : goal.returns-clause-garbage
returns-clause-garbage c = exactly_garbage basic

pub returns-clause-call : goal.returns-clause-call
returns-clause-call c = exactly_call basic

pub returns-clause-any_garbage : goal.returns-clause-any_garbage
returns-clause-any_garbage c = exactly_garbage

pub returns-clause-any_call : goal.returns-clause-any_call
returns-clause-any_call c = exactly_call
