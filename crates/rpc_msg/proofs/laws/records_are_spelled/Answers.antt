use Rattle.rpc_msg.specs.Offer.{basic}
use Rattle.rpc_msg.proofs.Saying.{heard_is}
use Rattle.rpc_msg.proofs.SayingAgain.{heard_again}
use Rattle.rpc_msg.proofs.laws.records_are_spelled.Goals as goal

pub returns-clause-found : goal.returns-clause-found
returns-clause-found c = heard_is basic

pub returns-clause-again : goal.returns-clause-again
returns-clause-again c = heard_again basic

pub returns-clause-any_found : goal.returns-clause-any_found
returns-clause-any_found c = heard_is

pub returns-clause-any_again : goal.returns-clause-any_again
returns-clause-any_again c = heard_again
