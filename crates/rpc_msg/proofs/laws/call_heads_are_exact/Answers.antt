use Rattle.rpc_msg.specs.Offer.{basic}
use Rattle.rpc_msg.proofs.Spelled.{call_found}
use Rattle.rpc_msg.proofs.SpelledAgain.{call_again}
use Rattle.rpc_msg.proofs.laws.call_heads_are_exact.Goals as goal

pub returns-clause-found : goal.returns-clause-found
returns-clause-found c = call_found basic

pub returns-clause-again : goal.returns-clause-again
returns-clause-again c = call_again basic

pub returns-clause-any_found : goal.returns-clause-any_found
returns-clause-any_found c = call_found

pub returns-clause-any_again : goal.returns-clause-any_again
returns-clause-any_again c = call_again
