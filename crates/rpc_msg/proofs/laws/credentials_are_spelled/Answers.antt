use Rattle.rpc_msg.specs.Offer.{basic}
use Rattle.rpc_msg.proofs.SayingAgain.{exactly_bad, exactly_rejected}
use Rattle.rpc_msg.proofs.laws.credentials_are_spelled.Goals as goal

pub returns-clause-bad : goal.returns-clause-bad
returns-clause-bad c = exactly_bad basic

pub returns-clause-rejected : goal.returns-clause-rejected
returns-clause-rejected c = exactly_rejected basic

pub returns-clause-any_bad : goal.returns-clause-any_bad
returns-clause-any_bad c = exactly_bad

pub returns-clause-any_rejected : goal.returns-clause-any_rejected
returns-clause-any_rejected c = exactly_rejected
