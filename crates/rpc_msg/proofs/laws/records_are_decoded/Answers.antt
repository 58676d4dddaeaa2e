use Rattle.rpc_msg.specs.Offer.{basic}
use Rattle.rpc_msg.specs.lemmas.Hearing.{record_is_decoded}
use Rattle.rpc_msg.proofs.laws.records_are_decoded.Goals as goal

pub returns-clause-basic : goal.returns-clause-basic
returns-clause-basic c = record_is_decoded basic

pub returns-clause-any : goal.returns-clause-any
returns-clause-any c = record_is_decoded
