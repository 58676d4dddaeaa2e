use Rattle.rpc_msg.specs.Offer.{basic}
use Rattle.rpc_msg.specs.lemmas.Refusals.{refusal_refuses, refusal_fits}
use Rattle.rpc_msg.proofs.laws.refusals_fit.Goals as goal

pub returns-clause-refuses : goal.returns-clause-refuses
returns-clause-refuses c = refusal_refuses basic

pub returns-clause-any_refuses : goal.returns-clause-any_refuses
returns-clause-any_refuses c = refusal_refuses

pub returns-clause-room : goal.returns-clause-room
returns-clause-room c = refusal_fits
