use Rattle.rpc_msg.specs.Offer.{basic}
use Rattle.rpc_msg.proofs.SayingAgain.{exactly_rpc, exactly_program, exactly_version, exactly_procedure}
use Rattle.rpc_msg.proofs.laws.versions_are_spelled.Goals as goal

pub returns-clause-rpc : goal.returns-clause-rpc
returns-clause-rpc c = exactly_rpc basic

pub returns-clause-program : goal.returns-clause-program
returns-clause-program c = exactly_program basic

pub returns-clause-version : goal.returns-clause-version
returns-clause-version c = exactly_version basic

pub returns-clause-procedure : goal.returns-clause-procedure
returns-clause-procedure c = exactly_procedure basic

pub returns-clause-any_rpc : goal.returns-clause-any_rpc
returns-clause-any_rpc c = exactly_rpc

pub returns-clause-any_program : goal.returns-clause-any_program
returns-clause-any_program c = exactly_program

pub returns-clause-any_version : goal.returns-clause-any_version
returns-clause-any_version c = exactly_version

pub returns-clause-any_procedure : goal.returns-clause-any_procedure
returns-clause-any_procedure c = exactly_procedure
