use Rattle.port_mapper.proofs.Heard.{answered}
use Rattle.port_mapper.proofs.laws.calls_are_answered.Goals as goal

pub returns : goal.returns
returns c = answered
