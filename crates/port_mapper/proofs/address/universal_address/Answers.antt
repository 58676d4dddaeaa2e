use Rattle.std.proofs.Common.{rules, append_assoc}
use Rattle.port_mapper.proofs.address.universal_address.Goals as goal

pub returns : goal.returns
returns c = search (rules, append_assoc)
