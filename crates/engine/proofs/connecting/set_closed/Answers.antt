use Rattle.std.proofs.Common.{ap}
use Rattle.std.specs.Vec.{with_item}
use Rattle.engine.specs.declared.connection.Connection.{Connection}
use Rattle.engine.proofs.connecting.set_closed.Goals as goal

pub returns : goal.returns
returns c = ap (λ (d : Connection). with_item c.args.connections.now c.args.number d) c.replace.ensures.after
