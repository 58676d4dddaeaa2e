use Rattle.connections.proofs.OneWrite.{empty-is}
use Rattle.connections.proofs.rest.Rest.is_empty.Goals as goal

pub returns : goal.returns
returns c =
    let begins = c.first.ensures.begins in
    empty-is c.args.self.now c.first.result.now begins.0 c.is_empty.result begins.1 c.first.ensures.some c.is_empty.ensures
