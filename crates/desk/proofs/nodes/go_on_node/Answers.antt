use Rattle.std.proofs.Common.{refl}
use Rattle.desk.proofs.nodes.go_on_node.Goals as goal

pub returns-clause-gone_on : goal.returns-clause-gone_on
returns-clause-gone_on g c =
    let q = c.in_ok-go_on.ensures.gone_on in (q.0, q.1, record { affinity = refl; exact = c.requires.can.exact; begun = q.2; after = q.3 })
