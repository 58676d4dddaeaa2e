use Rattle.std.proofs.Common.{refl}
use Rattle.connections.proofs.UnderKeys.{writes-under}
use Rattle.connections.proofs.keyed.write_under.Goals as goal

pub returns-in-Some : goal.returns-in-Some
returns-in-Some g c =
    writes-under _ _ c.args.connections.now _ c.args.key _ _ _ c.args.outboxes.now _ _ c.in-Some.ensures.value refl c.write.ensures
