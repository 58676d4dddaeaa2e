use Rattle.std.proofs.Common.{refl}
use Rattle.lanes.proofs.Steps.{reads-under}
use Rattle.lanes.proofs.lane.reading.read_under.Goals as goal

pub returns-in-Some : goal.returns-in-Some
returns-in-Some g c =
    reads-under _ _ _ _ c.args.connections.now _ c.args.key _ _ _ c.args.intake.now _ _ _ c.in-Some.ensures.value refl c.read_one.ensures
