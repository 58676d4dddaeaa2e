use Rattle.std.proofs.Common.{arith}
use Rattle.outboxes.proofs.Tables.{none-empty}
use Rattle.outboxes.proofs.outboxes.Outboxes.with_room_for.Goals as goal

pub invariant_of-result : goal.invariant_of-result
invariant_of-result c =
    let lane = c.requires.lane in
    (none-empty c.args.lane c.new.result c.new.ensures, (omega (arith, lane), c.requires.few))
