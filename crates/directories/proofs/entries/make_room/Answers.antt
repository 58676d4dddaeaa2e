use Rattle.std.proofs.Common.{arith}
use Rattle.nfs_values.specs.Answer.{entry_of}
use Rattle.directories.specs.Slots.{in_order}
use Rattle.directories.proofs.Slots.{element-at, read-there}
use Rattle.directories.proofs.Pages.{first-fits, on-error}
use Rattle.directories.proofs.entries.make_room.Goals as goal

pub returns-clause-err : goal.returns-clause-err
returns-clause-err c =
    let e = entry_of c.entry_in.result.now in
    let element = element-at c.args.slots.now c.args.order.now c.args.after c.at.result e (omega arith) (read-there c.args.order.now c.args.after c.at.result c.at.ensures) c.entry_in.ensures in
    on-error c.reserve.result (first-fits (in_order c.args.slots.now c.args.order.now) c.args.after c.args.room c.size_of-size.result e
    element c.size_of-size.ensures (omega arith))
