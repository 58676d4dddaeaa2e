use Rattle.admin_client.proofs.Pieces.{record_begins, fault_begins}
use Rattle.admin_client.proofs.incoming.take.Goals as goal

pub returns-in-Record : goal.returns-in-Record
returns-in-Record c came is =
    let says = rw c.in-Record.is at (c.feed-taken.ensures.says came is.2) in
    record_begins c.in-Record.made.items came c.args.piece.now c.feed-taken.result.0 says.1

pub returns-in-More : goal.returns-in-More
returns-in-More c came is =
    let says = rw c.in-More.is at (c.feed-taken.ensures.says came is.2) in
    (says.1, says.2, says.3)

pub returns-in-Fault : goal.returns-in-Fault
returns-in-Fault c came is =
    let says = rw c.in-Fault.is at (c.feed-taken.ensures.says came is.2) in
    fault_begins came c.args.piece.now c.feed-taken.result.0 says.1
