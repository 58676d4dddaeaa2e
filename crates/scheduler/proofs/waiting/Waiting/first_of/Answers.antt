use Rattle.scheduler.proofs.Taken.{placed, none-first, cell-first, cell-within}
use Rattle.scheduler.proofs.waiting.Waiting.first_of.Goals as goal

pub returns-in_err-cell : goal.returns-in_err-cell
returns-in_err-cell g c =
    let s = c.self.inside in
    rw c.from_residual.ensures (none-first s.messages.items s.lines s.count s.start c.queue_of.result c.args.affinity c.first.result c.args.self.now
    c.self.invariant.0 c.self.view_is c.queue_of.ensures.number c.first.ensures c.in_err-cell.was)

pub place_of-requires-clause-there : goal.place_of-requires-clause-there
place_of-requires-clause-there g c =
    let s = c.self.inside in
    rw c.deref.ensures.value (cell-first s.messages.items s.lines s.count s.start c.queue_of.result c.in_ok-cell.cell c.first.result c.self.invariant.0
    c.first.ensures
    c.in_ok-cell.was)

pub place_of-requires-clause-within : goal.place_of-requires-clause-within
place_of-requires-clause-within g c =
    let s = c.self.inside in
    rw c.deref.ensures.value (cell-within s.messages.items c.in_ok-cell.cell
    (cell-first s.messages.items s.lines s.count s.start c.queue_of.result c.in_ok-cell.cell
    c.first.result c.self.invariant.0 c.first.ensures c.in_ok-cell.was))

pub returns : goal.returns
returns g c =
    let s = c.self.inside in
    placed s.messages.items c.deref.result.now s.lines s.count s.start c.queue_of.result c.in_ok-cell.cell c.place_of.result c.args.affinity c.first.result
    c.args.self.now
    c.self.invariant.0 c.self.view_is c.queue_of.ensures.number c.requires c.first.ensures c.in_ok-cell.was c.deref.ensures.value c.place_of.ensures
