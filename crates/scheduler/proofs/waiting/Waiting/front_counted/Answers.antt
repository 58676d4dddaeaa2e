use Rattle.scheduler.proofs.Taken.{front, none-first}
use Rattle.scheduler.proofs.waiting.Waiting.front_counted.Goals as goal

pub returns-in-Some-clause-front : goal.returns-in-Some-clause-front
returns-in-Some-clause-front g c =
    let s = c.self.inside in
    front s.messages.items s.lines s.count s.start c.queue_of.result c.in-Some.cell c.args.affinity c.first.result c.index.result.now _ c.args.self.now
    c.self.invariant.0 c.self.view_is c.queue_of.ensures.number c.requires c.first.ensures c.in-Some.is c.index.ensures c.as_ref.ensures.value

pub returns-in-None-clause-front : goal.returns-in-None-clause-front
returns-in-None-clause-front g c =
    let s = c.self.inside in
    none-first s.messages.items s.lines s.count s.start c.queue_of.result c.args.affinity c.first.result c.args.self.now
    c.self.invariant.0 c.self.view_is c.queue_of.ensures.number c.first.ensures c.in-None.is
