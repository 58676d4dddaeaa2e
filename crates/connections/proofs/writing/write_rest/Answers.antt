use Rattle.connections.proofs.OneWrite.{first-some, rest-left, sent-by}
use Rattle.connections.proofs.writing.write_rest.Goals as goal

pub returns-clause-sent : goal.returns-clause-sent
returns-clause-sent g c =
    let begins = c.first-first.ensures.begins in
    let first = c.first-first.result.now in
    let asked = c.outcome_of-moved.ensures in
    let told = c.write_once.ensures in
    sent-by g.D.Device.unread g.D.Device.written c.args.device.now c.write_once.new.self c.args.rest.now first begins.0 begins.1
    told.apart (first-some first c.args.rest.now c.first-first.ensures.some c.requires) c.outcome_of-moved.result.0 c.forget.new.self
    (rest-left first begins.0 c.args.rest.now c.forget.new.self c.outcome_of-moved.result.0 begins.1 asked.within c.forget.ensures)
    c.write_once.result c.outcome_of-moved.result.1 asked.is told.bound told.bytes told.called
