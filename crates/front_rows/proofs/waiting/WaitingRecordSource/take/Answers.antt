use Rattle.front_rows.proofs.Took.{took}
use Rattle.front_rows.proofs.waiting.WaitingRecordSource.take.Goals as goal

pub returns : goal.returns
returns c = took c.args.self.now.connection.0 c.args.self.now.outboxes c.take.new.self c.take.result c.take.ensures.record
    c.take.ensures.rest
