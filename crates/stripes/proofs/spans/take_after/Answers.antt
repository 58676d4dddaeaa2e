use Rattle.stripes.proofs.SpanTaken.{spans-after}
use Rattle.stripes.proofs.spans.take_after.Goals as goal

pub returns-in-Some-clause-taken : goal.returns-in-Some-clause-taken
returns-in-Some-clause-taken c = λ _.
    spans-after c.args.fileid c.args.span c.in-Some.next c.take_whole.new.freed c.args.spans.now.entries c.take_whole.new.spans.entries
    c.in-Some.ensures.after c.in-Some.ensures.first c.requires.filled c.take_whole.ensures
