use Rattle.stripes.proofs.Takes.{none-later}
use Rattle.stripes.proofs.SpanTaken.{spans-at, spans-later}
use Rattle.stripes.proofs.spans.take_from.Goals as goal

pub returns-then-take_span-clause-taken : goal.returns-then-take_span-clause-taken
returns-then-take_span-clause-taken c = λ _.
    spans-at c.args.fileid c.args.first c.take_span.new.freed c.args.spans.now.entries c.take_span.new.spans.entries c.requires
    (c.take_span.ensures.taken c.if-take_span.true)

pub returns-clause-taken : goal.returns-clause-taken
returns-clause-taken c = λ took.
    spans-later c.args.fileid c.args.first c.take_after.new.freed c.args.spans.now.entries c.take_span.new.spans.entries c.take_after.new.spans.entries
    (c.take_span.ensures.kept c.if-take_span.false) (c.take_span.ensures.none c.if-take_span.false) (c.take_after.ensures.taken took)

pub returns-clause-none : goal.returns-clause-none
returns-clause-none c = λ kept.
    none-later c.args.fileid c.args.first c.args.spans.now.entries c.take_span.new.spans.entries (c.take_span.ensures.kept c.if-take_span.false)
    (c.take_span.ensures.none c.if-take_span.false) (c.take_after.ensures.none kept)
