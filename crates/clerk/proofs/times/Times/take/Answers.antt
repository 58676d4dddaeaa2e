use Rattle.std.proofs.Common.{arith}
use Rattle.clerk.proofs.Spans.{first-cut}
use Rattle.clerk.proofs.times.Times.take.Goals as goal

pub returns-clause-taken : goal.returns-clause-taken
returns-clause-taken c =
    let more = c.if-span-most.false in
    first-cut c.in-Some.span.since c.in-Some.span.calls c.args.most _ c.next.new.self.first c.next.new.self.behind.items (omega (arith, more))
    c.in-Some.ensures.first c.in-Some.ensures.some
