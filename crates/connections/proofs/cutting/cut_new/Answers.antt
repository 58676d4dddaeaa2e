use Rattle.affinity.specs.Layout.{layout_of}
use Rattle.connections.proofs.Cut.{cut-no-memory, cut-stopped, none-is, stopped-is}
use Rattle.connections.proofs.cutting.cut_new.Goals as goal
use Rattle.std.proofs.Common.{◌∙◌}

pub returns-then-is_some-clause-cut : goal.returns-then-is_some-clause-cut
returns-then-is_some-clause-cut g c =
    cut-stopped g.S.RecordSink.came g.S.RecordSink.room (layout_of c.args.layout.now) c.args.offer _ _ _ _ _ _ _ _ c.take_some-taken.ensures.taken
    (stopped-is c.take_some-taken.result.1 c.is_some.result c.is_some.ensures c.if-is_some.true) c.requires.none

pub returns-in-Err-clause-cut : goal.returns-in-Err-clause-cut
returns-in-Err-clause-cut g c =
    cut-no-memory g.S.RecordSink.came g.S.RecordSink.room (layout_of c.args.layout.now) c.args.offer _ _ _ _ _ _ _ _
    (none-is c.take_some-taken.result.1 c.is_some.result c.is_some.ensures c.if-is_some.false) c.take_some-taken.ensures.taken
    (c.in-Err.ensures.err ∙ c.requires.none)
