use Rattle.std.proofs.Common.{rules, None, sym}
use Rattle.desk.specs.laws.lemmas.Beside.{lent-else, begun-fresh}
use Rattle.desk.specs.Words.{books}
use Rattle.depot_rows.proofs.turns.begin_beside.Goals as goal

pub ask-beside-requires-clause-idle : goal.ask-beside-requires-clause-idle
ask-beside-requires-clause-idle g c =
    lent-else (books c.args.desk.now) c.args.worker _ (books c.begin.new.self) c.in-Ok.ensures.begun.books c.args.other None
    (λ e. c.if-worker-other.false (sym e)) (c.if-not-is_ready-2.ensures.idle (search rules))

pub returns-clause-fresh : goal.returns-clause-fresh
returns-clause-fresh g c =
    c.ask-beside.ensures.others c.args.worker c.if-worker-other.false
    (begun-fresh (books c.args.desk.now) c.args.worker _ (books c.begin.new.self)
    (c.if-not-is_ready.ensures.idle (search rules)) c.in-Ok.ensures.begun)
