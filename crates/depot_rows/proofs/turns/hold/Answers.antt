use Rattle.std.proofs.Common.{rules}
use Rattle.affinity.specs.Affinity.{call_node}
use Rattle.desk.specs.laws.lemmas.Beside.{begun-fresh}
use Rattle.desk.specs.Words.{books}
use Rattle.depot_rows.proofs.turns.hold.Goals as goal

pub returns-in-Ok-clause-fresh : goal.returns-in-Ok-clause-fresh
returns-in-Ok-clause-fresh g c = λ e.
    begun-fresh (books c.args.desk.now) c.args.worker (call_node c.args.home) (books c.begin.new.self)
    (c.if-not-is_ready.ensures.idle (search rules)) c.in-Ok.ensures.begun
