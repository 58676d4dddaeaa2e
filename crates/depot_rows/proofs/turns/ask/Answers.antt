use Rattle.affinity.specs.Affinity.{call_node}
use Rattle.desk.specs.laws.lemmas.Beside.{begun-fresh, fresh-still}
use Rattle.desk.specs.Words.{books}
use Rattle.depot_rows.proofs.turns.ask.Goals as goal

pub put_back-requires-clause-may : goal.put_back-requires-clause-may
put_back-requires-clause-may g c =
    begun-fresh (books c.args.desk.now) c.args.worker (call_node c.args.home) (books c.begin.new.self) c.requires.idle c.in-Ok.ensures.begun

pub returns-in-Ok-clause-others : goal.returns-in-Ok-clause-others
returns-in-Ok-clause-others g c = λ other ne may.
    fresh-still (books c.begin.new.self) c.args.worker _ (books c.put_back.new.self) c.put_back.ensures.back.books other ne
    (fresh-still (books c.args.desk.now) c.args.worker _ (books c.begin.new.self) c.in-Ok.ensures.begun.books other ne may)
