use Rattle.std.proofs.Common.{arith}
use Rattle.desk.specs.laws.lemmas.Beside.{all-idle}
use Rattle.desk.specs.Words.{books}
use Rattle.depot_rows.proofs.turns.are_idle.Goals as goal

pub returns : goal.returns
returns g c = λ e.
    let past = c.loop-worker-test.false in
    let count = c.worker_count-worker-end.ensures in
    let most = c.loop-worker.auto.worker-end in
    all-idle (books c.args.desk.now) (λ i less. c.loop-worker.invariant i (omega arith))
