use Rattle.granted_calls.specs.Filers.{layout_in}
use Rattle.granted_calls.specs.shared_waiting.Passes.{known}
use Rattle.workers.proofs.Told.{has-worked, has-share}
use Rattle.workers.proofs.working.worker_turn.Goals as goal

pub returns-clause-worked : goal.returns-clause-worked
returns-clause-worked g c =
    let t = c.turn-worker in
    let p = c.put_answer in
    has-worked (layout_in c.args.filer.now) c.args.worker c.args.moment (known c.args.pass.now) t.result.0 (known p.new.pass) t.result.1 p.result
    t.ensures.did p.ensures.told

pub returns-clause-lent : goal.returns-clause-lent
returns-clause-lent g c =
    has-share c.turn-worker.result.1 (known c.args.pass.now) c.put_answer.result (known c.put_answer.new.pass) c.put_answer.ensures.told
