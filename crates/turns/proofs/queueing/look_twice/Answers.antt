use Rattle.granted_calls.specs.shared_waiting.Passes.{known}
use Rattle.turns.proofs.Turning.{placed-by}
use Rattle.turns.proofs.queueing.look_twice.Goals as goal

pub returns-in-Some-clause-placed : goal.returns-in-Some-clause-placed
returns-in-Some-clause-placed g c layout is = placed-by layout (known c.args.pass.now) c.in-Some.message is c.in-Some.ensures.rule.1
