use Rattle.std.proofs.Common.{[], map}
use Rattle.engine.specs.Seen.{event_of}
use Rattle.engine.proofs.Runs.{plays}
use Rattle.engine.proofs.engine.Engine.play.Goals as goal

pub returns-clause-runs : goal.returns-clause-runs
returns-clause-runs c =
    plays c.in_ok-engine.engine c.run.new.self (map event_of c.args.events.now) c.run.result
    c.in_ok-engine.ensures.opening c.run.ensures.setup c.run.ensures.runs

pub returns-clause-promise : goal.returns-clause-promise
returns-clause-promise c = c.run.ensures.promise [] c.in_ok-engine.ensures.promise
