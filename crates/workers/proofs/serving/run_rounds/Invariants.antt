use Rattle.std.proofs.Common.{◌<◌}
use Rattle.workers.specs.Heirs.{IsHeir}
use Rattle.granted_calls.specs.SharedOutboxes.{HasLentShareOf, IsOf}
use Rattle.turns.specs.Words.{IsIn}
use Rattle.granted_calls.specs.shared_waiting.Passes.{known}
use Rattle.workers.proofs.serving.run_rounds.Given as goal

abbrev pub invariant-loop : goal.invariant-loop
invariant-loop g l = (l.moment.nanoseconds < 1000000000) × IsIn l.filer l.worker × IsHeir l.fn.work.worker l.worker × IsOf l.outboxes l.pass
    × HasLentShareOf (known l.fn.work.pass) (known l.pass)
