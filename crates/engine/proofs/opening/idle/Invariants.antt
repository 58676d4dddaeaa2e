use Rattle.std.proofs.Common.{◌≡◌, replicate}
use Rattle.engine.specs.Workers.{idle_worker}
use Rattle.engine.proofs.opening.idle.Given as goal

abbrev pub invariant-loop-done : goal.invariant-loop-done
invariant-loop-done l = l.workers.items ≡ replicate l._done idle_worker
