-- What stays of a worker while its thread runs it.
use Rattle.std.specs.Prelude.{◌≡◌}
use Rattle.workers.specs.declared.pool_worker.PoolWorker.{PoolWorker}
use Rattle.granted_calls.specs.declared.shared.Filer.{Filer}
use Rattle.granted_calls.specs.declared.shared_outboxes.SharedOutboxes.{SharedOutboxes}
use Rattle.turns.specs.declared.worker.Worker.{Worker}
use Rattle.granted_calls.specs.Served.{HasShareOf}
use Rattle.turns.specs.Words.{passed, seats_in, IsIn}
use Rattle.granted_calls.specs.SharedOutboxes.{HasLentShareOf, IsOf}
use Rattle.granted_calls.specs.shared_waiting.Passes.{known}

-- the worker after has the share of the right to know the queue, and the seats, that the one before had
abbrev pub IsHeir : Worker → Worker → Type 0
IsHeir before after = HasShareOf (passed before) (passed after) × (seats_in after ≡ seats_in before)

-- a worker of a pool is of this filer, and puts its answers into these outboxes
abbrev pub ServesAt : Filer → SharedOutboxes → PoolWorker → Type 0
ServesAt filer outboxes w = IsIn filer w.worker × IsOf outboxes w.pass

-- what stays of a worker of a pool
abbrev pub IsPoolHeir : PoolWorker → PoolWorker → Type 0
IsPoolHeir before after = IsHeir before.worker after.worker × HasLentShareOf (known before.pass) (known after.pass)
