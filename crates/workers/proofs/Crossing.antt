-- What a thread of a worker takes with it, and gives back, may cross threads.
use denote.Param.Send.{IsSend, sendable}
use denote.Param.SendFields.{declared_send}
use Rattle.std.proofs.Crossing.{crosses}
use Rattle.workers.proofs.stop_word.StopWord.TheSendSync as stop
use Rattle.granted_calls.proofs.shared_waiting.pass.Pass.TheSendSync as pass
use Rattle.granted_calls.proofs.crossings.Outboxes.{outboxes-send}
use Rattle.granted_calls.proofs.Crossing.{filer-send, filer-sync, shared-outboxes-send, shared-outboxes-sync}
use Rattle.turns.proofs.Crossing.{worker-send}
use Rattle.workers.specs.contracts.commons.Commons as Commons
use Rattle.workers.specs.contracts.pool_worker.PoolWorker as PoolWorker
use Rattle.workers.specs.contracts.task.WorkerStart as WorkerStart

commons-send : IsSend Commons.the_row
commons-send = declared_send Commons.the_type (
  search (filer-send, filer-sync, crosses, sendable) depth 20,
  (
    search (shared-outboxes-send, shared-outboxes-sync, crosses, sendable) depth 20,
    (search (stop.the_send, stop.the_sync, crosses, sendable) depth 20, tt),
  ),
)

pub pool-worker-send : IsSend PoolWorker.the_row
pool-worker-send = declared_send PoolWorker.the_type (
  search (worker-send, sendable) depth 20,
  (search (pass.the_send, outboxes-send, crosses, sendable) depth 20, tt),
)

pub task-send : IsSend WorkerStart.the_row
task-send = declared_send WorkerStart.the_type (search (commons-send, sendable) depth 20, (search (pool-worker-send, sendable) depth 20, tt))
