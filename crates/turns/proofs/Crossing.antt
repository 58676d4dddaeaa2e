-- What a worker takes with it may cross threads.
use denote.Param.Send.{IsSend, sendable}
use denote.Param.SendFields.{declared_send}
use Rattle.std.proofs.Crossing.{crosses}
use Rattle.depot.proofs.seats.Seat.TheSendSync as seat
use Rattle.service.proofs.batch.BatchInHand.TheSendSync as batch
use Rattle.granted_calls.proofs.shared_waiting.pass.Pass.TheSendSync as pass
use Rattle.granted_calls.proofs.Crossing.{envelope-send}
use Rattle.turns.specs.contracts.worker.Worker as Worker

pub worker-send : IsSend Worker.the_row
worker-send = declared_send Worker.the_type (
  search (seat.the_send, sendable) depth 20,
  (
    search (pass.the_send, envelope-send, sendable) depth 20,
    (
      search (batch.the_send, sendable) depth 20,
      (search (envelope-send, crosses, sendable) depth 20, (search (crosses, sendable) depth 20, tt)),
    ),
  ),
)
