-- A lane may cross threads, where its device and what it waits by may.
use denote.RattleType.{RattleType}
use denote.Param.Send.{IsSend, sendable, view_send}
use denote.Param.SendFields.{declared_send}
use Rattle.std.proofs.Crossing.{crosses, send, frees, Box-send}
use Rattle.slab.proofs.Slab.TheSendSync as slab
use Rattle.histories.proofs.history.History.TheSendSync as history
use Rattle.statistics.proofs.counts.ReplyCounts.TheSendSync as counts
use Rattle.rpc_msg.proofs.handle_form.HandleForm.TheSendSync as form
use Rattle.rpc_msg.proofs.offer.Offer.TheSendSync as offer
use Rattle.service_names.proofs.ahead.Ahead.TheSendSync as ahead
use Rattle.tcp_front.proofs.stream.Stopped.TheSendSync as stopped
use Rattle.tcp_front.proofs.stream.Stream.TheSendSync as stream
use Rattle.outboxes.specs.contracts.record.Record as Record
use Rattle.outboxes.specs.contracts.record.Record.TheInside as RecordInside
use Rattle.outboxes.specs.contracts.chain.Link as Link
use Rattle.granted_calls.proofs.crossings.Outboxes.{link-send, outboxes-send}
use Rattle.granted_calls.proofs.crossings.Structs.{struct-send}
use Rattle.granted_calls.proofs.Crossing.{envelope-send, filer-send, filer-sync, spent-send}
use Rattle.turns.proofs.Crossing.{worker-send}
use Rattle.granted_calls.proofs.shared_waiting.pass.Pass.TheSendSync as pass
use Rattle.granted_calls.proofs.shared_waiting.pass.SharedWaiting.TheSendSync as waiting
use Rattle.connections.proofs.backlog.Backlog.TheSendSync as backlog
use Rattle.connections.proofs.connection.Flags.TheSendSync as flags
use Rattle.connections.proofs.due.Due.TheSendSync as due
use Rattle.connections.proofs.watched.Watched.TheSendSync as watched
use Rattle.connections.specs.contracts.connection.Connection as Connection
use Rattle.lanes.specs.contracts.intake.Intake as Intake
use Rattle.lanes.specs.contracts.lane.Lane as Lane
use Rattle.lanes.specs.contracts.lane_outboxes.LaneOutboxes as LaneOutboxes
use Rattle.lanes.specs.contracts.lane_outboxes.LaneOutboxes.TheInside as LaneOutboxesInside
use Rattle.connections.specs.contracts.rest.Rest as Rest
use Rattle.connections.specs.contracts.rest.Rest.TheInside as RestInside
use Rattle.connections.specs.declared.device.Device as devices

record-send : IsSend Record.the_row
record-send = view_send RecordInside.the_row _ _ _ _ (struct-send RecordInside.the_type (Box-send Link.the_row link-send, tt))

rest-send : IsSend Rest.the_row
rest-send = view_send RestInside.the_row _ _ _ _
    (struct-send RestInside.the_type (backlog.the_send, (search (record-send, sendable) depth 20, (search sendable depth 20, tt))))

connection-send : (D : RattleType) → IsSend D → IsSend (Connection.the_row D)
connection-send D d = declared_send (Connection.the_type D) (
  search (watched.the_send, d, sendable) depth 20,
  (
    search (stream.the_send, sendable) depth 20,
    (
      search (backlog.the_send, sendable) depth 20,
      (
        search (rest-send, sendable) depth 20,
        (
          search (stopped.the_send, sendable) depth 20,
          (
            search sendable depth 20,
            (search (crosses, sendable) depth 20, (search (due.the_send, sendable) depth 20, (search (flags.the_send, sendable) depth 20, tt))),
          ),
        ),
      ),
    ),
  ),
)

replies-send : IsSend LaneOutboxes.the_row
replies-send = view_send LaneOutboxesInside.the_row _ _ _ _
    (struct-send LaneOutboxesInside.the_type (search (outboxes-send, sendable) depth 20, (search (spent-send, crosses, sendable) depth 20, tt)))

intake-send : (R : RattleType) → IsSend R → IsSend (Intake.the_row R)
intake-send R r = declared_send (Intake.the_type R) (
  search (r, sendable) depth 20,
  (
    search (crosses, sendable) depth 20,
    (
      search (crosses, sendable) depth 20,
      (
        search (waiting.the_send, envelope-send, sendable) depth 20,
        (
          search (pass.the_send, envelope-send, sendable) depth 20,
          (
            search (worker-send, sendable) depth 20,
            (
              search (replies-send, sendable) depth 20,
              (
                search sendable depth 20,
                (
                  search sendable depth 20,
                  (
                    search (due.the_send, sendable) depth 20,
                    (
                      search (form.the_send, sendable) depth 20,
                      (search sendable depth 20, (search (counts.the_send, sendable) depth 20, (search (ahead.the_send, sendable) depth 20, tt))),
                    ),
                  ),
                ),
              ),
            ),
          ),
        ),
      ),
    ),
  ),
)

pub lane-send : (D R : RattleType) (G : devices.Ghosts D.Denot) → IsSend D → IsSend R → IsSend (Lane.the_row D R G)
lane-send D R G d r = declared_send (Lane.the_type D R G) (
  search sendable depth 20,
  (
    search sendable depth 20,
    (
      search (offer.the_send, sendable) depth 20,
      (
        search (filer-send, filer-sync, crosses, sendable) depth 20,
        (
          search (intake-send, r, sendable) depth 20,
          (slab.the_send _ _ _ (connection-send D d) send frees, (history.the_send (Connection.the_row D), tt)),
        ),
      ),
    ),
  ),
)
