-- What the threads of a filer share may cross threads, and so may messages.
use denote.Param.Send.{IsSend, IsSync, sendable, view_send}
use denote.Param.SendFields.{declared_send, declared_sync}
use Rattle.std.proofs.Crossing.{crosses, Box-send}
use Rattle.depot.proofs.depot.Depot.TheSendSync as depot
use Rattle.nfs_values.proofs.verifier.Verifier.TheSendSync as verifier
use Rattle.parcels.proofs.family.Parcel.TheSendSync as parcel
use Rattle.filer_state.proofs.range.RangeParcel.TheSendSync as range
use Rattle.filer_state.proofs.stripe.StripeParcel.TheSendSync as stripe
use Rattle.granted_calls.proofs.entered_call.EnteredCall.TheSendSync as entered
use Rattle.granted_calls.specs.contracts.entered_call.EnteredCall as EnteredCall
use Rattle.granted_calls.proofs.shared_waiting.pass.SharedWaiting.TheSendSync as waiting
use Rattle.granted_calls.proofs.moments.Moments.TheSendSync as moments
use Rattle.granted_calls.specs.contracts.envelope.Envelope as Envelope
use Rattle.granted_calls.specs.contracts.envelope.Envelope.TheInside as EnvelopeInside
use Rattle.granted_calls.specs.contracts.shared.Filer as Filer
use Rattle.granted_calls.specs.contracts.spent.Spent as Spent
use Rattle.granted_calls.specs.contracts.shared_outboxes.SharedOutboxes as SharedOutboxes
use Rattle.granted_calls.proofs.crossings.Structs.{struct-send}
use Rattle.granted_calls.proofs.crossings.Outboxes.{room-send, outboxes-send}
use Rattle.granted_calls.proofs.crossings.Parcels.{logical-parcel-send}

entered-send : IsSend EnteredCall.the_row
entered-send = search (entered.the_send, sendable) depth 20

envelope-inside-send : IsSend EnvelopeInside.the_row
envelope-inside-send = struct-send EnvelopeInside.the_type (Box-send EnteredCall.the_row entered-send, (room-send, tt))

pub envelope-send : IsSend Envelope.the_row
envelope-send = view_send EnvelopeInside.the_row _ _ _ _ envelope-inside-send

pub spent-send : IsSend Spent.the_row
spent-send = declared_send Spent.the_type (Box-send EnteredCall.the_row entered-send, tt)

pub filer-send : IsSend Filer.the_row
filer-send = declared_send Filer.the_type (
  search (crosses, sendable),
  (
    search (verifier.the_send, sendable),
    (
      search (depot.the_send, parcel.the_send, range.the_send, stripe.the_send, logical-parcel-send, crosses, sendable) depth 20,
      (search (waiting.the_send, envelope-send, sendable), (search (moments.the_send, crosses, sendable) depth 20, tt)),
    ),
  ),
)

pub filer-sync : IsSync Filer.the_row
filer-sync = declared_sync Filer.the_type (
  search (crosses, sendable) depth 20,
  (
    search (verifier.the_sync, sendable) depth 20,
    (
      search (depot.the_sync, parcel.the_send, range.the_send, stripe.the_send, logical-parcel-send, crosses, sendable) depth 20,
      (search (waiting.the_sync, envelope-send, sendable) depth 20, (search (moments.the_sync, crosses, sendable) depth 20, tt)),
    ),
  ),
)

-- ---- the outboxes that threads share

pub shared-outboxes-send : IsSend SharedOutboxes.the_row
shared-outboxes-send = declared_send SharedOutboxes.the_type (search (waiting.the_send, outboxes-send, crosses, sendable) depth 20, tt)

pub shared-outboxes-sync : IsSync SharedOutboxes.the_row
shared-outboxes-sync = declared_sync SharedOutboxes.the_type (search (waiting.the_sync, outboxes-send, crosses, sendable) depth 20, tt)
