-- Words on lanes.
use Rattle.std.specs.Prelude.{ℕ, List, Option}
use Rattle.std.specs.Arc.{arc_value}
use Rattle.slab.specs.Slab.{Slab, get}
use Rattle.affinity.specs.declared.layout.Layout.{Layout}
use Rattle.rpc_msg.specs.declared.offer.Offer.{Offer}
use Rattle.outboxes.specs.Boxes.{Boxes}
use Rattle.granted_calls.specs.Messages.{Message}
use Rattle.granted_calls.specs.declared.shared.Filer.{Filer}
use Rattle.granted_calls.specs.declared.shared_waiting.pass.Pass.{Pass}
use Rattle.granted_calls.specs.declared.shared_waiting.pass.SharedWaiting.{SharedWaiting}
use Rattle.turns.specs.declared.worker.Worker.{Worker}
use Rattle.granted_calls.specs.shared_waiting.Passes.{known}
use Rattle.granted_calls.specs.Filers.{layout_in}
use Rattle.turns.specs.Words.{entries_in}
use Rattle.connections.specs.Incoming.{Incoming}
use Rattle.connections.specs.declared.connection.Connection.{Connection}
use Rattle.connections.specs.declared.device.Device as devices
use Rattle.lanes.specs.declared.intake.Intake.{Intake}
use Rattle.lanes.specs.declared.lane.Lane.{Lane}
use Rattle.lanes.specs.Owed.{AreOwed}
use Rattle.lanes.specs.Story.{Story}

-- a place among this many lanes, what is offered, and a queue
abbrev pub Identity : Type 0
Identity = (ℕ × ℕ) × Offer × SharedWaiting Message Layout

module _ {D R : Type 0} {G : devices.Ghosts D} where
  -- the filer whose calls it runs
  abbrev pub filer_in : Lane D R G → Filer
  filer_in lane = arc_value lane.filer

  -- which of the filer's lanes it is, from 0
  abbrev pub index_in : Lane D R G → ℕ
  index_in lane = lane.index

  -- how many lanes there are
  abbrev pub count_in : Lane D R G → ℕ
  count_in lane = lane.count

  -- both
  abbrev pub place_in : Lane D R G → ℕ × ℕ
  place_in lane = (lane.index, lane.count)

  -- by what is offered its connections' records are read
  abbrev pub offer_in : Lane D R G → Offer
  offer_in lane = lane.offer

  abbrev pub worker_in : Lane D R G → Worker
  worker_in lane = lane.intake.worker

  -- where what its connections read goes
  abbrev pub intake_in : Lane D R G → Intake R
  intake_in lane = lane.intake

  abbrev pub queue_in : Lane D R G → SharedWaiting Message Layout
  queue_in lane = lane.intake.queue

  -- which lane it is: its place, what it offers and its queue, which no call changes. Both passes of that queue are the lane's, and tell what was ever
  -- put into it and picked.
  abbrev pub identity_in : Lane D R G → Identity
  identity_in lane = (place_in lane, offer_in lane, queue_in lane)

  -- the pass by which it admits
  abbrev pub pass_in : Lane D R G → Pass Message Layout
  pass_in lane = lane.intake.pass

  -- the messages that it admitted, in order
  abbrev pub put_in : Lane D R G → List Message
  put_in lane = (known lane.intake.pass).put

  -- its share: how many messages it may have
  abbrev pub share_in : Lane D R G → ℕ
  share_in lane = lane.intake.most

  -- what waits to be written
  abbrev pub boxes_in : Lane D R G → Boxes
  boxes_in lane = lane.intake.outboxes

  -- how many messages were admitted and not finished, as it counts
  abbrev pub waiting_in : Lane D R G → ℕ
  waiting_in lane = lane.intake.waiting

  -- the connections that are open, by their keys
  abbrev pub connections_in : Lane D R G → Slab (Connection D)
  connections_in lane = lane.connections

  -- the connections that were closed, each as it was then, in that order
  abbrev pub closed_in : Lane D R G → List (Connection D)
  closed_in lane = lane.closed.items

  -- its whole life, over devices that tell their bytes
  abbrev pub HasStory : (D → Incoming) → (D → Option (List ℕ)) → Lane D R G → Type 0
  HasStory unread written lane = Story unread written (layout_in (filer_in lane)) (offer_in lane) (index_in lane) (count_in lane)
      (entries_in (worker_in lane)) (put_in lane) (boxes_in lane) (get (connections_in lane)) (closed_in lane)

  -- what is owed to its connections that are open
  abbrev pub OwesEach : Lane D R G → Type 0
  OwesEach lane = AreOwed (entries_in (worker_in lane)) (put_in lane) (boxes_in lane) (get (connections_in lane))
