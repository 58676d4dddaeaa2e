-- What a read of a lane's connection does.
use Rattle.std.specs.Prelude.{◌≡◌, ◌≤◌, ℕ, List, Option, Some, None}
use Rattle.slab.specs.Slab.{Slab, with_value}
use Rattle.nfs_model.specs.Tree.{Layout}
use Rattle.rpc_msg.specs.declared.handle_form.HandleForm.{HandleForm}
use Rattle.rpc_msg.specs.declared.offer.Offer.{Offer}
use Rattle.rpc_msg.specs.Offer.{form_of}
use Rattle.connections.specs.Incoming.{Incoming}
use Rattle.connections.specs.declared.connection.Connection.{Connection}
use Rattle.connections.specs.declared.due.Due.{Due}
use Rattle.lanes.specs.declared.intake.Intake.{Intake}
use Rattle.connections.specs.declared.reading.Came.{Came}
use Rattle.connections.specs.declared.reading.Came.TheVariants as cames
use Rattle.connections.specs.Connections.{due_of, most_counted, owing, records_of}
use Rattle.lanes.specs.Intakes.{HasTakenIn, has_room_in}
use Rattle.connections.specs.Reading.{HasRead}

-- with another count of what is owed to the connection that is read, whose handles are told in this form
abbrev pub owing_in : {R : Type 0} → Due → HandleForm → Intake R → Intake R
owing_in owed form s = record s { owed = owed; handles = form }

-- a connection was read, and is owed what it was and what came of it
pub record ReadsOn {D R : Type 0} (unread : D → Incoming) (written : D → Option (List ℕ)) (layout : Layout) (offer : Offer) (before : Connection D)
    (sink : Intake R) (size : ℕ) (result : Came) (after : Connection D) (sink' : Intake R) : Type 0 where
  pub between : Connection D
  pub is : after ≡ owing sink'.owed between
  pub few : records_of after ≤ most_counted
  pub read : HasRead unread written HasTakenIn has_room_in layout offer before (owing_in (due_of before) (form_of offer) sink) size result between sink'

-- the connection of a key was, or there is none and nothing changed
abbrev pub ReadsUnder : {D R : Type 0} → (D → Incoming) → (D → Option (List ℕ)) → Layout → Offer → Slab (Connection D)
    → ℕ → Option (Connection D) → Intake R → ℕ → Came → Slab (Connection D) → Intake R → Type 0
ReadsUnder unread written layout offer slab key None sink size result slab' sink' =
    (result ≡ cames.Stopped) × (slab' ≡ slab) × (sink' ≡ sink)
ReadsUnder {D} unread written layout offer slab key (Some before) sink size result slab' sink' =
    (after : Connection D) × (slab' ≡ with_value slab key after) × ReadsOn unread written layout offer before sink size result after sink'
