-- What is done to the connections that are open, by their keys, and to their outboxes.
use Rattle.std.specs.Prelude.{◌≡◌, ℕ, List, [], Option, Some, None, Result, Ok, Err}
use Rattle.slab.specs.Slab.{Slab, get, Updates, with_value}
use Rattle.rpc_msg.specs.declared.offer.Offer.{Offer}
use Rattle.outboxes.specs.Boxes.{Boxes, shut, opened}
use Rattle.tcp_front.specs.declared.peer.Peer.{Peer}
use Rattle.connections.specs.declared.connection.Connection.{Connection}
use Rattle.connections.specs.declared.connection.Flags.{Flags}
use Rattle.connections.specs.declared.writing.Sent.{Sent}
use Rattle.connections.specs.declared.writing.Sent.TheVariants as sents
use Rattle.connections.specs.Connections.{due_of, flagged, nothing_due, now_of, number_of, peer_of}
use Rattle.connections.specs.Incoming.{Incoming}
use Rattle.connections.specs.Reading.{Reads}
use Rattle.connections.specs.Writing.{HasWritten, Writes}

-- ---- openings

-- A connection is open under the key that was next, over the device that was given and to this peer, and with the number that was next; or the
-- device came back, and nothing changed.
abbrev pub Opens : {D : Type 0} → Slab (Connection D) → Boxes → D → Peer → Result ℕ D → Slab (Connection D) → Boxes → Type 0
Opens {D} slab boxes device peer (Ok key) slab' boxes' =
    (key ≡ slab.vacant_key) × (boxes' ≡ opened boxes)
    × ((c : Connection D) × Updates slab slab' key (Some c) × (c.opened.value ≡ device) × (number_of c ≡ boxes.next)
    × (peer_of c ≡ peer))
Opens {D} slab boxes device peer (Err back) slab' boxes' =
    (back ≡ device) × ((key : ℕ) → get slab' key ≡ get slab key) × (boxes' ≡ boxes)

-- since this connection was opened, nothing came of it, by any offer, nothing was to be written to it, and nothing is owed to it
pub record HasBegun {D : Type 0} (unread : D → Incoming) (written : D → Option (List ℕ)) (c : Connection D) : Type 0 where
  pub reads : (offer : Offer) → Reads offer unread c.opened.value c []
  pub writes : Writes written c.opened.value c [] []
  pub owed : due_of c ≡ nothing_due

-- ---- writing

-- the connection of a key was written, or there is none and nothing changed
abbrev pub WritesUnder : {D : Type 0} → (D → Incoming) → (D → Option (List ℕ)) → Slab (Connection D) → ℕ
    → Option (Connection D) → Boxes → Sent → Slab (Connection D) → Boxes → Type 0
WritesUnder unread written slab key None boxes result slab' boxes' =
    (result ≡ sents.Failed) × (slab' ≡ slab) × (boxes' ≡ boxes)
WritesUnder {D} unread written slab key (Some before) boxes result slab' boxes' =
    (after : Connection D) × (slab' ≡ with_value slab key after) × HasWritten unread written before boxes result after boxes'

-- ---- flags

-- the connection of a key has these, if there is one
abbrev pub Flagged : {D : Type 0} → Slab (Connection D) → ℕ → Option (Connection D) → Flags → Slab (Connection D) → Type 0
Flagged slab key None flags slab' = slab' ≡ slab
Flagged slab key (Some c) flags slab' = slab' ≡ with_value slab key (flagged flags c)

-- ---- closings

-- the connection of a key is closed, and its device comes back; or there is none
abbrev pub Closes : {D : Type 0} → Slab (Connection D) → ℕ → Boxes → Option (Connection D) → Option D → Slab (Connection D)
    → Boxes → Type 0
Closes slab key boxes None device slab' boxes' = (device ≡ None) × (slab' ≡ slab) × (boxes' ≡ boxes)
Closes slab key boxes (Some c) device slab' boxes' =
    (device ≡ Some (now_of c)) × Updates slab slab' key None × (boxes' ≡ shut (number_of c) boxes)
