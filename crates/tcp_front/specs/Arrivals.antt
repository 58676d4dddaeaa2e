-- What the records of a connection come to (our profile).
use Rattle.std.specs.Prelude.{ℕ, ◌+◌, ◌^◌, List, [], ◌∷◌, Option, Some, None}
use Rattle.nfs_model.specs.Tree.{Affinity, Layout}
use Rattle.nfs_model.specs.Home.{home_of_asked}
use Rattle.nfs_model.specs.World.{Heard, Message}
use Rattle.engine_feed.specs.Admission.{reply_at_once}
use Rattle.outboxes.specs.Boxes.{Addressed, addressed}
use Rattle.outboxes.specs.Messages.{message}
use Rattle.tcp_front.specs.Peers.{Sender, asked_from, from_peer}

-- the most records of a connection
abbrev pub most_records : ℕ
most_records = 2 ^ 62

-- a call that waits for a worker, or a reply on its way to a connection
pub data Arrival : Type 0 where
  Waits : (message : Message) → Arrival
  Answered : (reply : Addressed) → Arrival

-- A call with a home waits, to try that; another record is answered.
abbrev pub placed : Layout → ℕ → ℕ → Heard → Option Affinity → Arrival
placed layout connection number h (Some affinity) =
    Waits (record { connection = connection; number = number; xid = h.xid; asked = h.asked; affinity = affinity })
placed layout connection number h None = Answered (addressed connection (message h.xid (reply_at_once layout h.asked)))

-- what a record of a connection comes to, by who sends it and by its number there
abbrev pub arrival_of : Layout → ℕ → Sender → ℕ → Heard → Arrival
arrival_of layout connection sender number h =
    placed layout connection number (from_peer sender h) (home_of_asked layout (asked_from sender h.asked))

-- what records come to, of which the first has this number
abbrev pub arrivals : Layout → ℕ → Sender → ℕ → List Heard → List Arrival
arrivals layout connection sender number [] = []
arrivals layout connection sender number (h ∷ hs) =
    arrival_of layout connection sender number h ∷ arrivals layout connection sender (number + 1) hs
