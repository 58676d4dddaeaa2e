-- What contracts name of a connection.
use Rattle.std.specs.Prelude.{ℕ, ⊤, ◌+◌, ◌-◌, ◌^◌, ◌==◌, List, Option, Some, None, length, min, max, if◌then◌else◌}
use Rattle.tcp_front.specs.declared.peer.Peer.{Peer}
use Rattle.tcp_front.specs.declared.stream.Stopped.{Stopped}
use Rattle.tcp_front.specs.Peers.{Sender, sender_of}
use Rattle.connections.specs.declared.connection.Connection.{Connection}
use Rattle.connections.specs.declared.connection.Flags.{Flags}
use Rattle.connections.specs.declared.due.Due.{Due}
use Rattle.connections.specs.Told.{device_of, calls_of}

-- its device
abbrev pub now_of : {D : Type 0} → Connection D → D
now_of c = device_of c.device

-- how often its device was called, wrapping
abbrev pub calls_to : {D : Type 0} → Connection D → ℕ
calls_to c = calls_of c.device

abbrev pub number_of : {D : Type 0} → Connection D → ℕ
number_of c = c.stream.connection.0

-- who is at its other end
abbrev pub peer_of : {D : Type 0} → Connection D → Peer
peer_of c = c.stream.peer

-- who sends its records
abbrev pub sender_at : {D : Type 0} → Connection D → Sender
sender_at c = sender_of c.stream.peer

-- how many records of it were given on
abbrev pub records_of : {D : Type 0} → Connection D → ℕ
records_of c = c.stream.records

-- the bytes that were read and aren't cut into records yet
abbrev pub kept_of : {D : Type 0} → Connection D → List ℕ
kept_of c = c.kept

-- why no more of it is read, if it isn't
abbrev pub stopped_of : {D : Type 0} → Connection D → Option Stopped
stopped_of c = c.stopped

abbrev pub has_stopped : Option Stopped → Type 0
has_stopped None = ⊥
has_stopped (Some stopped) = ⊤

-- no more of it is read
abbrev pub IsStopped : {D : Type 0} → Connection D → Type 0
IsStopped c = has_stopped c.stopped

-- what is owed to it
abbrev pub due_of : {D : Type 0} → Connection D → Due
due_of c = c.owed

-- the largest count
abbrev pub most_counted : ℕ
most_counted = 2 ^ 64 - 1

-- nothing is owed
abbrev pub nothing_due : Due
nothing_due = record { replies = 0; room = 0 }

-- one reply more is owed; its room is counted as 256 bytes at least
abbrev pub with_reply : ℕ → Due → Due
with_reply room due = record { replies = min (due.replies + 1) most_counted; room = min (due.room + max room 256) most_counted }

-- a reply less is owed, whose record had this much room; where none is owed any more, no room is
abbrev pub without_reply : ℕ → Due → Due
without_reply room due =
    record { replies = due.replies - 1; room = if due.replies - 1 == 0 then 0 else due.room - max room 256 }

-- about how much room its replies take, with the bytes that its device had no room for
abbrev pub room_owed : {D : Type 0} → Connection D → ℕ
room_owed c = min (c.owed.room + length c.rest) most_counted

-- with another count of what is owed
abbrev pub owing : {D : Type 0} → Due → Connection D → Connection D
owing owed c = record c { owed = owed }

-- with other flags
abbrev pub flagged : {D : Type 0} → Flags → Connection D → Connection D
flagged flags c = record c { flags = flags }
