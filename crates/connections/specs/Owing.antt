-- What is owed for replies that are taken to be written.
use Rattle.std.specs.Prelude.{◌≡◌, ◌≤◌, ℕ, List, [], ◌∷◌, length}
use Rattle.outboxes.specs.Messages.{ReplyMessage, record_of}
use Rattle.connections.specs.declared.due.Due.{Due}
use Rattle.connections.specs.Connections.{without_reply}

-- These replies were taken, in order, and are owed no more: each is paid once, with the room of its record.
abbrev pub Pays : List ReplyMessage → Due → Due → Type 0
Pays [] due due' = due' ≡ due
Pays (m ∷ ms) due due' = (room : ℕ) × (length (record_of m) ≤ room) × Pays ms (without_reply room due) due'
