-- What is owed to the connections of a lane that are open.
use Rattle.std.specs.Prelude.{◌≡◌, ◌==◌, ℕ, ◌+◌, ◌≤◌, List, length, Option, Some, if◌then◌else◌}
use Rattle.std.specs.FinMap.{get}
use Rattle.depot_rule.specs.Sums.{total}
use Rattle.outboxes.specs.Boxes.{Boxes}
use Rattle.outboxes.specs.Messages.{ReplyMessage}
use Rattle.granted_calls.specs.Balance.{FilerEntry, Weight, by_entry, by_key}
use Rattle.granted_calls.specs.Messages.{Message}
use Rattle.connections.specs.declared.connection.Connection.{Connection}
use Rattle.connections.specs.Connections.{due_of, number_of, records_of}

-- one for each of a connection
abbrev pub of_number : ℕ → Weight
of_number n connection number xid asked = if connection == n then 1 else 0

-- how many calls of a connection were admitted
abbrev pub admitted_of : ℕ → List Message → ℕ
admitted_of n put = total (by_key (of_number n)) put

-- how many of them were finished
abbrev pub finished_of : ℕ → List FilerEntry → ℕ
finished_of n entries = total (by_entry (of_number n)) entries

-- As many replies are owed to a connection as wait in its outbox, and one more for each of its calls that was admitted and isn't
-- finished. They are no more than its records. Where none is owed, no room is either.
pub record IsOwed {D : Type 0} (entries : List FilerEntry) (put : List Message) (boxes : Boxes) (c : Connection D) : Type 0 where
  pub waiting : List ReplyMessage
  pub box : get boxes.waiting (number_of c) ≡ Some waiting
  pub replies : (due_of c).replies + finished_of (number_of c) entries ≡ length waiting + admitted_of (number_of c) put
  pub few : (due_of c).replies ≤ records_of c
  pub room : (due_of c).replies ≡ 0 → (due_of c).room ≡ 0

-- so it is of each that is open
abbrev pub AreOwed : {D : Type 0} → List FilerEntry → List Message → Boxes → (ℕ → Option (Connection D)) → Type 0
AreOwed {D} entries put boxes slots = (key : ℕ) (c : Connection D) → slots key ≡ Some c → IsOwed entries put boxes c
