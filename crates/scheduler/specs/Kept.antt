-- How messages are kept: in cells, some of them vacant, beside the line that each cell is in.
use Rattle.std.specs.Prelude.{◌≡◌, ℕ, ◌≤◌, List, [], ◌∷◌, length, map, take, Option, Some, None}
use Rattle.std.specs.List.{slice_get}
use Rattle.affinity.specs.Affinity.{call_node}
use Rattle.scheduler.specs.QueueNumber.{queue_of, HasQueue}
use Rattle.scheduler.specs.declared.message.Message.{Message}

-- what is in the cells, in their order
abbrev pub present : {X : Type 0} → List (Option X) → List X
present [] = []
present (None ∷ xs) = present xs
present (Some x ∷ xs) = x ∷ present xs

-- the queue of what is in a cell
abbrev pub line_of : {C : Type 0} → Option (Message C) → Option ℕ
line_of None = None
line_of (Some m) = Some (queue_of (call_node m.affinity))

abbrev pub lines_of : {C : Type 0} → List (Option (Message C)) → List (Option ℕ)
lines_of messages = map line_of messages

-- each message tries an affinity that a layout may have
abbrev pub HaveQueues : {C : Type 0} → List (Option (Message C)) → Type 0
HaveQueues {C} messages = (i : ℕ) (m : Message C) → slice_get messages i ≡ Some (Some m) → HasQueue (call_node m.affinity)

-- a cell has a message
abbrev pub HasMessage : {C : Type 0} → List (Option (Message C)) → ℕ → Type 0
HasMessage {C} messages cell = (m : Message C) × (slice_get messages cell ≡ Some (Some m))

-- Each cell is in the line of its message. The cells before the start are vacant.
pub record AreKept {C : Type 0} (messages : List (Option (Message C))) (lines : List (Option ℕ)) (count start : ℕ) : Type 0 where
  pub lined : lines ≡ lines_of messages
  pub queues : HaveQueues messages
  pub counted : count ≡ length (present messages)
  pub most : count ≤ 1024
  pub within : start ≤ length messages
  pub vacant : present (take start messages) ≡ []
