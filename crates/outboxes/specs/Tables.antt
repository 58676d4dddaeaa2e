-- What the table of outboxes shows.
use Rattle.std.specs.Prelude.{◌≡◌, ◌<◌, ◌≤◌, ℕ, List, None}
use Rattle.std.specs.FinMap.{FinMap, get}
use Rattle.std.specs.Ordering.{nat_cmp}
use Rattle.outboxes.specs.Boxes.{Boxes, most_numbers}
use Rattle.outboxes.specs.Messages.{ReplyMessage}

abbrev pub boxes_of : ℕ → ℕ → ℕ → FinMap nat_cmp (List ReplyMessage) → Boxes
boxes_of most next step waiting = record { most = most; next = next; step = step; waiting = waiting }

-- no connection has a number that wasn't given yet
abbrev pub NoneFrom : ℕ → FinMap nat_cmp (List ReplyMessage) → Type 0
NoneFrom next waiting = (q : ℕ) → next ≤ q → get waiting q ≡ None

-- numbers rise, and by how much can be added to each that is given
abbrev pub IsStep : ℕ → Type 0
IsStep step = (0 < step) × (step ≤ most_numbers)
