-- What is taken of what waits for one connection.
use Rattle.std.specs.Prelude.{◌≡◌, ◌≢◌, ℕ, ⊤, List, [], ◌++◌, Option, Some, None}
use Rattle.std.specs.FinMap.{get}
use Rattle.outboxes.specs.Boxes.{Boxes}
use Rattle.outboxes.specs.Messages.{ReplyMessage}

-- these were the oldest, where the connection is open
abbrev pub TakesOf : Option (List ReplyMessage) → List ReplyMessage → Option (List ReplyMessage) → Type 0
TakesOf None taken new = (taken ≡ []) × (new ≡ None)
TakesOf (Some waiting) taken None = ⊥
TakesOf (Some waiting) taken (Some left) = waiting ≡ taken ++ left

-- These were taken, the oldest of those that waited for the connection; what waits for others is as it was.
pub record Takes (number : ℕ) (taken : List ReplyMessage) (old new : Boxes) : Type 0 where
  pub next : new.next ≡ old.next
  pub step : new.step ≡ old.step
  pub others : (other : ℕ) → other ≢ number → get new.waiting other ≡ get old.waiting other
  pub own : TakesOf (get old.waiting number) taken (get new.waiting number)

-- none waits
abbrev pub IsOut : Option (List ReplyMessage) → Type 0
IsOut None = ⊤
IsOut (Some waiting) = waiting ≡ []
