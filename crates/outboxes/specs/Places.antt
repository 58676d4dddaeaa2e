-- Outboxes in a list, by the numbers of their connections, which rise.
use Rattle.std.specs.Prelude.{◌≡◌, ◌+◌, ◌<◌, ◌≤◌, ℕ, zero, suc, List, [], ◌∷◌, length}
use Rattle.std.specs.FinMap.{FinMap, from_entries}
use Rattle.std.specs.Ordering.{nat_cmp}
use Rattle.outboxes.specs.Messages.{ReplyMessage}

-- what waits for each connection
abbrev pub waiting_of : List (ℕ × List ReplyMessage) → FinMap nat_cmp (List ReplyMessage)
waiting_of es = from_entries es

-- the numbers rise, and the first is no less than this one
abbrev pub Rise : ℕ → List (ℕ × List ReplyMessage) → Type 0
Rise least [] = Unit {0}
Rise least (e ∷ es) = (least ≤ e.0) × Rise (e.0 + 1) es

-- the number at a place
abbrev pub number_at : List (ℕ × List ReplyMessage) → ℕ → ℕ
number_at [] place = 0
number_at (e ∷ es) zero = e.0
number_at (e ∷ es) (suc place) = number_at es place

-- the outbox of a number is at a place
pub record IsAt (es : List (ℕ × List ReplyMessage)) (number place : ℕ) : Type 0 where
  pub within : place < length es
  pub has : number_at es place ≡ number
