-- What was taken from a connection's outbox.
use Rattle.std.specs.Prelude.{◌≡◌, ℕ, List, [], ◌++◌, Option, Some, None, refl}
use Rattle.std.proofs.Common.{sym, ap, ◌∙◌, append_assoc}
use Rattle.std.specs.FinMap.{get}
use Rattle.outboxes.specs.Boxes.{Boxes}
use Rattle.outboxes.specs.Messages.{ReplyMessage}

abbrev pub list_in : Option (List ReplyMessage) → List ReplyMessage
list_in None = []
list_in (Some ms) = ms

-- what waits for a connection
abbrev pub waits : ℕ → Boxes → List ReplyMessage
waits connection b = list_in (get b.waiting connection)

abbrev pub IsEmpty : ℕ → Boxes → Type 0
IsEmpty connection b = waits connection b ≡ []

-- these are what waited first, and what is left waits now
abbrev pub HasLeft : ℕ → Boxes → List ReplyMessage → ℕ → Boxes → Type 0
HasLeft connection b ms connection' b' = (connection' ≡ connection) × (waits connection b ≡ ms ++ waits connection' b')

pub left_none : (connection : ℕ) (b : Boxes) → HasLeft connection b [] connection b
left_none connection b = (refl, refl)

pub left_more : (k k' k'' : ℕ) (b b' b'' : Boxes) (ms others : List ReplyMessage) → HasLeft k b ms k' b'
    → HasLeft k' b' others k'' b''
    → HasLeft k b (ms ++ others) k'' b''
left_more k k' k'' b b' b'' ms others f g =
    (g.0 ∙ f.0, f.1 ∙ ap (λ (l : List ReplyMessage). ms ++ l) g.1 ∙ sym (append_assoc ms others (waits k'' b'')))
