-- A record of which a part is written.
use Rattle.std.specs.Prelude.{ℕ, ◌≤◌, ◌-◌, ⊤, List, [], ◌∷◌, length, drop, Option, Some, None}
use Rattle.outboxes.specs.Messages.{ReplyMessage, record_of}

-- its last bytes, this many
abbrev pub last_of : ℕ → Option ReplyMessage → List ℕ
last_of left None = []
last_of left (Some m) = drop (length (record_of m) - left) (record_of m)

-- it has this many
abbrev pub IsWithin : ℕ → Option ReplyMessage → Type 0
IsWithin left None = ⊤
IsWithin left (Some m) = left ≤ length (record_of m)

abbrev pub list_of : Option ReplyMessage → List ReplyMessage
list_of None = []
list_of (Some m) = m ∷ []
