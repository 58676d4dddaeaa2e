-- Records apart from a row.
use Rattle.std.specs.Prelude.{◌≡◌, ◌≤◌, ℕ, List, [], ◌∷◌, Option, Some, None, vec_capacity}
use Rattle.std.specs.Global.{Box}
use Rattle.outboxes.specs.Messages.{ReplyMessage, record_of}
use Rattle.outboxes.specs.declared.chain.Link.{Link}

-- it says this, and its bytes spell it
abbrev pub IsOf : ReplyMessage → Link → Type 0
IsOf m link = (link.numbered ≡ m) × (link.bytes.items ≡ record_of m)

-- it has no bytes, and room for this many
abbrev pub IsBlank : ℕ → Link → Type 0
IsBlank n link = (link.bytes.items ≡ []) × (n ≤ vec_capacity link.bytes)

-- it is the first of the row, with nothing behind it any more, or there is none
abbrev pub IsPopped : List ReplyMessage → Option (Box Link) → List ReplyMessage → Type 0
IsPopped old None new = (old ≡ []) × (new ≡ [])
IsPopped old (Some link) new =
    (old ≡ link.value.numbered ∷ new) × ((link.value.bytes.items ≡ record_of link.value.numbered) × (link.value.rest ≡ []))
