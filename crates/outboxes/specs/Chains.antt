-- What a row of records says.
use Rattle.std.specs.Prelude.{◌≡◌, List, [], ◌∷◌}
use Rattle.outboxes.specs.Messages.{ReplyMessage, record_of}
use Rattle.outboxes.specs.declared.chain.Row.{Row}
use Rattle.outboxes.specs.declared.chain.Row.TheVariants.{End, More}

abbrev pub messages_of : Row → List ReplyMessage
messages_of End = []
messages_of (More link) = link.value.numbered ∷ link.value.rest

-- the bytes of the first record are those of what it says
abbrev pub IsWritten : Row → Type 0
IsWritten End = Unit {0}
IsWritten (More link) = link.value.bytes.items ≡ record_of link.value.numbered
