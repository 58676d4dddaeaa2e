-- Messages by their parts.
use Rattle.std.specs.Prelude.{ℕ}
use Rattle.nfs_values.specs.declared.caller.Caller.{Caller}
use Rattle.affinity.specs.declared.affinity.CallNode.{CallNode}
use Rattle.scheduler.specs.declared.message.Message.{Message}
use Rattle.scheduler.specs.declared.message.Origin.{Origin}

-- the call of a record, for a caller, that tries a node, with so much room for its reply
abbrev pub message_at : {C : Type 0} → Origin → C → Caller → CallNode → ℕ → Message C
message_at origin call caller affinity room = record { origin = origin; call = call; caller = caller; affinity = affinity; room = room }
