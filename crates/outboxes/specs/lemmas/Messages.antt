-- The record of a reply, for crates above.
use Rattle.std.proofs.Common.{◌≡◌, ℕ, refl}
use Rattle.nfs_model.specs.Types.{Reply}
use Rattle.rpc_msg.specs.Replies.{reply_record}
use Rattle.outboxes.specs.Messages.{message, record_of}

pub record_is : (xid : ℕ) (reply : Reply) → record_of (message xid reply) ≡ reply_record xid reply
unfolding record_of
record_is xid reply = refl
