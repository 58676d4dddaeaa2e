-- Replies on their way.
use Rattle.std.specs.Prelude.{ℕ, List}
use Rattle.nfs_model.specs.Types.{Reply}
use Rattle.rpc_msg.specs.Replies.{reply_record}

-- a reply under its xid (rpc_msg, RFC 5531 section 9)
pub record ReplyMessage : Type 0 where
  pub xid : ℕ
  pub reply : Reply

abbrev pub message : ℕ → Reply → ReplyMessage
message xid reply = record { xid = xid; reply = reply }

-- its record: one fragment, the last (RFC 5531 section 11). Opaque, so that proofs about outboxes don't look into it.
unfoldable pub record_of : ReplyMessage → List ℕ
record_of m = reply_record m.xid m.reply
