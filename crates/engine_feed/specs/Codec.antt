-- What a record asks, by what is offered, and the record of a reply. Opaque, so that proofs about engines don't look into them.
use Rattle.std.specs.Prelude.{ℕ, List, Result}
use Rattle.nfs_model.specs.Types.{Reply}
use Rattle.nfs_model.specs.World.{Heard}
use Rattle.rpc_msg.specs.declared.offer.Offer.{Offer}
use Rattle.rpc_msg.specs.Offer.{form_of}
use Rattle.rpc_msg.specs.Handles.{reply_told}
use Rattle.rpc_msg.specs.Records as records
use Rattle.rpc_msg.specs.Replies as replies

unfoldable pub heard : Offer → List ℕ → Result Heard ℕ
heard offer bytes = records.heard_by offer bytes

unfoldable pub reply_record : ℕ → Reply → List ℕ
reply_record xid reply = replies.reply_record xid reply

-- that of a reply of the server, as its handles are told by what is offered
abbrev pub reply_record_by : Offer → ℕ → Reply → List ℕ
reply_record_by offer xid reply = reply_record xid (reply_told (form_of offer) reply)
