-- The codec's words, opened.
use Rattle.std.specs.Prelude.{◌≡◌, ℕ, List}
use Rattle.std.proofs.Common.{refl}
use Rattle.nfs_model.specs.Types.{Reply}
use Rattle.rpc_msg.specs.declared.offer.Offer.{Offer}
use Rattle.rpc_msg.specs.Records as records
use Rattle.rpc_msg.specs.Replies as replies
use Rattle.engine_feed.specs.Codec.{heard, reply_record}

pub heard_is : (offer : Offer) (bytes : List ℕ) → heard offer bytes ≡ records.heard_by offer bytes
unfolding heard
heard_is offer bytes = refl

pub reply_record_is : (xid : ℕ) (reply : Reply) → reply_record xid reply ≡ replies.reply_record xid reply
unfolding reply_record
reply_record_is xid reply = refl
