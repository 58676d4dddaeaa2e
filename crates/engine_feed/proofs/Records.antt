-- What records are heard as.
use Rattle.std.proofs.Common.{◌≡◌, ℕ, ◌+◌, ◌≤◌, ◌⊎◌, false, List, Ok, Err, sym, ap, subst, ◌∙◌, length, arith, inl, inr}
use Rattle.std.specs.Prelude.{◌==◌}
use Rattle.std.proofs.lemmas.Bool.Decides.{nat_tests}
use Rattle.nfs_model.specs.World.{Heard, IsDecoded}
use Rattle.nfs_model.specs.Types as types
use Rattle.rpc_msg.specs.declared.offer.Offer.{Offer}
use Rattle.rpc_msg.specs.Replies as replies
use Rattle.rpc_msg.specs.Room.{refusal_room}
use Rattle.engine_feed.specs.Limit.{reply_limit}
use Rattle.rpc_msg.specs.lemmas.Hearing.{fault_of_record, record_is_decoded}
use Rattle.engine_feed.specs.Codec.{heard, reply_record}
use Rattle.engine_feed.specs.lemmas.Codec.{heard_is, reply_record_is}

not_eleven : (n : ℕ) → (n ≡ 12) ⊎ (n ≡ 13) → (n == 11) ≡ false
not_eleven n (inl e) = grind (arith, nat_tests)
not_eleven n (inr e) = grind (arith, nat_tests)

-- a record's fault isn't a header's
pub not-too-long : (offer : Offer) (bytes : List ℕ) (number : ℕ) → heard offer bytes ≡ Err number → (number == 11) ≡ false
not-too-long offer bytes number e = not_eleven number (fault_of_record offer bytes number (sym (heard_is offer bytes) ∙ e))

pub heard-decoded : (offer : Offer) (bytes : List ℕ) (h : Heard) → heard offer bytes ≡ Ok h → IsDecoded h.asked
heard-decoded offer bytes h e = record_is_decoded offer bytes h (sym (heard_is offer bytes) ∙ e)

-- ---- replies

pub bytes-short : (xid : ℕ) (reply : types.Reply) (n : ℕ) → length (reply_record xid reply) ≤ n → length (replies.reply_bytes xid reply) ≤ n
bytes-short xid reply n h =
    let size : length (reply_record xid reply) ≡ length (replies.reply_record xid reply) = ap (λ (bs : List ℕ). length bs) (reply_record_is xid reply) in
    let parts : length (replies.reply_record xid reply) ≡ 4 + length (replies.reply_bytes xid reply) = omega arith in
    omega (arith, size, parts, h)

pub room-same : (xid : ℕ) (reply : types.Reply) (m n : ℕ) → m + length (reply_record xid reply) ≤ n → m + length (replies.reply_record xid reply) ≤ n
room-same xid reply m n h = subst (λ (bs : List ℕ). m + length bs ≤ n) (reply_record_is xid reply) h

pub refusal-fits : (xid : ℕ) (reply : types.Reply) → length (replies.reply_record xid reply) ≤ refusal_room → length (reply_record xid reply) ≤ reply_limit
refusal-fits xid reply h = let size = ap (λ (bs : List ℕ). length bs) (reply_record_is xid reply) in omega (arith, size, h)
