-- Records by their size.
use Rattle.std.proofs.Common.{◌≡◌, ◌≤◌, ℕ, ◌+◌, List, [], ◌++◌, sym, ap, subst, ◌∙◌, length, arith}
use Rattle.nfs_model.specs.Types.{Reply}
use Rattle.rpc_msg.specs.Replies.{reply_bytes, reply_record}
use Rattle.outboxes.specs.Messages.{message, record_of}
use Rattle.outboxes.specs.lemmas.Messages.{record_is}

-- a record within the limit has a reply within it
pub bytes-short : (xid : ℕ) (reply : Reply) (n : ℕ) → length (record_of (message xid reply)) ≤ n → length (reply_bytes xid reply) ≤ n
bytes-short xid reply n h =
    let size : length (record_of (message xid reply)) ≡ length (reply_record xid reply) = ap (λ (bs : List ℕ). length bs) (record_is xid reply) in
    let parts : length (reply_record xid reply) ≡ 4 + length (reply_bytes xid reply) = omega arith in
    omega (arith, size, parts, h)

-- what was written into a blank record
pub written-is : (xid : ℕ) (reply : Reply) (old new : List ℕ) → new ≡ old ++ reply_record xid reply → old ≡ [] → new ≡ record_of (message xid reply)
written-is xid reply old new h blank = h ∙ (ap (λ (bs : List ℕ). bs ++ reply_record xid reply) blank ∙ sym (record_is xid reply))

pub room-same : (xid : ℕ) (reply : Reply) (n : ℕ) → length (record_of (message xid reply)) ≤ n → length (reply_record xid reply) ≤ n
room-same xid reply n h = subst (λ (bs : List ℕ). length bs ≤ n) (record_is xid reply) h
