-- Arguments and bytes where they stand in records.
use Rattle.std.proofs.Common.{◌≡◌, ℕ, ◌+◌, ◌-◌, ◌%◌, ◌≤◌, Bool, List, [], ◌∷◌, ◌++◌, length, drop, replicate, ap, ◌∙◌, append_assoc, arith}
use Rattle.std.specs.List.{flat_map}
use Rattle.std.proofs.lemmas.List.{length-append, drop_at}
use Rattle.xdr.specs.Shape.{word, flag, spelling}
use Rattle.xdr.specs.lemmas.Items.{IsBytes}
use Rattle.nfs_model.specs.Types as model
use Rattle.rpc_msg.specs.declared.offer.Offer.{Offer}
use Rattle.nfs_values.specs.declared.procedure.Procedure.{Procedure}
use Rattle.nfs_values.specs.Procedure.{numbers_of}
use Rattle.rpc_msg.specs.Heads.{Call, head_by}
use Rattle.rpc_msg.specs.Calls.{call_shape, call_value}
use Rattle.rpc_msg.specs.Replies.{accepted, message, reply_bytes}
use Rattle.rpc_msg.proofs.Spelled.{call_found}

-- arguments end a record of this many bytes
pub record End (record_bytes arguments : List ℕ) (len : ℕ) : Type 0 where
  pub fits : length arguments ≤ len
  pub there : drop (len - length arguments) record_bytes ≡ arguments

pub arguments-end : (offer : Offer) (bytes : List ℕ) (xid : ℕ) (p : Procedure) (who : model.Credential) (arguments : List ℕ) (len : ℕ) → IsBytes bytes
    → head_by offer bytes ≡ Call xid p who arguments → len ≡ length bytes → End bytes arguments len
arguments-end offer bytes xid p who arguments len fits e is =
    let c = call_found offer bytes xid p who arguments fits e in
    let head : List ℕ = spelling call_shape (call_value xid (numbers_of p) c.version c.cred c.verf) in
    let size : length bytes ≡ length (head ++ arguments) = ap (λ (l : List ℕ). length l) c.bytes_are in
    let parts = length-append head arguments in
    record {
      fits = omega (arith, size, parts, is);
      there = ap (λ (l : List ℕ). drop (len - length arguments) l) c.bytes_are
          ∙ drop_at head arguments (len - length arguments) (omega (arith, size, parts, is));
    }

-- NFS3_OK, no attributes, count, eof and the length of the bytes, before the bytes (RFC 1813 section 3.3.6)
abbrev pub arm_of : ℕ → Bool → List ℕ
arm_of n eof = flat_map word (0 ∷ 0 ∷ n ∷ flag eof ∷ n ∷ [])

-- the bytes of a READ are fewer than those of its reply
pub bytes-few : (xid : ℕ) (eof : Bool) (bytes : List ℕ)
    → length bytes ≤ length (reply_bytes xid (model.Success (model.ReadDone (length bytes) eof bytes)))
bytes-few xid eof bytes =
    let zeros : List ℕ = replicate ((4 - length bytes % 4) % 4) 0 in
    let all : length (reply_bytes xid (model.Success (model.ReadDone (length bytes) eof bytes))) ≡ 44 + length (bytes ++ zeros) = omega arith in
    omega (arith, all, length-append bytes zeros)

-- the reply of a READ to its header, and the bytes behind it
pub read-whole : (xid : ℕ) (eof : Bool) (bytes header head whole : List ℕ)
    → head ≡ header ++ (message xid ++ accepted 0 (arm_of (length bytes) eof)) → whole ≡ head ++ (bytes ++ replicate ((4 - length bytes % 4) % 4) 0)
    → whole ≡ header ++ reply_bytes xid (model.Success (model.ReadDone (length bytes) eof bytes))
read-whole xid eof bytes header head whole is e =
    let padded = bytes ++ replicate ((4 - length bytes % 4) % 4) 0 in
    e ∙ ap (λ (l : List ℕ). l ++ padded) is ∙ append_assoc header (message xid ++ accepted 0 (arm_of (length bytes) eof)) padded
