-- The reply of RPC as bytes (RFC 5531 section 9).
use Rattle.std.specs.Prelude.{ℕ, true, List, [], ◌++◌}
use Rattle.xdr.specs.Shape.{Shape, Word, Opaque, Value, spelling}
use Rattle.rpc_record.specs.Records.{fragment}
use Rattle.nfs_model.specs.Types as model
use Rattle.nfs_types.specs.Shapes.{◌&◌}
use Rattle.nfs_types.specs.Results.{answer_bytes}

-- opaque_auth (section 8.2): a flavor, and a body of at most 400 bytes
abbrev pub auth_shape : Shape
auth_shape = Word & Opaque 400

-- AUTH_NONE without a body (section 10.1)
abbrev pub no_verifier : Value auth_shape
no_verifier = (0, [])

-- the lowest and the highest version
abbrev pub versions_shape : Shape
versions_shape = Word & Word

-- xid and REPLY, before the body (section 9)
abbrev pub message : ℕ → List ℕ
message xid = spelling (Word & Word) (xid, 1)

-- MSG_ACCEPTED, the verifier and accept_stat, before its arm (section 9)
abbrev pub accepted : ℕ → List ℕ → List ℕ
accepted status arm = spelling (Word & auth_shape & Word) (0, (no_verifier, status)) ++ arm

-- MSG_DENIED and reject_stat, before its arm (section 9)
abbrev pub denied : ℕ → List ℕ → List ℕ
denied status arm = spelling (Word & Word) (1, status) ++ arm

-- reply_body (section 9)
abbrev pub body_bytes : model.Reply → List ℕ
body_bytes (model.Success answer) = accepted 0 (answer_bytes answer)
body_bytes model.ProgramUnavailable = accepted 1 []
body_bytes (model.ProgramMismatch low high) = accepted 2 (spelling versions_shape (low, high))
body_bytes model.ProcedureUnavailable = accepted 3 []
body_bytes model.GarbageArguments = accepted 4 []
body_bytes model.SystemError = accepted 5 []
body_bytes (model.RpcMismatch low high) = denied 0 (spelling versions_shape (low, high))
body_bytes (model.AuthError number) = denied 1 (spelling Word number)

-- rpc_msg of a reply (section 9)
abbrev pub reply_bytes : ℕ → model.Reply → List ℕ
reply_bytes xid reply = message xid ++ body_bytes reply

-- the record of a reply: one fragment, the last (section 11 and our profile)
abbrev pub reply_record : ℕ → model.Reply → List ℕ
reply_record xid reply = fragment true (reply_bytes xid reply)

-- the results of a call that succeeded, which end its reply
abbrev pub results : model.Reply → List ℕ
results (model.Success answer) = answer_bytes answer
results reply = []

-- what isn't SUCCESS: a record is refused, or memory ran out
abbrev pub IsRefusal : model.Reply → Type 0
IsRefusal (model.Success answer) = ⊥
IsRefusal reply = Unit {0}
