-- What replies to calls of the admin program tell (our profile, by RFC 5531 section 9).
use Rattle.std.specs.Prelude.{◌≡◌, ℕ, ◌^◌, ◌<◌, List, map, ◌==◌, Option, Some, None, Result, Ok, Err, if◌then◌else◌}
use Rattle.std.proofs.Common.{inl, inr}
use Rattle.xdr.specs.declared.fault.Fault.{Fault}
use Rattle.xdr.specs.Shape.{Shape, Void, Word, Hyper, Case, NoCase, Value}
use Rattle.xdr.specs.Reading.{Reads, all_of, all_read, read}
use Rattle.nfs_model.specs.Types as model
use Rattle.nfs_types.specs.Shapes.{◌&◌}
use Rattle.nfs_types.specs.Results.{census_shape, count_shape, count_value}
use Rattle.nfs_values.specs.declared.answer.VolumeCount.{VolumeCount}
use Rattle.nfs_values.specs.Answer.{count_of}
use Rattle.rpc_msg.specs.Replies.{auth_shape, versions_shape}
use Rattle.admin_client.specs.declared.volumes.Census.{Census}
use Rattle.admin_client.specs.declared.growth.Growth.{Growth}
use Rattle.admin_client.specs.declared.growth.Growth.TheVariants.{Grown, NoVolume, NoRange, TooManyRanges, TooFewSpare}
use Rattle.admin_client.specs.declared.refusal.CallRefusal.{CallRefusal}
use Rattle.admin_client.specs.declared.refusal.CallRefusal.TheVariants as refusals
use Rattle.admin_client.specs.declared.fault.AdminFault.{AdminFault}
use Rattle.admin_client.specs.declared.fault.AdminFault.TheVariants.{Malformed, OfAnotherCall, Refused, NoMemory}
use Rattle.admin_client.specs.declared.head.Accepted.{Accepted}
use Rattle.admin_client.specs.declared.head.Accepted.TheVariants as accepted
use Rattle.admin_client.specs.declared.head.Rejected.{Rejected}
use Rattle.admin_client.specs.declared.head.Rejected.TheVariants as rejected
use Rattle.admin_client.specs.declared.head.Body.{Body}
use Rattle.admin_client.specs.declared.head.Body.TheVariants as bodies
use Rattle.admin_client.specs.declared.head.Head.{Head}

-- ---- a reply as far as its results (section 9)

-- accept_stat and its arm; the results of SUCCESS 0 stand behind it
abbrev pub accepted_shape : Shape
accepted_shape = Case 0 Void (Case 1 Void (Case 2 versions_shape (Case 3 Void (Case 4 Void (Case 5 Void NoCase)))))

-- reject_stat and its arm: RPC_MISMATCH 0, and AUTH_ERROR 1 with auth_stat
abbrev pub rejected_shape : Shape
rejected_shape = Case 0 versions_shape (Case 1 Word NoCase)

-- reply_body: MSG_ACCEPTED 0 with a verifier, or MSG_DENIED 1
abbrev pub body_shape : Shape
body_shape = Case 0 (auth_shape & accepted_shape) (Case 1 rejected_shape NoCase)

-- rpc_msg: xid and REPLY 1
abbrev pub head_shape : Shape
head_shape = Word & Case 1 body_shape NoCase

abbrev pub accepted_value : Accepted → Value accepted_shape
accepted_value accepted.Success = inl tt
accepted_value accepted.ProgramUnavailable = inr (inl tt)
accepted_value (accepted.ProgramMismatch low high) = inr (inr (inl (low, high)))
accepted_value accepted.ProcedureUnavailable = inr (inr (inr (inl tt)))
accepted_value accepted.GarbageArguments = inr (inr (inr (inr (inl tt))))
accepted_value accepted.SystemError = inr (inr (inr (inr (inr (inl tt)))))

abbrev pub rejected_value : Rejected → Value rejected_shape
rejected_value (rejected.RpcMismatch low high) = inl (low, high)
rejected_value (rejected.AuthError number) = inr (inl number)

abbrev pub body_value : Body → Value body_shape
body_value (bodies.Accepted flavor verifier done) = inl ((flavor, verifier.now), accepted_value done)
body_value (bodies.Denied why) = inr (inl (rejected_value why))

abbrev pub head_value : Head → Value head_shape
head_value head = (head.xid, inl (body_value head.body))

-- why a call that was accepted isn't done, if it isn't
abbrev pub accepted_refusal : Value accepted_shape → Option CallRefusal
accepted_refusal (inl v) = None
accepted_refusal (inr (inl v)) = Some refusals.ProgramUnavailable
accepted_refusal (inr (inr (inl v))) = Some (refusals.ProgramMismatch v.0 v.1)
accepted_refusal (inr (inr (inr (inl v)))) = Some refusals.ProcedureUnavailable
accepted_refusal (inr (inr (inr (inr (inl v))))) = Some refusals.GarbageArguments
accepted_refusal (inr (inr (inr (inr (inr (inl v)))))) = Some refusals.SystemError
accepted_refusal (inr (inr (inr (inr (inr (inr v)))))) = absurd v

-- why a call isn't accepted
abbrev pub rejected_refusal : Value rejected_shape → CallRefusal
rejected_refusal (inl v) = refusals.RpcMismatch v.0 v.1
rejected_refusal (inr (inl v)) = refusals.AuthError v
rejected_refusal (inr (inr v)) = absurd v

-- why a call isn't done, if it isn't
abbrev pub refusal_of : Value body_shape → Option CallRefusal
refusal_of (inl v) = accepted_refusal v.1
refusal_of (inr (inl v)) = Some (rejected_refusal v)
refusal_of (inr (inr v)) = absurd v

abbrev pub refusal_in : Body → Option CallRefusal
refusal_in body = refusal_of (body_value body)

-- the body of a reply
abbrev pub body_in : Value (Case 1 body_shape NoCase) → Value body_shape
body_in (inl body) = body
body_in (inr none) = absurd none

-- ---- results (our profile)

-- GROW: the blocks, or NOENT 2, INVAL 22, FBIG 27 or NOSPC 28
abbrev pub growth_shape : Shape
growth_shape = Case 0 Hyper (Case 2 Void (Case 22 Void (Case 27 Void (Case 28 Void NoCase))))

abbrev pub growth_value : Growth → Value growth_shape
growth_value (Grown blocks) = inl blocks
growth_value NoVolume = inr (inl tt)
growth_value NoRange = inr (inr (inl tt))
growth_value TooManyRanges = inr (inr (inr (inl tt)))
growth_value TooFewSpare = inr (inr (inr (inr (inl tt))))

-- STOP: nothing
abbrev pub stopped_value : Prim.Unit {0} → Value Void
stopped_value u = tt

abbrev pub counted_value : VolumeCount → Value count_shape
counted_value v = count_value (count_of v)

abbrev pub census_value : Census → Value census_shape
census_value census = map counted_value census.volumes.items

-- ---- what a reply tells

-- what is read, or that it is malformed
abbrev pub formed : {A : Type 0} → Result A Fault → Result A AdminFault
formed (Ok x) = Ok x
formed (Err fault) = Err (Malformed fault)

-- a refusal, where nothing is left behind it
abbrev pub refused_where : CallRefusal → Result (Unit {0}) Fault → Result (List ℕ) AdminFault
refused_where refusal (Ok none) = Err (Refused refusal)
refused_where refusal (Err fault) = Err (Malformed fault)

-- the bytes behind a head, where the call was done
abbrev pub behind : Option CallRefusal → List ℕ → Result (List ℕ) AdminFault
behind None rest = Ok rest
behind (Some refusal) rest = refused_where refusal (all_read rest)

-- behind the head that was read, where it is of this xid
abbrev pub results_behind : ℕ → Reads (Value head_shape) → Result (List ℕ) AdminFault
results_behind xid (Ok h) = if h.0.0 == xid then behind (refusal_of (body_in h.0.1)) h.1 else Err OfAnotherCall
results_behind xid (Err fault) = Err (Malformed fault)

-- the bytes of the results in a reply to the call of this xid
abbrev pub results_at : ℕ → List ℕ → Result (List ℕ) AdminFault
results_at xid bytes = results_behind xid (read head_shape bytes)

-- results of this type, of which nothing is left
abbrev pub told_behind : (results : Shape) → Result (List ℕ) AdminFault → Result (Value results) AdminFault
told_behind results (Ok rest) = formed (all_of results rest)
told_behind results (Err fault) = Err fault

-- what a reply to the call of this xid tells, whose results are of this type
abbrev pub told_by : (results : Shape) → ℕ → List ℕ → Result (Value results) AdminFault
told_by results xid bytes = told_behind results (results_at xid bytes)

-- what a call returned, seen by view, is what the reply tells
abbrev pub TellsResult : {X Y : Type 0} → (X → Y) → Result X AdminFault → Result Y AdminFault → Type 0
TellsResult view (Ok x) told = told ≡ Ok (view x)
TellsResult view (Err fault) told = told ≡ Err fault

-- the same of CENSUS, unless memory ran out
abbrev pub TellsCensus : Result Census AdminFault → Result (Value census_shape) AdminFault → Type 0
TellsCensus (Err NoMemory) told = Unit {0}
TellsCensus returned told = TellsResult census_value returned told

-- counts that were read from the front, seen by view, unless memory ran out
abbrev pub GivesCounts : {X : Type 0} → (X → List VolumeCount) → Result X AdminFault → Reads (List (Value count_shape)) → List ℕ → Type 0
GivesCounts view (Ok counts) reads new = reads ≡ Ok (map counted_value (view counts), new)
GivesCounts view (Err NoMemory) reads new = Unit {0}
GivesCounts view (Err fault) reads new = formed reads ≡ Err fault

-- ---- what a server of ours replies

-- the head of a call that was done
abbrev pub success : ℕ → Value auth_shape → Value head_shape
success xid verifier = (xid, inl (inl (verifier, inl tt)))

-- the answer to GROW
abbrev pub answer_of : Growth → model.Answer
answer_of (Grown blocks) = model.GrowDone blocks
answer_of NoVolume = model.Failed model.NoEntry 0
answer_of NoRange = model.Failed model.Invalid 0
answer_of TooManyRanges = model.Failed model.TooBig 0
answer_of TooFewSpare = model.Failed model.NoSpace 0

-- the reply that refuses a call
abbrev pub refused_by : CallRefusal → model.Reply
refused_by refusals.ProgramUnavailable = model.ProgramUnavailable
refused_by (refusals.ProgramMismatch low high) = model.ProgramMismatch low high
refused_by refusals.ProcedureUnavailable = model.ProcedureUnavailable
refused_by refusals.GarbageArguments = model.GarbageArguments
refused_by refusals.SystemError = model.SystemError
refused_by (refusals.RpcMismatch low high) = model.RpcMismatch low high
refused_by (refusals.AuthError number) = model.AuthError number

-- its numbers are of 32 bits
abbrev pub RefusalFits : CallRefusal → Type 0
RefusalFits (refusals.ProgramMismatch low high) = (low < 2 ^ 32) × (high < 2 ^ 32)
RefusalFits (refusals.RpcMismatch low high) = (low < 2 ^ 32) × (high < 2 ^ 32)
RefusalFits (refusals.AuthError number) = number < 2 ^ 32
RefusalFits refusal = Unit {0}
