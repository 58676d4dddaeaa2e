-- What a record is heard as, in words of the spellings that it begins with (RFC 5531 sections 8.2 and 9); the chain of checks that reads it is apart, in Heads.
use Rattle.std.specs.Prelude.{◌≡◌, ◌≢◌, ℕ, ◌+◌, ◌≤◌, ◌<◌, true, List, ◌++◌, length, ◌⊎◌, Some, None, Result, Ok, Err, slice_index}
use Rattle.xdr.specs.Shape.{Shape, Word, Fixed, Value, Fits, Spells, padding, spelling}
use Rattle.nfs_model.specs.Types as model
use Rattle.nfs_model.specs.World.{Heard}
use Rattle.rpc_msg.specs.declared.offer.Offer.{Offer}
use Rattle.nfs_values.specs.declared.procedure.Procedure.{Procedure}
use Rattle.rpc_msg.specs.Offer.{basic, form_of, offers}
use Rattle.nfs_values.specs.Procedure.{numbers_of}
use Rattle.nfs_types.specs.Arguments.{Asks}
use Rattle.nfs_types.specs.Shapes.{◌&◌}
use Rattle.rpc_msg.specs.Replies.{auth_shape}
use Rattle.rpc_msg.specs.Heads.{numbers_shape, auth_sys_shape, version_by}
use Rattle.rpc_msg.specs.Handles.{call_heard}
use Rattle.rpc_msg.specs.Records.{caller_by, heard_by}
use Rattle.rpc_msg.specs.Calls.{ActsFor, IsCallBy, call_shape, call_value}

-- ---- beginnings

-- The bytes begin with the spelling of a value, and these follow.
pub record Begins (shape : Shape) (v : Value shape) (bytes rest : List ℕ) : Type 0 where
  pub fits : Fits shape v
  pub parts : bytes ≡ spelling shape v ++ rest

-- The bytes begin with no spelling of the type.
abbrev pub BeginsNone : Shape → List ℕ → Type 0
BeginsNone shape bytes = (v : Value shape) (rest : List ℕ) → Begins shape v bytes rest → ⊥

-- xid, CALL 0, rpcvers 2, and the five words before the body of cred (sections 8.2 and 9)
abbrev pub Opens : List ℕ → ℕ → Value numbers_shape → List ℕ → Type 0
Opens bytes xid n rest = Begins (Word & Word & Word & numbers_shape) (xid, (0, (2, n))) bytes rest

-- flavor and length of cred, among those words
abbrev pub flavor_of : Value numbers_shape → ℕ
flavor_of n = n.1.1.1.0

abbrev pub size_of : Value numbers_shape → ℕ
size_of n = n.1.1.1.1

-- the body of a credential, which acts for a user (sections 8.2 and 10.1, appendix A)
pub record Acts (flavor size : ℕ) (bytes : List ℕ) (who : model.Credential) (rest : List ℕ) : Type 0 where
  pub body : List ℕ
  pub small : size ≤ 400
  pub begins : Begins (Fixed size) body bytes rest
  pub acts_for : ActsFor (flavor, body) who

-- a head that is all there, and then the arguments (section 9)
pub record IsHead (bytes : List ℕ) (xid program version number : ℕ) (who : model.Credential) (arguments : List ℕ) : Type 0 where
  pub cred : Value auth_shape
  pub verf : Value auth_shape
  pub acts_for : ActsFor cred who
  pub begins : Begins call_shape (call_value xid (program, number) version cred verf) bytes arguments

-- ---- faults

-- The head isn't all there: fault 12 (our profile).
pub data IsIncomplete (bytes : List ℕ) : Type 0 where
  NoMessage : BeginsNone (Word & Word) bytes → IsIncomplete bytes
  NoVersion : (xid : ℕ) (rest : List ℕ) → Begins (Word & Word) (xid, 0) bytes rest → BeginsNone Word rest → IsIncomplete bytes
  NoNumbers : (xid : ℕ) (rest : List ℕ) → Begins (Word & Word & Word) (xid, (0, 2)) bytes rest → BeginsNone numbers_shape rest → IsIncomplete bytes
  NoBody : (xid : ℕ) (n : Value numbers_shape) (rest : List ℕ) → Opens bytes xid n rest → flavor_of n ≤ 1 → size_of n ≤ 400
      → length rest < size_of n + padding (size_of n) → IsIncomplete bytes
  NoVerifier : (xid : ℕ) (n : Value numbers_shape) (rest more : List ℕ) (who : model.Credential) → Opens bytes xid n rest
      → Acts (flavor_of n) (size_of n) rest who more → BeginsNone auth_shape more → IsIncomplete bytes

-- The message is no call: fault 13 (our profile; section 9).
pub record IsNoCall (bytes : List ℕ) : Type 0 where
  pub xid : ℕ
  pub kind : ℕ
  pub rest : List ℕ
  pub begins : Begins (Word & Word) (xid, kind) bytes rest
  pub other : kind ≢ 0

-- ---- refusals

-- rpcvers isn't 2: RPC_MISMATCH (section 9)
pub record IsOfAnotherRpc (bytes : List ℕ) (xid : ℕ) : Type 0 where
  pub version : ℕ
  pub rest : List ℕ
  pub begins : Begins (Word & Word & Word) (xid, (0, version)) bytes rest
  pub other : version ≢ 2

-- cred is neither AUTH_NONE 0 nor AUTH_SYS 1: AUTH_REJECTEDCRED (sections 9 and 10)
pub record HasAnotherFlavor (bytes : List ℕ) (xid : ℕ) : Type 0 where
  pub numbers : Value numbers_shape
  pub rest : List ℕ
  pub opens : Opens bytes xid numbers rest
  pub other : 1 < flavor_of numbers

-- A body of cred is over 400 bytes, or its padding isn't zero (section 8.2), or it is of AUTH_SYS and no authsys_parms (appendix A).
pub data IsBadBody (flavor size : ℕ) (rest : List ℕ) : Type 0 where
  TooLong : 400 < size → IsBadBody flavor size rest
  BadPadding : size ≤ 400 → size + padding size ≤ length rest → BeginsNone (Fixed size) rest → IsBadBody flavor size rest
  NoUser : (body more : List ℕ) → size ≤ 400 → Begins (Fixed size) body rest more → flavor ≡ 1 → ((v : Value auth_sys_shape)
      → Spells auth_sys_shape v body → ⊥) → IsBadBody flavor size rest

-- cred is such: AUTH_BADCRED (section 9)
pub record HasBadCredential (bytes : List ℕ) (xid : ℕ) : Type 0 where
  pub numbers : Value numbers_shape
  pub rest : List ℕ
  pub opens : Opens bytes xid numbers rest
  pub known : flavor_of numbers ≤ 1
  pub bad : IsBadBody (flavor_of numbers) (size_of numbers) rest

-- the program isn't offered: PROG_UNAVAIL (section 9)
pub record IsOfNoProgramBy (offer : Offer) (bytes : List ℕ) (xid : ℕ) : Type 0 where
  pub program : ℕ
  pub version : ℕ
  pub number : ℕ
  pub who : model.Credential
  pub arguments : List ℕ
  pub head : IsHead bytes xid program version number who arguments
  pub none : version_by offer program ≡ None

-- another version of the program is offered: PROG_MISMATCH (section 9)
pub record IsOfAnotherVersionBy (offer : Offer) (bytes : List ℕ) (xid offered : ℕ) : Type 0 where
  pub program : ℕ
  pub version : ℕ
  pub number : ℕ
  pub who : model.Credential
  pub arguments : List ℕ
  pub head : IsHead bytes xid program version number who arguments
  pub served_is : version_by offer program ≡ Some offered
  pub other : version ≢ offered

-- no procedure of the number is offered: PROC_UNAVAIL (section 9)
pub record IsOfNoProcedureBy (offer : Offer) (bytes : List ℕ) (xid : ℕ) : Type 0 where
  pub program : ℕ
  pub version : ℕ
  pub number : ℕ
  pub who : model.Credential
  pub arguments : List ℕ
  pub head : IsHead bytes xid program version number who arguments
  pub served_is : version_by offer program ≡ Some version
  pub none : (p : Procedure) → offers offer p ≡ true → numbers_of p ≢ (program, number)

-- The arguments are no spelling, or bytes are left: GARBAGE_ARGS (section 9).
pub record HasGarbageBy (offer : Offer) (bytes : List ℕ) (xid : ℕ) : Type 0 where
  pub procedure : Procedure
  pub who : model.Credential
  pub arguments : List ℕ
  pub head : IsCallBy offer bytes xid procedure who arguments
  pub none : (call : model.Call) → Asks procedure arguments call → ⊥

-- ---- calls

-- the record asks a call of a caller: that of its arguments, as the server has its handles, for its credential's user, under its xid
pub record IsAskingBy (offer : Offer) (bytes : List ℕ) (xid : ℕ) (call : model.Call) (caller : model.Caller) : Type 0 where
  pub procedure : Procedure
  pub who : model.Credential
  pub arguments : List ℕ
  pub head : IsCallBy offer bytes xid procedure who arguments
  pub came : model.Call
  pub asks : Asks procedure arguments came
  pub caller_is : caller ≡ caller_by xid who
  pub heard : call ≡ call_heard (form_of offer) came

-- ---- all together

abbrev pub IsRefusedWithBy : Offer → List ℕ → ℕ → model.Reply → Type 0
IsRefusedWithBy offer bytes xid (model.RpcMismatch low high) = (low ≡ 2) × (high ≡ 2) × IsOfAnotherRpc bytes xid
IsRefusedWithBy offer bytes xid (model.AuthError number) = ((number ≡ 1) × HasBadCredential bytes xid) ⊎ ((number ≡ 2) × HasAnotherFlavor bytes xid)
IsRefusedWithBy offer bytes xid model.ProgramUnavailable = IsOfNoProgramBy offer bytes xid
IsRefusedWithBy offer bytes xid (model.ProgramMismatch low high) = (low ≡ high) × IsOfAnotherVersionBy offer bytes xid low
IsRefusedWithBy offer bytes xid model.ProcedureUnavailable = IsOfNoProcedureBy offer bytes xid
IsRefusedWithBy offer bytes xid model.GarbageArguments = HasGarbageBy offer bytes xid
IsRefusedWithBy offer bytes xid model.SystemError = ⊥
IsRefusedWithBy offer bytes xid (model.Success answer) = ⊥

abbrev pub SaysBy : Offer → List ℕ → ℕ → model.Asked → Type 0
SaysBy offer bytes xid (model.Ask call caller) = IsAskingBy offer bytes xid call caller
SaysBy offer bytes xid (model.Refused reply) = IsRefusedWithBy offer bytes xid reply
SaysBy offer bytes xid model.Undecoded = ⊥

-- what a record is heard as, or the number of its fault
abbrev pub IsHeardBy : Offer → List ℕ → Result Heard ℕ → Type 0
IsHeardBy offer bytes (Ok h) = SaysBy offer bytes h.xid h.asked
IsHeardBy offer bytes (Err number) = ((number ≡ 12) × IsIncomplete bytes) ⊎ ((number ≡ 13) × IsNoCall bytes)

-- ---- what laws say

abbrev pub AreBytes : List ℕ → Type 0
AreBytes bytes = (i : ℕ) → slice_index bytes i < 256

-- both hold or neither
abbrev pub Exactly : Type 0 → Type 0 → Type 0
Exactly a b = (a → b) × (b → a)

-- the record is refused with this reply
abbrev pub RefusesBy : Offer → List ℕ → ℕ → model.Reply → Type 0
RefusesBy offer bytes xid reply = heard_by offer bytes ≡ Ok (record { xid = xid; asked = model.Refused reply })

-- the record asks this call
abbrev pub AsksForBy : Offer → List ℕ → ℕ → model.Call → model.Caller → Type 0
AsksForBy offer bytes xid call caller = heard_by offer bytes ≡ Ok (record { xid = xid; asked = model.Ask call caller })

-- ---- with the basic offer

abbrev pub IsOfNoProgram : List ℕ → ℕ → Type 0
IsOfNoProgram bytes xid = IsOfNoProgramBy basic bytes xid

abbrev pub IsOfAnotherVersion : List ℕ → ℕ → ℕ → Type 0
IsOfAnotherVersion bytes xid offered = IsOfAnotherVersionBy basic bytes xid offered

abbrev pub IsOfNoProcedure : List ℕ → ℕ → Type 0
IsOfNoProcedure bytes xid = IsOfNoProcedureBy basic bytes xid

abbrev pub HasGarbage : List ℕ → ℕ → Type 0
HasGarbage bytes xid = HasGarbageBy basic bytes xid

abbrev pub IsAsking : List ℕ → ℕ → model.Call → model.Caller → Type 0
IsAsking bytes xid call caller = IsAskingBy basic bytes xid call caller

abbrev pub IsHeardAs : List ℕ → Result Heard ℕ → Type 0
IsHeardAs bytes r = IsHeardBy basic bytes r

abbrev pub Refuses : List ℕ → ℕ → model.Reply → Type 0
Refuses bytes xid reply = RefusesBy basic bytes xid reply

abbrev pub AsksFor : List ℕ → ℕ → model.Call → model.Caller → Type 0
AsksFor bytes xid call caller = AsksForBy basic bytes xid call caller
