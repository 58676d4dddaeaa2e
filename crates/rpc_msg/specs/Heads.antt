-- The head of a record: what stands before the arguments of a call (RFC 5531 section 9), in the order in which it is
-- read. The order, and the first that applies decides, is our profile.
use Rattle.std.specs.Prelude.{ℕ, Bool, List, [], ◌&&◌, ◌==◌, nat_lt, Option, Some, None, Result, Ok, Err, find, if◌then◌else◌}
use Rattle.std.specs.List.{filter}
use Rattle.xdr.specs.declared.fault.Fault.{Fault as Unread}
use Rattle.xdr.specs.declared.fault.Fault.TheVariants.{Short}
use Rattle.xdr.specs.Shape.{Shape, Word, Fixed, Opaque, Array, Value}
use Rattle.xdr.specs.Reading.{Reads, read, all_of}
use Rattle.nfs_model.specs.Types as model
use Rattle.rpc_msg.specs.declared.offer.Offer.{Offer}
use Rattle.nfs_values.specs.declared.procedure.Procedure.{Procedure}
use Rattle.rpc_msg.specs.Offer.{basic, offers, offers_program}
use Rattle.nfs_values.specs.Procedure.{all_procedures, numbers_of}
use Rattle.nfs_types.specs.Shapes.{◌&◌}
use Rattle.rpc_msg.specs.Replies.{auth_shape}

-- why a call isn't offered: its head isn't all there, or this reply refuses it
pub data Stop : Type 0 where
  Incomplete : Stop
  Refuse : (reply : model.Reply) → Stop

infixl 10 ◌>>=◌
abbrev pub ◌>>=◌ : {A B : Type 0} → Result A Stop → (A → Result B Stop) → Result B Stop
(Ok x) >>= f = f x
(Err stop) >>= f = Err stop

-- AUTH_ERROR with AUTH_BADCRED and with AUTH_REJECTEDCRED (RFC 5531 section 9)
abbrev pub bad_credential : Stop
bad_credential = Refuse (model.AuthError 1)

abbrev pub rejected_credential : Stop
rejected_credential = Refuse (model.AuthError 2)

-- what is read from the front, where it is there
abbrev pub whole : {A : Type 0} → Reads A → Result (A × List ℕ) Stop
whole (Ok x) = Ok x
whole (Err fault) = Err Incomplete

-- ---- 1. xid and msg_type, which is CALL 0 (section 9)

-- xid; a head that isn't all there is fault 12, and a message that is no call fault 13 (our profile)
abbrev pub xid_of : Reads (ℕ × ℕ) → Result (ℕ × List ℕ) ℕ
xid_of (Ok m) = if m.0.1 == 0 then Ok (m.0.0, m.1) else Err 13
xid_of (Err fault) = Err 12

abbrev pub xid_at : List ℕ → Result (ℕ × List ℕ) ℕ
xid_at bytes = xid_of (read (Word & Word) bytes)

-- ---- 2. rpcvers, which is 2 (section 9)

abbrev pub version_at : List ℕ → Result (List ℕ) Stop
version_at bytes = whole (read Word bytes) >>= λ v. if v.0 == 2 then Ok v.1 else Err (Refuse (model.RpcMismatch 2 2))

-- ---- 3. prog, vers, proc, and flavor and length of cred (sections 8.2 and 9)

abbrev pub numbers_shape : Shape
numbers_shape = Word & Word & Word & Word & Word

-- ---- 4. the credential (sections 8.2 and 10.1, appendix A)

-- authsys_parms (appendix A): stamp, machinename, uid, gid and gids
abbrev pub auth_sys_shape : Shape
auth_sys_shape = Word & Opaque 255 & Word & Word & Array 16 Word

-- whom AUTH_NONE acts for (our profile)
abbrev pub nobody : model.Credential
nobody = record { uid = 65534; gid = 65534; gids = [] }

-- the body, where it is all there and its padding is zero
abbrev pub body_of : Reads (List ℕ) → Result (List ℕ × List ℕ) Stop
body_of (Ok x) = Ok x
body_of (Err Short) = Err Incomplete
body_of (Err fault) = Err bad_credential

-- the uid, gid and gids of authsys_parms
abbrev pub user : Value auth_sys_shape → model.Credential
user v = record { uid = v.1.1.0; gid = v.1.1.1.0; gids = v.1.1.1.1 }

-- whom an AUTH_SYS body names
abbrev pub user_of : Result (Value auth_sys_shape) Unread → Result model.Credential Stop
user_of (Ok v) = Ok (user v)
user_of (Err fault) = Err bad_credential

-- whom a body of flavor AUTH_NONE 0 or AUTH_SYS 1 acts for
abbrev pub acting : ℕ → List ℕ → Result model.Credential Stop
acting flavor body = if flavor == 0 then Ok nobody else user_of (all_of auth_sys_shape body)

abbrev pub credential_at : ℕ → ℕ → List ℕ → Result (model.Credential × List ℕ) Stop
credential_at flavor size bytes =
    if nat_lt 1 flavor then Err rejected_credential
    else if nat_lt 400 size then Err bad_credential
    else (body_of (read (Fixed size) bytes) >>= λ b. acting flavor b.0 >>= λ c. Ok (c, b.1))

-- ---- 6. the procedure (section 9); before it stands verf, an opaque_auth (section 8.2)

-- the version of a program: NFS (RFC 1813 section 2.2), MOUNT (appendix I, section 5.1.2) and the admin program (our profile)
abbrev pub known_version : ℕ → Option ℕ
known_version program =
    if program == 100003 then Some 3 else if program == 100005 then Some 3 else if program == 536870913 then Some 1 else None

-- where a procedure of it is offered
abbrev pub version_by : Offer → ℕ → Option ℕ
version_by offer program = if offers_program offer program then known_version program else None

-- the procedures that are offered
abbrev pub procedures_by : Offer → List Procedure
procedures_by offer = filter (offers offer) all_procedures

abbrev pub is_numbered : ℕ → ℕ → Procedure → Bool
is_numbered program number procedure = ((numbers_of procedure).0 == program) && ((numbers_of procedure).1 == number)

-- PROC_UNAVAIL where there is none
abbrev pub available : Option Procedure → Result Procedure Stop
available (Some procedure) = Ok procedure
available None = Err (Refuse model.ProcedureUnavailable)

-- PROG_UNAVAIL, PROG_MISMATCH or PROC_UNAVAIL
abbrev pub of_version : Option ℕ → ℕ → Option Procedure → Result Procedure Stop
of_version None version procedure = Err (Refuse model.ProgramUnavailable)
of_version (Some offered) version procedure = if version == offered then available procedure else Err (Refuse (model.ProgramMismatch offered offered))

abbrev pub procedure_by : Offer → ℕ → ℕ → ℕ → Result Procedure Stop
procedure_by offer program version number = of_version (version_by offer program) version (find (is_numbered program number) (procedures_by offer))

-- ---- the whole head

-- what follows xid and msg_type in a call that is offered
pub record Body : Type 0 where
  pub procedure : Procedure
  pub credential : model.Credential
  pub arguments : List ℕ

-- call_body (section 9) in the order of the checks. The fifth is verf, whose content is ignored.
abbrev pub body_by : Offer → List ℕ → Result Body Stop
body_by offer bytes =
    version_at bytes
    >>= λ rest. whole (read numbers_shape rest)
    >>= λ n. credential_at n.0.1.1.1.0 n.0.1.1.1.1 n.1
    >>= λ c. whole (read auth_shape c.1)
    >>= λ v. procedure_by offer n.0.0 n.0.1.0 n.0.1.1.0
    >>= λ p. Ok (record { procedure = p; credential = c.0; arguments = v.1 })

-- what a record's head says
pub data Head : Type 0 where
  Call : (xid : ℕ) (procedure : Procedure) (credential : model.Credential) (arguments : List ℕ) → Head
  Refused : (xid : ℕ) (reply : model.Reply) → Head
  Faulty : (number : ℕ) → Head

abbrev pub under : ℕ → Result Body Stop → Head
under xid (Ok body) = Call xid body.procedure body.credential body.arguments
under xid (Err (Refuse reply)) = Refused xid reply
under xid (Err Incomplete) = Faulty 12

abbrev pub head_from : Offer → Result (ℕ × List ℕ) ℕ → Head
head_from offer (Ok m) = under m.0 (body_by offer m.1)
head_from offer (Err number) = Faulty number

abbrev pub head_by : Offer → List ℕ → Head
head_by offer bytes = head_from offer (xid_at bytes)

-- ---- with the basic offer

abbrev pub head_of : List ℕ → Head
head_of bytes = head_by basic bytes
