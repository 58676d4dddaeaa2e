-- The head of a call (RFC 5531 sections 8.2 and 9), in the order in which it is read: the order, and that the first that
-- applies decides, is our profile, as of the server beside this port mapper.
use Rattle.std.specs.Prelude.{◌≡◌, ℕ, List, ◌==◌, nat_lt, Result, Ok, Err, if◌then◌else◌}
use Rattle.xdr.specs.declared.fault.Fault.TheVariants.{Short}
use Rattle.xdr.specs.Shape.{Shape, Word, Fixed, Opaque, Pair}
use Rattle.xdr.specs.Reading.{Reads, read}
use Rattle.port_mapper.specs.declared.outcome.Outcome.TheVariants.{RpcMismatch, BadCredential}
use Rattle.port_mapper.specs.declared.call.Stop.{Stop}
use Rattle.port_mapper.specs.declared.call.Stop.TheVariants.{Silent, Refuse}
use Rattle.port_mapper.specs.declared.call.Call.{Call as CallRead}

-- a member of a structure, before the others
infixr 5 ◌&◌
abbrev pub ◌&◌ : Shape → Shape → Shape
first & second = Pair first second

infixl 10 ◌>>=◌
abbrev pub ◌>>=◌ : {A B : Type 0} → Result A Stop → (A → Result B Stop) → Result B Stop
(Ok x) >>= f = f x
(Err stop) >>= f = Err stop

-- what is read from the front; where it isn't there, nothing is replied
abbrev pub whole : {A : Type 0} → Reads A → Result (A × List ℕ) Stop
whole (Ok x) = Ok x
whole (Err fault) = Err Silent

-- xid, before msg_type, which is CALL 0 (section 9)
abbrev pub xid_at : List ℕ → Result (ℕ × List ℕ) Stop
xid_at bytes = whole (read (Word & Word) bytes) >>= λ m. if m.0.1 == 0 then Ok (m.0.0, m.1) else Err Silent

-- rpcvers, which is 2 (section 9)
abbrev pub version_at : List ℕ → Result (List ℕ) Stop
version_at bytes = whole (read Word bytes) >>= λ v. if v.0 == 2 then Ok v.1 else Err (Refuse RpcMismatch)

-- behind the body of a credential, where it is all there and its padding is zero
abbrev pub behind_body : Reads (List ℕ) → Result (List ℕ) Stop
behind_body (Ok x) = Ok x.1
behind_body (Err Short) = Err Silent
behind_body (Err fault) = Err (Refuse BadCredential)

-- cred, of any flavor, whose body has at most 400 bytes (section 8.2)
abbrev pub credential_at : List ℕ → Result (List ℕ) Stop
credential_at bytes =
    whole (read (Word & Word) bytes)
    >>= λ a. if nat_lt 400 a.0.1 then Err (Refuse BadCredential) else behind_body (read (Fixed a.0.1) a.1)

-- opaque_auth (section 8.2): a flavor, and a body of at most 400 bytes
abbrev pub auth_shape : Shape
auth_shape = Word & Opaque 400

-- what a call asks: a procedure of a version of a program, with the bytes of its arguments
pub record Call : Type 0 where
  pub program : ℕ
  pub version : ℕ
  pub procedure : ℕ
  pub arguments : List ℕ

-- call_body (section 9): rpcvers, prog, vers, proc, cred and verf, and behind them the arguments
abbrev pub call_at : List ℕ → Result Call Stop
call_at bytes =
    version_at bytes
    >>= λ rest. whole (read (Word & Word & Word) rest)
    >>= λ n. credential_at n.1
    >>= λ rest. whole (read auth_shape rest)
    >>= λ v. Ok (record { program = n.0.0; version = n.0.1.0; procedure = n.0.1.1; arguments = v.1 })

-- ---- what the code's functions return

abbrev pub call_of : CallRead → Call
call_of c = record { program = c.program; version = c.version; procedure = c.procedure; arguments = c.arguments.now }

-- what was returned, seen by view, and what it left are what a step gives
abbrev pub Takes : {X Y : Type 0} → (X → Y) → Result X Stop → Result (Y × List ℕ) Stop → List ℕ → Type 0
Takes view (Ok x) step new = step ≡ Ok (view x, new)
Takes view (Err stop) step new = step ≡ Err stop

-- what it left is what a step gives
abbrev pub Leaves : {X : Type 0} → Result X Stop → Result (List ℕ) Stop → List ℕ → Type 0
Leaves (Ok x) step new = step ≡ Ok new
Leaves (Err stop) step new = step ≡ Err stop

-- what was returned, seen by view, is what a step gives
abbrev pub Says : {X Y : Type 0} → (X → Y) → Result X Stop → Result Y Stop → Type 0
Says view (Ok x) step = step ≡ Ok (view x)
Says view (Err stop) step = step ≡ Err stop
