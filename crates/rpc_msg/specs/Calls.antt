-- A call that is offered, as one message (RFC 5531 section 9).
use Rattle.std.specs.Prelude.{◌≡◌, ℕ, true, List, ◌++◌, ◌⊎◌, Some}
use Rattle.xdr.specs.Shape.{Shape, Word, Value, Fits, Spells, spelling}
use Rattle.nfs_model.specs.Types as model
use Rattle.rpc_msg.specs.declared.offer.Offer.{Offer}
use Rattle.nfs_values.specs.declared.procedure.Procedure.{Procedure}
use Rattle.rpc_msg.specs.Offer.{basic, offers}
use Rattle.nfs_values.specs.Procedure.{numbers_of}
use Rattle.nfs_types.specs.Shapes.{◌&◌}
use Rattle.rpc_msg.specs.Replies.{auth_shape}
use Rattle.rpc_msg.specs.Heads.{auth_sys_shape, nobody, user, version_by}

-- xid, CALL 0, rpcvers 2, prog, vers, proc (section 9), cred and verf (section 8.2)
abbrev pub call_shape : Shape
call_shape = Word & Word & Word & Word & Word & Word & auth_shape & auth_shape

abbrev pub call_value : ℕ → ℕ × ℕ → ℕ → Value auth_shape → Value auth_shape → Value call_shape
call_value xid numbers version cred verf = (xid, (0, (2, (numbers.0, (version, (numbers.1, (cred, verf)))))))

-- whom a credential acts for: AUTH_NONE 0 for nobody, and AUTH_SYS 1 for the user of its body (section 10.1, appendix A and our profile)
abbrev pub ActsFor : Value auth_shape → model.Credential → Type 0
ActsFor cred who = ((cred.0 ≡ 0) × (who ≡ nobody)) ⊎ ((cred.0 ≡ 1) × ((v : Value auth_sys_shape) × Spells auth_sys_shape v cred.1 × (who ≡ user v)))

-- The bytes spell a call of a procedure that is offered, and then its arguments.
pub record IsCallBy (offer : Offer) (bytes : List ℕ) (xid : ℕ) (procedure : Procedure) (who : model.Credential) (arguments : List ℕ) : Type 0 where
  pub version : ℕ
  pub cred : Value auth_shape
  pub verf : Value auth_shape
  pub offered : offers offer procedure ≡ true
  pub version_is : version_by offer (numbers_of procedure).0 ≡ Some version
  pub acts_for : ActsFor cred who
  pub fits : Fits call_shape (call_value xid (numbers_of procedure) version cred verf)
  pub bytes_are : bytes ≡ spelling call_shape (call_value xid (numbers_of procedure) version cred verf) ++ arguments

-- with the basic offer
abbrev pub IsCall : List ℕ → ℕ → Procedure → model.Credential → List ℕ → Type 0
IsCall bytes xid procedure who arguments = IsCallBy basic bytes xid procedure who arguments
