-- The calls of the admin program as bytes (our profile, by RFC 5531 sections 8.2, 9 and 10.1).
use Rattle.std.specs.Prelude.{ℕ, ◌^◌, ◌<◌, List, [], ◌++◌}
use Rattle.std.specs.List.{flat_map}
use Rattle.xdr.specs.Shape.{Value, word, spelling}
use Rattle.nfs_model.specs.Types as model
use Rattle.nfs_values.specs.declared.procedure.Procedure.{Procedure}
use Rattle.nfs_values.specs.declared.procedure.Procedure.TheVariants as procedures
use Rattle.nfs_types.specs.Arguments.{growing_shape}
use Rattle.rpc_msg.specs.Replies.{auth_shape, no_verifier}
use Rattle.rpc_msg.specs.Heads.{auth_sys_shape, nobody}
use Rattle.rpc_msg.specs.Calls.{call_shape, call_value}
use Rattle.admin_client.specs.declared.call.AdminCall.{AdminCall}
use Rattle.admin_client.specs.declared.call.AdminCall.TheVariants.{Census, Grow, Stop}
use Rattle.admin_client.specs.declared.call.AdminUser.{AdminUser}
use Rattle.admin_client.specs.declared.call.AdminUser.TheVariants.{Nobody, Of}

-- its number among the procedures of program 0x20000001
abbrev pub number_of : AdminCall → ℕ
number_of Census = 1
number_of (Grow volume ranges) = 2
number_of Stop = 3

-- its arguments: none, or a volume and how many ranges
abbrev pub arguments_of : AdminCall → List ℕ
arguments_of Census = []
arguments_of (Grow volume ranges) = spelling growing_shape (volume.0, ranges)
arguments_of Stop = []

-- of a user: stamp 0, a machine without a name, and no further group (RFC 5531 appendix A)
abbrev pub user_value : ℕ → ℕ → Value auth_sys_shape
user_value uid gid = (0, ([], (uid, (gid, []))))

-- its credential: AUTH_NONE 0 without a body, or AUTH_SYS 1
abbrev pub credential_of : AdminUser → Value auth_shape
credential_of Nobody = no_verifier
credential_of (Of uid gid) = (1, spelling auth_sys_shape (user_value uid gid))

-- the message of a call of version 1 by a user, with AUTH_NONE and no body as verifier
abbrev pub call_bytes : ℕ → AdminUser → AdminCall → List ℕ
call_bytes xid user call =
    spelling call_shape (call_value xid (0x20000001, number_of call) 1 (credential_of user) no_verifier) ++ arguments_of call

-- unsigned integers, one after another
abbrev pub words_spelled : List ℕ → List ℕ
words_spelled words = flat_map word words

-- ---- what a server hears

-- its procedure
abbrev pub procedure_of : AdminCall → Procedure
procedure_of Census = procedures.Census
procedure_of (Grow volume ranges) = procedures.Grow
procedure_of Stop = procedures.Stop

-- the call, as the model has it
abbrev pub model_call : AdminCall → model.Call
model_call Census = model.Census
model_call (Grow volume ranges) = model.Grow volume.0 ranges
model_call Stop = model.Stop

-- whom it acts for
abbrev pub acting_for : AdminUser → model.Credential
acting_for Nobody = nobody
acting_for (Of uid gid) = record { uid = uid; gid = gid; gids = [] }

-- its numbers are of 32 bits
abbrev pub UserFits : AdminUser → Type 0
UserFits Nobody = Unit {0}
UserFits (Of uid gid) = (uid < 2 ^ 32) × (gid < 2 ^ 32)

abbrev pub CallFits : AdminCall → Type 0
CallFits Census = Unit {0}
CallFits (Grow volume ranges) = (volume.0 < 2 ^ 32) × (ranges < 2 ^ 32)
CallFits Stop = Unit {0}
