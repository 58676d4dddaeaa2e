use Rattle.std.specs.Prelude.{ℕ}
use Rattle.nfs_model.specs.Types as model
use Rattle.nfs_values.specs.declared.reply.AuthFault.{AuthFault}
use Rattle.nfs_values.specs.declared.reply.AuthFault.TheVariants.{BadCredential, RejectedCredential, TooWeak}
use Rattle.nfs_values.specs.declared.reply.Reply.{Reply}
use Rattle.nfs_values.specs.declared.reply.Reply.TheVariants.{Success, Refused}
use Rattle.nfs_values.specs.declared.reply.Refusal.{Refusal}
use Rattle.nfs_values.specs.declared.reply.Refusal.TheVariants.{ProgramUnavailable, ProgramMismatch, ProcedureUnavailable, GarbageArguments, SystemError}
use Rattle.nfs_values.specs.declared.reply.Refusal.TheVariants.{RpcMismatch, AuthError}
use Rattle.nfs_values.specs.Answer.{answer_of}

-- AUTH_BADCRED and AUTH_REJECTEDCRED (RFC 5531 section 9)
abbrev pub auth_number : AuthFault → ℕ
auth_number BadCredential = 1
auth_number RejectedCredential = 2
auth_number TooWeak = 5

-- a reply, as the model has it
abbrev pub refusal_of : Refusal → model.Reply
refusal_of ProgramUnavailable = model.ProgramUnavailable
refusal_of (ProgramMismatch low high) = model.ProgramMismatch low high
refusal_of ProcedureUnavailable = model.ProcedureUnavailable
refusal_of GarbageArguments = model.GarbageArguments
refusal_of SystemError = model.SystemError
refusal_of (RpcMismatch low high) = model.RpcMismatch low high
refusal_of (AuthError fault) = model.AuthError (auth_number fault)

abbrev pub reply_of : Reply → model.Reply
reply_of (Success answer) = model.Success (answer_of answer)
reply_of (Refused refusal) = refusal_of refusal
