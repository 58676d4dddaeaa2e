-- Kinds of replies.
use Rattle.std.specs.Prelude.{ℕ, ◌+◌, length}
use Rattle.nfs_values.specs.declared.reply.Reply.{Reply}
use Rattle.nfs_values.specs.declared.reply.Reply.TheVariants as replies
use Rattle.nfs_values.specs.declared.reply.Refusal.{Refusal}
use Rattle.nfs_values.specs.declared.reply.Refusal.TheVariants as refusals
use Rattle.nfs_values.specs.Answer.{procedure_of}
use Rattle.nfs_values.specs.Procedure as procedures
use Rattle.statistics.specs.declared.kind.ReplyKind.{ReplyKind}
use Rattle.statistics.specs.declared.kind.ReplyKind.TheVariants.{Refused, Answered}
use Rattle.statistics.specs.declared.kind.RefusalKind.{RefusalKind}
use Rattle.statistics.specs.declared.kind.RefusalKind.TheVariants.{ProgramUnavailable, ProgramMismatch, ProcedureUnavailable, GarbageArguments}
use Rattle.statistics.specs.declared.kind.RefusalKind.TheVariants.{SystemError, RpcMismatch, AuthError}

-- the kind of a reply without results (RFC 5531 section 9)
abbrev pub refusal_kind : Refusal → RefusalKind
refusal_kind refusals.ProgramUnavailable = ProgramUnavailable
refusal_kind (refusals.ProgramMismatch low high) = ProgramMismatch
refusal_kind refusals.ProcedureUnavailable = ProcedureUnavailable
refusal_kind refusals.GarbageArguments = GarbageArguments
refusal_kind refusals.SystemError = SystemError
refusal_kind (refusals.RpcMismatch low high) = RpcMismatch
refusal_kind (refusals.AuthError fault) = AuthError

-- the kind of a reply
abbrev pub kind_of : Reply → ReplyKind
kind_of (replies.Success answer) = Answered (procedure_of answer)
kind_of (replies.Refused refusal) = Refused (refusal_kind refusal)

-- the place of a refusal among them; that memory ran out is the last
abbrev pub refusal_place : RefusalKind → ℕ
refusal_place ProgramUnavailable = 0
refusal_place ProgramMismatch = 1
refusal_place ProcedureUnavailable = 2
refusal_place GarbageArguments = 3
refusal_place RpcMismatch = 4
refusal_place AuthError = 5
refusal_place SystemError = 6

-- the place of a kind among all: refusals, and then the procedures
abbrev pub place_of : ReplyKind → ℕ
place_of (Refused kind) = refusal_place kind
place_of (Answered procedure) = 7 + procedures.place_of procedure

-- how many there are
abbrev pub kinds_count : ℕ
kinds_count = 7 + length procedures.all_procedures
