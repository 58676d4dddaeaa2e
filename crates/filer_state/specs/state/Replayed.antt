-- The calls that a history finished, and what they were told: what a serial server replays (our profile).
use Rattle.std.specs.Prelude.{◌≡◌, List, [], ◌∷◌}
use Rattle.nfs_model.specs.Types.{Reply}
use Rattle.nfs_model.specs.Server.{Server}
use Rattle.nfs_model.specs.Replay.{FinishedCall, server_after, replay, AreLawful}
use Rattle.depot_rule.specs.declared.view.Entry.{Entry}
use Rattle.filer_state.specs.state.Jobs.{Job, Serve, Inner, JobReply, Replied}

-- a finished call, before others; an inner call is none
abbrev pub call_before : Job → List FinishedCall → List FinishedCall
call_before (Serve call) calls = call ∷ calls
call_before (Inner call) calls = calls

abbrev pub reply_before : Job → JobReply → List Reply → List Reply
reply_before (Serve call) (Replied reply) replies = reply ∷ replies
reply_before job reply replies = replies

-- the finished calls of a history, in order
abbrev pub calls_of : {P : Type 0} → List (Entry P Job JobReply) → List FinishedCall
calls_of [] = []
calls_of (e ∷ es) = call_before e.call (calls_of es)

-- and the replies to them
abbrev pub replies_of : {P : Type 0} → List (Entry P Job JobReply) → List Reply
replies_of [] = []
replies_of (e ∷ es) = reply_before e.call e.reply (replies_of es)

-- From one server to another by these calls: the serial server goes there, gives these replies, and a call that says starved may be.
pub record Replays (old new : Server) (calls : List FinishedCall) (replies : List Reply) : Type 0 where
  pub server : new ≡ server_after old calls
  pub told : replies ≡ replay old calls
  pub lawful : AreLawful old calls
