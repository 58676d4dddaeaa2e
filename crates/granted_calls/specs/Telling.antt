-- Answers as they are told.
use Rattle.std.specs.Prelude.{List, map}
use Rattle.rpc_msg.specs.declared.handle_form.HandleForm.{HandleForm}
use Rattle.outboxes.specs.Boxes.{Addressed, addressed}
use Rattle.outboxes.specs.Messages.{ReplyMessage, message}
use Rattle.rpc_msg.specs.Handles.{reply_told}

-- a reply under its xid, with its handles in this form
abbrev pub message_told : HandleForm → ReplyMessage → ReplyMessage
message_told form m = message m.xid (reply_told form m.reply)

-- and to its connection
abbrev pub answer_told : HandleForm → Addressed → Addressed
answer_told form a = addressed a.connection (message_told form a.message)

-- a sink took these answers, as they are told
abbrev pub TookTold : {S : Type 0} → HandleForm → (S → List Addressed → S → Type 0) → S → List Addressed → S → Type 0
TookTold form took sink answers sink' = took sink (map (answer_told form) answers) sink'
