use Rattle.std.proofs.Common.{sym, ◌∙◌, vec_capacity}
use Rattle.nfs_values.specs.Reply.{reply_of}
use Rattle.outboxes.specs.lemmas.Messages.{record_is}
use Rattle.outboxes.proofs.Messages.{bytes-short, room-same}
use Rattle.outboxes.proofs.link.move_in.Goals as goal

pub move_reply_record-requires-clause-short : goal.move_reply_record-requires-clause-short
move_reply_record-requires-clause-short c = bytes-short c.args.xid (reply_of c.args.reply.now) 131072 c.requires.short

pub returns-in-Ok-clause-ok : goal.returns-in-Ok-clause-ok
returns-in-Ok-clause-ok c = (c.new-numbered.ensures, c.in-Ok.ensures.ok ∙ sym (record_is c.args.xid (reply_of c.args.reply.now)))

pub returns-in-Err-clause-succeeds : goal.returns-in-Err-clause-succeeds
returns-in-Err-clause-succeeds c = λ room.
    c.in-Err.ensures.succeeds (room-same c.args.xid (reply_of c.args.reply.now) (vec_capacity c.args.link.now.bytes) room)
