use Rattle.std.proofs.Common.{◌≡◌, ap, length, arith, vec_len, vec_capacity}
use Rattle.nfs_values.specs.Reply.{reply_of}
use Rattle.outboxes.proofs.Messages.{bytes-short, room-same, written-is}
use Rattle.outboxes.proofs.link.write.Goals as goal

pub write_reply_record-requires : goal.write_reply_record-requires
write_reply_record-requires c = bytes-short c.args.xid (reply_of c.args.reply.now) 131072 c.requires.short

pub returns-in-Ok-clause-ok : goal.returns-in-Ok-clause-ok
returns-in-Ok-clause-ok c = (
  c.new.ensures,
  written-is c.args.xid (reply_of c.args.reply.now) c.args.link.now.bytes.items c.write_reply_record.new.out.items c.in-Ok.ensures.ok
      c.requires.blank,
)

pub returns-in-Err-clause-succeeds : goal.returns-in-Err-clause-succeeds
returns-in-Err-clause-succeeds c = λ room.
    let size : vec_len c.args.link.now.bytes ≡ length c.args.link.now.bytes.items = c.args.link.now.bytes.ok.0 in
    let none : length c.args.link.now.bytes.items ≡ 0 = ap length c.requires.blank in
    let fits = room-same c.args.xid (reply_of c.args.reply.now) (vec_capacity c.args.link.now.bytes) room in
    c.in-Err.ensures.succeeds (omega (arith, size, none, fits))
