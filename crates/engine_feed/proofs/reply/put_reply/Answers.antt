use Rattle.std.proofs.Common.{rules, vec_len, vec_capacity}
use Rattle.nfs_values.specs.Reply.{reply_of}
use Rattle.engine_feed.specs.Codec.{reply_record}
use Rattle.engine_feed.proofs.Records.{bytes-short, room-same}
use Rattle.engine_feed.proofs.reply.put_reply.Goals as goal

pub write_reply_record-requires : goal.write_reply_record-requires
write_reply_record-requires c = bytes-short c.args.xid (reply_of c.args.reply.now) 131072 c.requires.short

pub unwrap-requires : goal.unwrap-requires
unwrap-requires c =
    c.write_reply_record.ensures.succeeds
    (room-same c.args.xid (reply_of c.args.reply.now) (vec_len c.args.out.now) (vec_capacity c.args.out.now) c.requires.room)

pub returns-clause-items : goal.returns-clause-items
unfolding reply_record
returns-clause-items c = search rules
