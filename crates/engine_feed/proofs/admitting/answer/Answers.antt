use Rattle.std.proofs.Common.{ap}
use Rattle.nfs_values.specs.Reply.{reply_of}
use Rattle.engine_feed.specs.Seen.{waiting_of}
use Rattle.engine_feed.proofs.Parts.{written-is, finishes}
use Rattle.engine_feed.proofs.admitting.answer.Goals as goal

pub returns-clause-finishes : goal.returns-clause-finishes
returns-clause-finishes c =
    let to = c.args.connection.now in
    let calls = c.args.calls.now in
    finishes calls c.keep_entry.new.calls to c.write_reply.new.to _ (reply_of c.args.reply.now)
    (written-is to c.write_reply.new.to _ c.write_reply.ensures.written)
    (ap waiting_of c.keep_entry.ensures.keeps.same) c.keep_entry.ensures.kept
