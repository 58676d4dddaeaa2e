use Rattle.nfs_values.specs.Reply.{reply_of}
use Rattle.rpc_msg.specs.Handles.{reply_told}
use Rattle.tcp_front.proofs.Fitting.{at-once-fits}
use Rattle.tcp_front.proofs.giving.answer_now.Goals as goal

pub answer-requires : goal.answer-requires
answer-requires g c form =
    at-once-fits c.args.origin.xid (reply_told form (reply_of c.reply_at_once-reply.result)) (c.reply_at_once-reply.ensures.short c.args.origin.xid form)
