use Rattle.std.proofs.Common.{ap, ◌∙◌}
use Rattle.nfs_values.specs.Reply.{reply_of}
use Rattle.rpc_msg.specs.Handles.{reply_told}
use Rattle.engine_feed.proofs.Hearing.{answered}
use Rattle.engine_feed.proofs.admitting.answer_now.Goals as goal

pub returns-clause-admitted : goal.returns-clause-admitted
returns-clause-admitted c =
    let first = reply_of c.reply_at_once-reply.result in
    answered c.args.offer c.args.calls.now c.answer.new.calls c.args.connection.now c.answer.new.connection c.args.origin c.args.request first
    (reply_of c.tell.new.reply) c.without_home_stays.ensures c.requires.none c.reply_at_once-reply.ensures.reply
    (c.tell.ensures ∙ ap (λ f. reply_told f first) c.handles.ensures) c.answer.ensures.finishes
