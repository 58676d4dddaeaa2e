use Rattle.std.proofs.Common.{◌≤◌, length, ap, sym, subst}
use Rattle.nfs_model.specs.Types as types
use Rattle.nfs_values.specs.Call.{call_of}
use Rattle.nfs_values.specs.Reply.{refusal_of}
use Rattle.affinity.specs.Layout.{layout_of}
use Rattle.rpc_msg.specs.lemmas.Refusals.{refusal_is, refusal_told}
use Rattle.engine_feed.specs.Codec.{reply_record}
use Rattle.engine_feed.specs.Limit.{reply_limit}
use Rattle.engine_feed.proofs.Hearing.{at-once-fits}
use Rattle.engine_feed.proofs.Records.{refusal-fits}
use Rattle.engine_feed.proofs.admission.reply_at_once.Goals as goal

pub returns-in-Call-clause-short : goal.returns-in-Call-clause-short
returns-in-Call-clause-short c xid form =
    let layout = layout_of c.args.layout.now in
    at-once-fits form layout xid (call_of c.in-Call.call) _ (ap (λ (a : types.Answer). types.Success a) c.answer_at_once.ensures)
    (c.replies_fit.ensures.at_once form 0 layout (call_of c.in-Call.call) xid)

pub returns-in-Refused-clause-short : goal.returns-in-Refused-clause-short
returns-in-Refused-clause-short c xid form =
    let reply = refusal_of c.in-Refused.refusal in
    subst (λ (r : types.Reply). length (reply_record xid r) ≤ reply_limit) (sym (refusal_told form reply (refusal_is c.in-Refused.refusal)))
    (refusal-fits xid reply (c.refusals_fit.ensures.room reply xid (refusal_is c.in-Refused.refusal)))

pub returns-in-Undecoded-clause-short : goal.returns-in-Undecoded-clause-short
returns-in-Undecoded-clause-short c xid form =
    subst (λ (r : types.Reply). length (reply_record xid r) ≤ reply_limit) (sym (refusal_told form types.SystemError tt))
    (refusal-fits xid types.SystemError (c.refusals_fit.ensures.room types.SystemError xid tt))
