use Rattle.std.proofs.Common.{ap, ◌∙◌}
use Rattle.rpc_msg.specs.declared.record.DecodedCall.{DecodedCall}
use Rattle.service.specs.declared.job.ServedCall.{ServedCall}
use Rattle.scheduler.specs.Messages.{message_at}
use Rattle.granted_calls.specs.Messages.{message_of_call}
use Rattle.granted_calls.proofs.envelope.entered_anew.Goals as goal

pub returns-in-Ok : goal.returns-in-Ok
returns-in-Ok c = λ room.
    ap (λ (s : ServedCall). message_of_call s room) c.in-Ok.ensures.ok ∙ c.new.ensures room
    ∙ ap (λ (d : DecodedCall). message_at c.args.origin d.call d.caller c.args.affinity room) c.replace-read.ensures.value
