use Rattle.std.proofs.Common.{◌∙◌, ap}
use Rattle.service.specs.declared.job.ServedCall.{ServedCall}
use Rattle.granted_calls.specs.Messages.{message_of_call, Message}
use Rattle.granted_calls.specs.Served.{served_of_message}
use Rattle.granted_calls.proofs.entering.enter.Goals as goal

pub returns : goal.returns
returns c =
    let fields = c.message.inside in
    record {
      served = c.stamp.ensures fields.room
          ∙ ap (λ (s : ServedCall). served_of_message (message_of_call s fields.room) c.args.moment c.args.starved) c.deref_mut.ensures.value
          ∙ ap (λ (m : Message). served_of_message m c.args.moment c.args.starved) c.message.view_is;
      origin = c.origin-origin.ensures;
      room = ap (λ (m : Message). m.room) c.message.view_is;
    }
