use Rattle.std.proofs.Common.{sym, ap, subst, Ok, Result, ◌∙◌}
use Rattle.rpc_msg.specs.declared.fault.RecordFault.{RecordFault}
use Rattle.rpc_msg.specs.declared.record.Heard.{Heard}
use Rattle.rpc_msg.specs.Records.{heard_by}
use Rattle.rpc_msg.specs.Seen.{Hears}
use Rattle.tcp_front.proofs.taking.give_joined.Goals as goal

pub returns-in-Ok-clause-given : goal.returns-in-Ok-clause-given
returns-in-Ok-clause-given g c =
    let made = c.args.record.items in
    let is = c.in-Ok.is ∙ ap (λ (h : Heard). Ok h) (sym c.put-told.ensures) in
    c.give_read.ensures.given c.args.offer made
    (subst (λ (r : Result Heard RecordFault). Hears r (heard_by c.args.offer made)) is c.read_record_of.ensures)

pub returns-in-Err-clause-given : goal.returns-in-Err-clause-given
returns-in-Err-clause-given g c =
    let made = c.args.record.items in
    c.give_read-in-Err.ensures.given c.args.offer made
    (subst (λ (r : Result Heard RecordFault). Hears r (heard_by c.args.offer made)) c.in-Err.is c.read_record_of.ensures)
