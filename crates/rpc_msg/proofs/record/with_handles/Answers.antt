use Rattle.std.proofs.Common.{ℕ, Result, ◌∙◌, ap, subst}
use Rattle.nfs_model.specs.World.{Heard}
use Rattle.rpc_msg.specs.declared.fault.RecordFault.{RecordFault}
use Rattle.rpc_msg.specs.declared.record as declared
use Rattle.rpc_msg.specs.declared.handle_form.HandleForm.TheVariants.{Plain}
use Rattle.rpc_msg.specs.Heads.{head_by}
use Rattle.rpc_msg.specs.Records.{heard_from, told_heard}
use Rattle.rpc_msg.specs.Seen.{Hears, IsRequestOf}
use Rattle.rpc_msg.proofs.Hearing.{heard_then}
use Rattle.rpc_msg.proofs.record.with_handles.Goals as goal

pub returns-in-Ok : goal.returns-in-Ok
returns-in-Ok c = λ bytes read.
    let head = head_by c.args.offer bytes in
    let told = subst (λ (r : Result declared.Heard.Heard RecordFault). Hears r (heard_from Plain head)) c.in-Ok.is read in
    subst (λ (h : Result Heard ℕ). IsRequestOf c.in-Ok.heard.xid c.hear_request.new.request h)
    (ap (λ form. told_heard form (heard_from Plain head)) c.handles.ensures ∙ heard_then _ head)
    (c.hear_request.ensures c.in-Ok.heard.xid (heard_from Plain head) told)
