-- Handles that are heard after a record was read.
use Rattle.std.proofs.Common.{◌≡◌, ℕ, Result, Ok, Err, refl}
use Rattle.xdr.specs.declared.fault.Fault.{Fault as Unread}
use Rattle.nfs_model.specs.Types as model
use Rattle.nfs_types.specs.Arguments.{asked}
use Rattle.rpc_msg.specs.declared.handle_form.HandleForm.{HandleForm}
use Rattle.rpc_msg.specs.declared.handle_form.HandleForm.TheVariants.{Plain}
use Rattle.rpc_msg.specs.Heads.{Head, Call, Refused, Faulty}
use Rattle.rpc_msg.specs.Records.{asked_by, caller_by, heard_from, told_heard}

asked_then : (form : HandleForm) (xid : ℕ) (caller : model.Caller) (r : Result model.Call Unread)
    → told_heard form (Ok (record { xid = xid; asked = asked_by Plain caller r })) ≡ Ok (record { xid = xid; asked = asked_by form caller r })
asked_then form xid caller (Ok call) = refl
asked_then form xid caller (Err fault) = refl

pub heard_then : (form : HandleForm) (head : Head) → told_heard form (heard_from Plain head) ≡ heard_from form head
heard_then form (Call xid procedure who arguments) = asked_then form xid (caller_by xid who) (asked procedure arguments)
heard_then form (Refused xid reply) = refl
heard_then form (Faulty number) = refl
