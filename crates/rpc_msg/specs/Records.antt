-- The call of a record (RFC 5531 section 9): what its head and its arguments ask.
use Rattle.std.specs.Prelude.{ℕ, false, List, Result, Ok, Err}
use Rattle.xdr.specs.declared.fault.Fault.{Fault as Unread}
use Rattle.nfs_model.specs.Types as model
use Rattle.nfs_model.specs.World.{Heard}
use Rattle.rpc_msg.specs.declared.handle_form.HandleForm.{HandleForm}
use Rattle.rpc_msg.specs.declared.offer.Offer.{Offer}
use Rattle.rpc_msg.specs.Offer.{basic, form_of}
use Rattle.nfs_types.specs.Arguments.{asked}
use Rattle.rpc_msg.specs.Handles.{call_heard}
use Rattle.rpc_msg.specs.Heads.{Head, Call, Refused, Faulty, head_by}

-- who makes a call: whom it acts for under its record's xid. A record says neither where it comes from nor whether its caller is checked or
-- only reads
abbrev pub caller_by : ℕ → model.Credential → model.Caller
caller_by xid credential = record { credential = credential; xid = xid; peer = 0; checked = false; reads_only = false }

-- the call, as the server has its handles, or GARBAGE_ARGS where its arguments are no spelling or bytes are left
abbrev pub asked_by : HandleForm → model.Caller → Result model.Call Unread → model.Asked
asked_by form caller (Ok call) = model.Ask (call_heard form call) caller
asked_by form caller (Err fault) = model.Refused model.GarbageArguments

abbrev pub heard_from : HandleForm → Head → Result Heard ℕ
heard_from form (Call xid procedure credential arguments) =
    Ok (record { xid = xid; asked = asked_by form (caller_by xid credential) (asked procedure arguments) })
heard_from form (Refused xid reply) = Ok (record { xid = xid; asked = model.Refused reply })
heard_from form (Faulty number) = Err number

-- what was told of a record, once the handles of its call are heard
abbrev pub asked_heard : HandleForm → model.Asked → model.Asked
asked_heard form (model.Ask call caller) = model.Ask (call_heard form call) caller
asked_heard form asked = asked

abbrev pub told_heard : HandleForm → Result Heard ℕ → Result Heard ℕ
told_heard form (Ok told) = Ok (record told { asked = asked_heard form told.asked })
told_heard form (Err number) = Err number

-- what a record asks under its xid, or the number of its fault
abbrev pub heard_by : Offer → List ℕ → Result Heard ℕ
heard_by offer bytes = heard_from (form_of offer) (head_by offer bytes)

-- with the basic offer
abbrev pub heard : List ℕ → Result Heard ℕ
heard bytes = heard_by basic bytes
