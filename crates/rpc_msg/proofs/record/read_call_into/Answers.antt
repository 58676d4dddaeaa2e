use Rattle.std.proofs.Common.{◌≡◌, Result, Err, subst}
use Rattle.nfs_types.specs.Arguments.{Makes, asked, put_in, takes_memory}
use Rattle.nfs_types.specs.declared.bad.Bad.{Bad}
use Rattle.nfs_types.specs.declared.bad.Bad.TheVariants.{NoMemory}
use Rattle.nfs_values.specs.Call.{call_of}
use Rattle.rpc_msg.proofs.Undecoded.{undecoded_by}
use Rattle.rpc_msg.proofs.record.read_call_into.Goals as goal

pub returns-in-Err-NoMemory : goal.returns-in-Err-NoMemory
returns-in-Err-NoMemory c = λ xid caller credential same.
    let k = c.in-Err-NoMemory in
    let bad : k.field-0 ≡ NoMemory = k.field-0-is in
    let procedure = c.args.procedure in
    undecoded_by c.args.form xid procedure credential c.args.arguments.now
    (subst (λ (b : Bad). Makes call_of (takes_memory procedure) (put_in (Err b) c.decode_call_into.new.call) (asked procedure c.args.arguments.now)) bad
    (subst (λ r. Makes call_of (takes_memory procedure) (put_in r c.decode_call_into.new.call) (asked procedure c.args.arguments.now)) k.is
    c.decode_call_into.ensures))
