use Rattle.nfs_values.specs.Caller.{caller_of}
use Rattle.filer_state.specs.state.Sets.{logical_before}
use Rattle.service_names.proofs.Objects.{path-of, no-path}
use Rattle.service_names.proofs.telling.path_configuration.Goals as goal

pub returns-in-Ok : goal.returns-in-Ok
returns-in-Ok c =
    let set = logical_before c.args.held.now in
    record { right = path-of c.args.volume.0 c.args.fileid.0 set c.in-Ok.object c.in-Ok.ensures.object (caller_of c.args.caller.now) }

pub returns-in-Err : goal.returns-in-Err
returns-in-Err c =
    let set = logical_before c.args.held.now in
    let none = c.in-Err.ensures.object in
    record { right = no-path c.args.volume.0 c.args.fileid.0 set none.0 c.in-Err.status none.1 (caller_of c.args.caller.now) }
