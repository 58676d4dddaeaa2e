use Rattle.std.proofs.Common.{◌∙◌, Ok, Err}
use Rattle.nfs_model.specs.Types.{MountDone}
use Rattle.nfs_values.specs.Caller.{caller_of}
use Rattle.filer_state.specs.state.Sets.{logical_before}
use Rattle.service_names.proofs.Mounted.{mounts, leads-below}
use Rattle.service_names.proofs.mounting_below.mount_below.Goals as goal

pub returns-in-Ok : goal.returns-in-Ok
returns-in-Ok c =
    let v = c.args.volume.0 in
    let root = c.args.root.0 in
    let path = c.args.path.now in
    let set = logical_before c.args.held.now in
    record {
      right = mounts v root path (caller_of c.args.caller.now) set (Ok (record { handle = c.naming.result }))
          ((λ j. MountDone (c.naming.ensures j))
          ∙ leads-below v root path c.below_volume.result.now (caller_of c.args.caller.now) set _ (Ok c.in-Ok.fileid) c.below_volume.ensures
          (c.directory_below.ensures v) c.in-Ok.is);
    }

pub returns-in-Err : goal.returns-in-Err
returns-in-Err c =
    let v = c.args.volume.0 in
    let root = c.args.root.0 in
    let path = c.args.path.now in
    let set = logical_before c.args.held.now in
    record {
      right = mounts v root path (caller_of c.args.caller.now) set (Err c.in-Err.status)
          (leads-below v root path c.below_volume.result.now (caller_of c.args.caller.now) set _ (Err c.in-Err.status) c.below_volume.ensures
          (c.directory_below.ensures v) c.in-Err.is);
    }
