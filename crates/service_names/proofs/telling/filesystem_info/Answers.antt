use Rattle.std.proofs.Common.{ap}
use Rattle.nfs_model.specs.volume.Logical.{LogicalValue}
use Rattle.filer_state.specs.state.Sets.{logical_before}
use Rattle.service_names.proofs.Objects.{info-of, no-info}
use Rattle.service_names.proofs.telling.filesystem_info.Goals as goal

pub returns-in-Ok : goal.returns-in-Ok
returns-in-Ok c =
    let set = logical_before c.args.held.now in
    record {
      right =
          info-of c.args.volume.0 c.args.fileid.0 set c.in-Ok.root c.in-Ok.ensures.object c.get.result.now.largest
          (ap (λ (l : LogicalValue). l.largest) c.get.ensures);
    }

pub returns-in-Err : goal.returns-in-Err
returns-in-Err c =
    let set = logical_before c.args.held.now in
    let none = c.in-Err.ensures.object in
    record { right = no-info c.args.volume.0 c.args.fileid.0 set none.0 c.in-Err.status none.1 }
