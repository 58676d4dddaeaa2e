use Rattle.std.proofs.Common.{ap}
use Rattle.nfs_model.specs.Tree.{Logical}
use Rattle.nfs_values.specs.Moment.{moment_of}
use Rattle.service_names.specs.ChangeLaws.{rename_call, rename_done}
use Rattle.filer_state.specs.state.Sets.{logical_before, logical_after}
use Rattle.service.proofs.renames.Done.{on-err-then, renamed-by}
use Rattle.service.proofs.renames.renaming.rename.Goals as goal

pub returns-clause-right : goal.returns-clause-right
returns-clause-right c volumes from to good =
    let v = c.args.volume.0 in
    let from_id = c.args.from.directory.0 in
    let from_name = c.args.from.name.now in
    let to_id = c.args.to.directory.0 in
    let to_name = c.args.to.name.now in
    let moment = moment_of c.args.moment in
    let old = logical_before c.args.held.now in
    renamed-by v (rename_call from to (Logical v) from_id from_name to_id to_name moment) old _
    (rename_done v from_id from_name to_id to_name moment old)
    (c.renaming_calls_are_right.ensures.rename v from_id to_id from from_name to to_name (Logical v) moment old)
    (λ apart made. c.renaming_calls_are_right.ensures.rename_starves v from_id to_id volumes from from_name to to_name (Logical v) moment old made.0 made.1
    good apart made.2)
    c.name_moved.result c.name_moved.ensures.told c.name_moved.ensures.set c.name_moved.ensures.would c.name_moved.ensures.apart
    (on-err-then c.name_moved.result (λ e. ap (λ h. logical_after c.args.held.now h) e) c.name_moved.ensures.starved)
