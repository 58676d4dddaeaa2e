use Rattle.std.proofs.Common.{ap}
use Rattle.nfs_model.specs.Tree.{Logical}
use Rattle.nfs_values.specs.Attributes.{kind_of}
use Rattle.nfs_values.specs.Caller.{caller_of}
use Rattle.nfs_values.specs.Moment.{moment_of}
use Rattle.nfs_values.specs.Set.{set_of}
use Rattle.nfs_values.specs.declared.answer.Answer.TheVariants as answers
use Rattle.filer_state.specs.changes.Laws.{mknod_call, mknod_done}
use Rattle.filer_state.specs.state.Sets.{logical_before, logical_after}
use Rattle.service_names.proofs.Made.{made-by}
use Rattle.service_names.proofs.Tying.{on-err-then}
use Rattle.service_names.proofs.creating.make_device.Goals as goal

pub returns-clause-right : goal.returns-clause-right
returns-clause-right c handle =
    let v = c.args.volume.0 in
    let fileid = c.args.directory.0 in
    let name = c.args.name.now in
    let set = set_of c.args.set.now in
    let kind = kind_of c.args.kind in
    let caller = caller_of c.args.caller.now in
    let moment = moment_of c.args.moment in
    let old = logical_before c.args.held.now in
    made-by v (mknod_call handle (Logical v) fileid name kind set caller moment) old _ answers.MakeDevice
    (mknod_done v fileid name kind set caller moment old)
    (c.making_calls_are_right.ensures.mknod v fileid handle name (Logical v) kind set caller moment old)
    (λ made. c.making_calls_are_right.ensures.mknod_starves v fileid handle name (Logical v) kind set caller moment old made.0 made.1 made.2 made.3)
    c.special_made.result c.special_made.ensures.told c.special_made.ensures.set c.special_made.ensures.would
    (on-err-then c.special_made.result (λ e. ap (λ h. logical_after c.args.held.now h) e) c.special_made.ensures.starved)
