use Rattle.std.proofs.Common.{ap}
use Rattle.nfs_model.specs.Tree.{Logical}
use Rattle.nfs_values.specs.Caller.{caller_of}
use Rattle.nfs_values.specs.Moment.{moment_of}
use Rattle.nfs_values.specs.Set.{mode_of}
use Rattle.nfs_values.specs.declared.answer.Answer.TheVariants as answers
use Rattle.filer_state.specs.changes.Laws.{create_call, create_done}
use Rattle.filer_state.specs.state.Sets.{logical_before, logical_after}
use Rattle.service_names.proofs.Made.{made-by-absent}
use Rattle.service_names.proofs.Tying.{on-err-then}
use Rattle.service_names.proofs.creating.create.Goals as goal

pub returns-clause-right : goal.returns-clause-right
returns-clause-right c handle =
    let v = c.args.volume.0 in
    let fileid = c.args.directory.0 in
    let name = c.args.name.now in
    let mode = mode_of c.args.mode.now in
    let caller = caller_of c.args.caller.now in
    let moment = moment_of c.args.moment in
    let old = logical_before c.args.held.now in
    made-by-absent v (create_call handle (Logical v) fileid name mode caller moment) old _ answers.Create
    (create_done v fileid name mode caller moment old)
    (c.making_calls_are_right.ensures.create v fileid handle name (Logical v) mode caller moment old)
    (λ absent made. c.making_calls_are_right.ensures.create_starves v fileid handle name (Logical v) mode caller moment old made.0 made.1 made.2 made.3
    absent)
    c.file_created.result c.file_created.ensures.told c.file_created.ensures.set c.file_created.ensures.would c.file_created.ensures.absent
    (on-err-then c.file_created.result (λ e. ap (λ h. logical_after c.args.held.now h) e) c.file_created.ensures.starved)
