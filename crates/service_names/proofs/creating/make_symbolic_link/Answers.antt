use Rattle.std.proofs.Common.{ap}
use Rattle.nfs_model.specs.Tree.{Logical}
use Rattle.nfs_values.specs.Caller.{caller_of}
use Rattle.nfs_values.specs.Moment.{moment_of}
use Rattle.nfs_values.specs.Set.{set_of}
use Rattle.nfs_values.specs.declared.answer.Answer.TheVariants as answers
use Rattle.filer_state.specs.changes.Laws.{symlink_call, symlink_done}
use Rattle.filer_state.specs.state.Sets.{logical_before, logical_after}
use Rattle.service_names.proofs.Made.{made-by}
use Rattle.service_names.proofs.Tying.{on-err-then}
use Rattle.service_names.proofs.creating.make_symbolic_link.Goals as goal

pub returns-clause-right : goal.returns-clause-right
returns-clause-right c handle =
    let v = c.args.volume.0 in
    let fileid = c.args.directory.0 in
    let name = c.args.name.now in
    let set = set_of c.args.set.now in
    let text = c.args.text.now in
    let caller = caller_of c.args.caller.now in
    let moment = moment_of c.args.moment in
    let old = logical_before c.args.held.now in
    made-by v (symlink_call handle (Logical v) fileid name set text caller moment) old _ answers.MakeSymbolicLink
    (symlink_done v fileid name set text caller moment old)
    (c.making_calls_are_right.ensures.symlink v fileid handle name (Logical v) set text caller moment old)
    (λ made. c.making_calls_are_right.ensures.symlink_starves v fileid handle name (Logical v) set text caller moment old made.0 made.1 made.2 made.3)
    c.link_made.result c.link_made.ensures.told c.link_made.ensures.set c.link_made.ensures.would
    (on-err-then c.link_made.result (λ e. ap (λ h. logical_after c.args.held.now h) e) c.link_made.ensures.starved)
