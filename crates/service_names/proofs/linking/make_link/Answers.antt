use Rattle.std.proofs.Common.{ap}
use Rattle.nfs_model.specs.Tree.{Logical}
use Rattle.nfs_values.specs.Moment.{moment_of}
use Rattle.filer_state.specs.changes.Laws.{link_call}
use Rattle.filer_state.specs.changes.Linking.{link_done}
use Rattle.filer_state.specs.state.Sets.{logical_before, logical_after}
use Rattle.service_names.proofs.Linked.{linked-by}
use Rattle.service_names.proofs.Tying.{on-err-then}
use Rattle.service_names.proofs.linking.make_link.Goals as goal

pub returns-clause-right : goal.returns-clause-right
returns-clause-right c handle directory =
    let v = c.args.volume.0 in
    let fileid = c.args.fileid.0 in
    let id = c.args.directory.0 in
    let name = c.args.name.now in
    let moment = moment_of c.args.moment in
    let old = logical_before c.args.held.now in
    linked-by v (link_call handle directory (Logical v) fileid id name moment) old _ (link_done v fileid id name moment old)
    (c.linking_calls_are_right.ensures.link v fileid id handle directory name (Logical v) moment old)
    (λ made. c.linking_calls_are_right.ensures.link_starves v fileid id handle directory name (Logical v) moment old made.0 made.1 made.2)
    c.link_made.result c.link_made.ensures.told c.link_made.ensures.set c.link_made.ensures.would
    (on-err-then c.link_made.result (λ e. ap (λ h. logical_after c.args.held.now h) e) c.link_made.ensures.starved)
