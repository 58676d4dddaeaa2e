use Rattle.std.proofs.Common.{sym, None}
use Rattle.nfs_values.specs.Attributes.{kind_of}
use Rattle.nfs_values.specs.Caller.{caller_of}
use Rattle.nfs_values.specs.Moment.{moment_of}
use Rattle.nfs_values.specs.Set.{set_of}
use Rattle.nfs_values.specs.Special.{special_of}
use Rattle.filer_state.specs.state.Sets.{logical_before}
use Rattle.filer_state.specs.changes.Making.{special_inode, mknod_by}
use Rattle.service_names.specs.Making.{maker_in_parent, naming_in_parent}
use Rattle.service_names.proofs.News.{mkdir-not-full, node-made, done-makes}
use Rattle.service_names.proofs.Tying.{on-err}
use Rattle.service_names.proofs.making_new.make_special_new.Goals as goal

pub make_told-requires-clause-may : goal.make_told-requires-clause-may
make_told-requires-clause-may c =
    c.requires.may (mkdir-not-full (set_of c.args.set.now) (logical_before c.args.held.now) (sym c.in_default.ensures))

pub returns-in_err-told-clause-would : goal.returns-in_err-told-clause-would
returns-in_err-told-clause-would c =
    let n = naming_in_parent c.args.parent c.args.name.now (logical_before c.args.held.now) in
    let set = set_of c.args.set.now in
    let caller = caller_of c.args.caller.now in
    let special = special_of c.in-Some.special in
    on-err c.from_residual.result
    (done-makes n
    (special_inode special 420 set 0 (maker_in_parent c.args.caller.now c.args.parent) (moment_of c.args.parent.moment)) None
    (mknod_by n (kind_of c.args.kind) set caller None)
    (node-made n (kind_of c.args.kind) set caller special (c.in-Some.ensures n set caller) (sym c.in_default.ensures)))
