use Rattle.std.proofs.Common.{sym, None, length}
use Rattle.nfs_model.specs.Types.{SymbolicLink}
use Rattle.nfs_values.specs.Caller.{caller_of}
use Rattle.nfs_values.specs.Moment.{moment_of}
use Rattle.nfs_values.specs.Set.{set_of}
use Rattle.filer_state.specs.state.Sets.{logical_before}
use Rattle.filer_state.specs.changes.Making.{special_inode, symlink_by}
use Rattle.service_names.specs.Changing.{text_given}
use Rattle.service_names.specs.Making.{maker_in_parent, naming_in_parent}
use Rattle.service_names.proofs.News.{mkdir-not-full, link-made, done-makes}
use Rattle.service_names.proofs.Tying.{on-err}
use Rattle.service_names.proofs.making_new.make_link_new.Goals as goal

pub make_told-requires-clause-may : goal.make_told-requires-clause-may
make_told-requires-clause-may c =
    c.requires.may (mkdir-not-full (set_of c.args.set.now) (logical_before c.args.held.now) (sym c.in_default-mkdir_fault.ensures))

pub returns-in_err-told-clause-would : goal.returns-in_err-told-clause-would
returns-in_err-told-clause-would c =
    let n = naming_in_parent c.args.parent c.args.name.now (logical_before c.args.held.now) in
    let set = set_of c.args.set.now in
    let text = c.args.text.now in
    let caller = caller_of c.args.caller.now in
    on-err c.from_residual.result
    (done-makes n
    (special_inode SymbolicLink 511 set (length text) (maker_in_parent c.args.caller.now c.args.parent) (moment_of c.args.parent.moment)) (text_given text)
    (symlink_by n set text caller None)
    (link-made n set text caller (sym c.in_default.ensures) (sym c.in_default-mkdir_fault.ensures)))
