use Rattle.std.proofs.Common.{sym, None}
use Rattle.nfs_values.specs.Moment.{moment_of}
use Rattle.nfs_values.specs.Set.{set_of}
use Rattle.filer_state.specs.state.Sets.{logical_before}
use Rattle.filer_state.specs.changes.Making.{mkdir_check, made_directory_inode}
use Rattle.service_names.specs.Making.{maker_in_parent, naming_in_parent}
use Rattle.service_names.proofs.News.{would-make, mkdir-not-full}
use Rattle.service_names.proofs.Tying.{on-err}
use Rattle.service_names.proofs.making_new.make_new.Goals as goal

pub make_told-requires-clause-may : goal.make_told-requires-clause-may
make_told-requires-clause-may c =
    c.requires.may (mkdir-not-full (set_of c.args.set.now) (logical_before c.args.held.now) (sym c.in_default.ensures))

pub returns-in_err-told-clause-would : goal.returns-in_err-told-clause-would
returns-in_err-told-clause-would c =
    let set = logical_before c.args.held.now in
    on-err c.from_residual.result
    (would-make (mkdir_check (set_of c.args.set.now) set) (naming_in_parent c.args.parent c.args.name.now set)
    (made_directory_inode c.args.parent.fileid.0 (set_of c.args.set.now) (maker_in_parent c.args.caller.now c.args.parent) (moment_of c.args.parent.moment)) None
    (sym c.in_default.ensures))
