use Rattle.std.proofs.Common.{◌∙◌, ap, sym, None}
use Rattle.nfs_model.specs.Types.{SetAttributes}
use Rattle.nfs_model.specs.Serial.Create.{asked_attributes}
use Rattle.nfs_values.specs.Moment.{moment_of}
use Rattle.nfs_values.specs.Set.{mode_of}
use Rattle.inodes.specs.Inode.{inode_value}
use Rattle.filer_state.specs.state.Sets.{logical_before, logical_after}
use Rattle.filer_state.specs.changes.Making.{create_check, file_inode}
use Rattle.service_names.specs.Making.{maker_in_parent, naming_in_parent}
use Rattle.service_names.proofs.News.{would-make, create-not-full, new-set}
use Rattle.service_names.proofs.Tying.{on-err}
use Rattle.service_names.proofs.making_new.create_new.Goals as goal

pub make_told-requires-clause-may : goal.make_told-requires-clause-may
make_told-requires-clause-may c =
    let set = logical_before c.args.held.now in
    c.requires.may (create-not-full (asked_attributes (mode_of c.args.mode.now)) set
    (ap (λ (a : SetAttributes). create_check a set) (sym c.asked_attributes.ensures) ∙ sym c.in_default.ensures))

pub returns-in_err-told-clause-would : goal.returns-in_err-told-clause-would
returns-in_err-told-clause-would c =
    let set = logical_before c.args.held.now in
    on-err c.from_residual.result
    (would-make (create_check (asked_attributes (mode_of c.args.mode.now)) set) (naming_in_parent c.args.parent c.args.name.now set)
    (file_inode (mode_of c.args.mode.now) (maker_in_parent c.args.caller.now c.args.parent) (moment_of c.args.parent.moment)) None
    (ap (λ (a : SetAttributes). create_check a set) (sym c.asked_attributes.ensures) ∙ sym c.in_default.ensures))

pub returns-clause-set : goal.returns-clause-set
returns-clause-set c =
    let set = logical_before c.args.held.now in
    new-set (create_check (asked_attributes (mode_of c.args.mode.now)) set) (naming_in_parent c.args.parent c.args.name.now set)
    (inode_value c.file_inode-made.result)
    (file_inode (mode_of c.args.mode.now) (maker_in_parent c.args.caller.now c.args.parent) (moment_of c.args.parent.moment)) None
    (logical_after c.args.held.now c.make_told.new.held)
    (ap (λ (a : SetAttributes). create_check a set) (sym c.asked_attributes.ensures) ∙ sym c.in_default.ensures)
    c.file_inode-made.ensures c.in_ok-told.ensures.set
