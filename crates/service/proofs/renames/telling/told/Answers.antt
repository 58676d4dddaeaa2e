use Rattle.std.proofs.Common.{ap, sym, subst, ◌∙◌}
use Rattle.std.specs.FinMap.{get}
use Rattle.nfs_model.specs.Types.{RenameDone}
use Rattle.nfs_values.specs.Moment.{moment_of}
use Rattle.nfs_model.specs.volume.Inodes.{Inode}
use Rattle.inodes.specs.Inode.{inode_value}
use Rattle.service_names.specs.NamedChanges.{directory_change}
use Rattle.service_names.specs.Naming.{naming_of}
use Rattle.service.specs.renames.Renaming.{IsWithin}
use Rattle.service.proofs.renames.Few.{within-now}
use Rattle.service.proofs.renames.telling.told.Goals as goal

pub directory_change-requires-clause-after : goal.directory_change-requires-clause-after
directory_change-requires-clause-after c =
    (subst (λ (i : Inode). IsWithin i.kind) (sym c.directory_now-from.ensures)
    (within-now (get c.args.held.now.own.inodes.inodes c.args.between.from.fileid.0) (inode_value c.args.between.from.inode)
    (c.requires.now c.args.between.from.fileid.0) c.requires.from)).links

pub directory_change-requires-2-clause-after : goal.directory_change-requires-2-clause-after
directory_change-requires-2-clause-after c =
    (subst (λ (i : Inode). IsWithin i.kind) (sym c.directory_now-to.ensures)
    (within-now (get c.args.held.now.own.inodes.inodes c.args.between.to.fileid.0) (inode_value c.args.between.to.inode)
    (c.requires.now c.args.between.to.fileid.0) c.requires.to)).links

pub returns : goal.returns
returns c = λ from_name to_name s.
    let b = c.args.between in
    let moment = moment_of b.moment in
    let from = naming_of b.volume.0 b.from from_name moment s in
    let to = naming_of b.volume.0 b.to to_name moment s in
    let from_is = c.directory_change.ensures from_name moment s ∙ ap (directory_change from) c.directory_now-from.ensures in
    let to_is = c.directory_change-2.ensures to_name moment s ∙ ap (directory_change to) c.directory_now-to.ensures in
    λ j. RenameDone (from_is j) (to_is j)
