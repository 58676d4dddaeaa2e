use Rattle.std.proofs.Common.{sym, ap, ◌∙◌, rules}
use Rattle.std.specs.FinMap.{get, len}
use Rattle.nfs_model.specs.volume.Maps.{changed_at}
use Rattle.chunk_maps.specs.Maps.{values_of}
use Rattle.inodes.specs.Inode.{inode_value}
use Rattle.chunk_maps.specs.MapLaws.{get-values_of, changed-values, len-changed}
use Rattle.inodes.proofs.table.Table.replace.Goals as goal

pub invariant_of-self : goal.invariant_of-self
invariant_of-self c =
    c.self.invariant
    ∙ sym (ap (λ m. len m) (changed-values (λ _. inode_value c.args.inode) c.args.fileid.0 c.self.inside.chunks c.change.new.self
    (c.change.ensures.changed (λ _. inode_value c.args.inode) (λ x y made. search rules)))
    ∙ len-changed (λ _. inode_value c.args.inode) c.args.fileid.0 (values_of c.self.inside.chunks))

pub returns-clause-old : goal.returns-clause-old
returns-clause-old c =
    c.change.ensures.old ∙ sym (get-values_of c.self.inside.chunks c.args.fileid.0) ∙ ap (λ m. get m c.args.fileid.0) c.self.view_is

pub returns-clause-replaced : goal.returns-clause-replaced
returns-clause-replaced c =
    changed-values (λ _. inode_value c.args.inode) c.args.fileid.0 c.self.inside.chunks c.change.new.self
    (c.change.ensures.changed (λ _. inode_value c.args.inode) (λ x y made. search rules))
    ∙ ap (changed_at (λ _. inode_value c.args.inode) c.args.fileid.0) c.self.view_is
