use Rattle.std.proofs.Common.{sym, ap, ◌∙◌, rules}
use Rattle.std.specs.FinMap.{len}
use Rattle.std.specs.Option.{option_map}
use Rattle.nfs_model.specs.volume.Maps.{changed_at}
use Rattle.nfs_model.specs.volume.Inodes.{settled_inode}
use Rattle.nfs_values.specs.Moment.{moment_of}
use Rattle.chunk_maps.specs.Maps.{values_of}
use Rattle.chunk_maps.specs.MapLaws.{changed-values, len-changed}
use Rattle.inodes.proofs.table.Table.settle.Goals as goal

pub invariant_of-self : goal.invariant_of-self
invariant_of-self c =
    let g = settled_inode (option_map moment_of c.args.touch) in
    c.self.invariant
    ∙ sym (ap (λ m. len m) (changed-values g c.args.fileid.0 c.self.inside.chunks c.change.new.self
    (c.change.ensures.changed g (λ x y made. search rules)))
    ∙ len-changed g c.args.fileid.0 (values_of c.self.inside.chunks))

pub returns : goal.returns
returns c =
    let g = settled_inode (option_map moment_of c.args.touch) in
    changed-values g c.args.fileid.0 c.self.inside.chunks c.change.new.self (c.change.ensures.changed g (λ x y made. search rules))
    ∙ ap (changed_at g c.args.fileid.0) c.self.view_is
