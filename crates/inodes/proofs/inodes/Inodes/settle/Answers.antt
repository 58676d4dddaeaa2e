use Rattle.std.specs.Option.{option_map}
use Rattle.nfs_values.specs.Moment.{moment_of}
use Rattle.nfs_model.specs.volume.lemmas.Inodes.{settled-is}
use Rattle.inodes.specs.Inode.{inodes_value}
use Rattle.inodes.proofs.Changes.{kept, settled}
use Rattle.inodes.proofs.Few.{kept-few, settled-few}
use Rattle.inodes.proofs.inodes.Inodes.settle.Goals as goal

pub invariant_of-self : goal.invariant_of-self
invariant_of-self c =
    let old = inodes_value c.self.inside.next c.self.inside.used c.self.inside.by_fileid in
    let touch = option_map moment_of c.args.touch in
    let is = settled c.self.inside.next c.self.inside.used c.self.inside.by_fileid c.settle.new.self c.args.fileid.0 touch
    c.settle.ensures in
    (kept _ _ is (settled-is old c.args.fileid.0 touch c.self.invariant.0), kept-few _ _ is (settled-few old c.args.fileid.0 touch c.self.invariant.1))

pub returns : goal.returns
returns c =
    rw (← c.self.view_is)
    (settled c.self.inside.next c.self.inside.used c.self.inside.by_fileid c.settle.new.self c.args.fileid.0
    (option_map moment_of c.args.touch) c.settle.ensures)
