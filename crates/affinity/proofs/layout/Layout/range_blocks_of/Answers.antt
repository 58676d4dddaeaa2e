use Rattle.std.proofs.Common.{◌≡◌, ap, sym, subst}
use Rattle.nfs_model.specs.Tree.{range_blocks_in, range_blocks_of}
use Rattle.nfs_model.specs.volume.Ranges.{IsRangeSize}
use Rattle.affinity.specs.Layout.{layout_of}
use Rattle.affinity.specs.lemmas.Lawful.{range_blocks_size}
use Rattle.affinity.proofs.layout.Layout.range_blocks_of.Goals as goal

pub returns-in-Some-clause-size : goal.returns-in-Some-clause-size
returns-in-Some-clause-size c =
    let same : c.in-Some.specification.range_blocks ≡ range_blocks_of (layout_of c.args.self.now) c.args.volume =
    ap range_blocks_in c.in-Some.ensures in
    subst IsRangeSize (sym same) (range_blocks_size (layout_of c.args.self.now) c.args.volume c.args.self.now.lawful)
