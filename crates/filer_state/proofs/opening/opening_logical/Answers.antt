use Rattle.std.proofs.Common.{◌∙◌}
use Rattle.nfs_model.specs.Tree.{range_blocks_of, stripes_of}
use Rattle.nfs_values.specs.Moment.{moment_of}
use Rattle.nfs_values.specs.Ownership.{ownership_of}
use Rattle.affinity.specs.Largest.{begun_of, inodes_of, largest_of, remembered_of, root_of, steps_of}
use Rattle.affinity.specs.Layout.{layout_of}
use Rattle.filer_state.proofs.Begun.{if_ok, logical-begun}
use Rattle.filer_state.proofs.opening.opening_logical.Goals as goal

pub returns : goal.returns
returns c =
    let L = layout_of c.args.layout.now in
    let v = c.args.volume in
    if_ok (λ parcel is. is
    ∙ logical-begun c.args.verifier.0 (stripes_of L v) (largest_of L v) (inodes_of L v) (steps_of L v) (root_of L v) (begun_of L v)
    (range_blocks_of L v) (remembered_of L v)
    c.stripes_of.result c.largest_of.result c.inodes_of.result c.steps_of.result c.range_blocks_of.result c.stripes_of.ensures.stripes
    c.largest_of.ensures.largest c.inodes_of.ensures.inodes c.steps_of.ensures c.range_blocks_of.ensures.blocks
    (ownership_of c.root_of.result) c.root_of.ensures (moment_of c.begun_of.result) c.begun_of.ensures
    c.in_ok-new.field-0 c.new-directories.result _ c.new.result c.new-3.result c.new-4.result c.in_ok-new-2.field-0 c.remembered_of.result c.remembered_of.ensures
    c.in_ok-new-3.field-0 c.in_ok-new-3.ensures.memos c.in_ok-new.ensures
    c.new-directories.ensures c.new.ensures c.in_ok-insert.ensures.ok c.new-3.ensures c.new-4.ensures c.in_ok-new-2.ensures) c.new-7.result
    c.new-7.ensures
