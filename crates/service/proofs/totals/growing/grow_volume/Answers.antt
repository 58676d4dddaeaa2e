use Rattle.std.proofs.Common.{◌*◌, ◌∙◌, ap}
use Rattle.nfs_model.specs.volume.Logical.{LogicalValue}
use Rattle.service.proofs.totals.Grown.{volume-grows}
use Rattle.service.proofs.totals.growing.grow_volume.Goals as goal

pub returns : goal.returns
returns c =
    let size = c.from.ensures ∙ c.range_blocks-range_blocks.ensures.value ∙ ap (λ (l : LogicalValue). l.dead.range_blocks) c.get.ensures in
    let ranges = c.from-2.ensures in
    volume-grows c.args.spare c.args.more c.ranges_used-used.result c.args.held.now c.ranges_used-used.ensures.used c.in-None.ensures
    c.put_in_use.new.held c.put_in_use.ensures.ranges c.put_in_use.ensures.alike _ (λ j. size j * ranges j)
