use Rattle.std.proofs.Common.{sym, ap, ◌∙◌}
use Rattle.std.specs.Ordering.{nat_cmp}
use Rattle.std.specs.FinMap.{len, len-empty}
use Rattle.nfs_model.specs.volume.Inodes as values
use Rattle.chunk_maps.specs.MapLaws.{no-values}
use Rattle.inodes.proofs.table.Table.new.Goals as goal

pub invariant_of-result : goal.invariant_of-result
invariant_of-result c = sym (ap (λ m. len m) (no-values c.new.result c.new.ensures) ∙ len-empty nat_cmp values.Inode)

pub returns : goal.returns
returns c = no-values c.new.result c.new.ensures
