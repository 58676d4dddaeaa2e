-- The finite map of a `BTreeMap`'s entries.
use Rattle.std.specs.Ordering.{nat_cmp}
use Rattle.std.specs.Cmp.{IsTotalOrder, nat_cmp_total}
use Rattle.std.specs.FinMap.{IsAntisymmetric}
use Rattle.std.proofs.lemmas.Cmp.{on_total, then_total}
use Rattle.std.proofs.lemmas.Map.Lookups.{exact_pairs, exact_unsigned}
use Rattle.nfs_model.specs.volume.Stripes.{FileBlock, file_block_cmp}

-- places are ordered
pub place_total : IsTotalOrder file_block_cmp
place_total = then_total (on_total (λ (p : FileBlock). p.0) nat_cmp_total) (on_total (λ (p : FileBlock). p.1) nat_cmp_total)

pub place_same : IsAntisymmetric file_block_cmp
place_same = exact_pairs nat_cmp nat_cmp exact_unsigned exact_unsigned
