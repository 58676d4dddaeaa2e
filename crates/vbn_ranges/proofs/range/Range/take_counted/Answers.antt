use Rattle.std.proofs.Common.{subst, sym}
use Rattle.nfs_model.specs.volume.Ranges.{IsRange}
use Rattle.vbn_ranges.specs.Marks.{MarksValue, range_value}
use Rattle.vbn_ranges.proofs.Ranged.{taken-is}
use Rattle.vbn_ranges.proofs.range.Range.take_counted.Goals as goal

pub invariant_of-self : goal.invariant_of-self
invariant_of-self c =
    subst (λ (m : MarksValue). IsRange (range_value c.self.inside.is_used m)) (sym c.take_counted.ensures.left)
    (taken-is _ _ c.self.invariant)
