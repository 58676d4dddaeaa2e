use Rattle.std.proofs.Common.{subst, sym, false}
use Rattle.nfs_model.specs.volume.Ranges.{IsRange}
use Rattle.vbn_ranges.specs.Marks.{MarksValue, range_value}
use Rattle.vbn_ranges.proofs.Ranged.{unused-is}
use Rattle.vbn_ranges.proofs.range.Range.new.Goals as goal

pub invariant_of-result : goal.invariant_of-result
invariant_of-result c =
    subst (λ (m : MarksValue). IsRange (range_value false m)) (sym c.in_ok-none.ensures)
    (unused-is c.args.range_blocks c.args.number c.requires.size)
