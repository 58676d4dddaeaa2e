use Rattle.std.proofs.Common.{◌∙◌, ap, subst, sym, true}
use Rattle.nfs_model.specs.volume.Ranges.{IsRange, put_in_use}
use Rattle.vbn_ranges.specs.Marks.{MarksValue, range_value}
use Rattle.vbn_ranges.proofs.Ranged.{free-is, comes-in-use}
use Rattle.vbn_ranges.proofs.range.Range.put_in_use.Goals as goal

pub invariant_of-self : goal.invariant_of-self
invariant_of-self c =
    subst (λ (m : MarksValue). IsRange (range_value true m)) (sym c.fill.ensures)
    (free-is c.self.inside.free.range_blocks c.self.inside.free.range c.self.invariant.size)

pub returns-then-not-self : goal.returns-then-not-self
returns-then-not-self c =
    ap (λ (m : MarksValue). range_value true m) c.fill.ensures
    ∙ comes-in-use c.self.inside.free c.self.inside.is_used c.if-not-self.true
    ∙ ap put_in_use c.self.view_is
