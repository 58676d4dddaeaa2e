use Rattle.std.proofs.Common.{rules, refl}
use Rattle.scheduler.proofs.Lined.{cleared}
use Rattle.scheduler.proofs.lines.Lines.new.Goals as goal

pub invariant_of-result : goal.invariant_of-result
invariant_of-result c = (
  rw (c.in_ok-with_capacity.ensures.items, c.in_ok-with_capacity-2.ensures.items)
      (cleared 283 283 c.in_ok-vec.field-0.items c.in_ok-vec-2.field-0.items refl refl
      (c.in_ok-vec.ensures.items_if_clones_equal (search rules)) (c.in_ok-vec-2.ensures.items_if_clones_equal (search rules))),
  search rules,
  search rules,
)
