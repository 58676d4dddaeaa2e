use Rattle.std.proofs.Common.{rules}
use Rattle.scheduler.proofs.Lined.{cleared}
use Rattle.scheduler.proofs.lines.Lines.clear.Goals as goal

pub invariant_of-self : goal.invariant_of-self
invariant_of-self c =
    let s = c.self.inside in
    let r = c.self.invariant.0 in (
      rw (c.clear.ensures.items, c.clear-2.ensures.items) (cleared s.first.len s.last.len c.fill.new.self.items c.fill-2.new.self.items (search rules)
          (search rules)
          (c.fill.ensures.items (search rules)) (c.fill-2.ensures.items (search rules))),
      search rules,
      search rules,
    )
