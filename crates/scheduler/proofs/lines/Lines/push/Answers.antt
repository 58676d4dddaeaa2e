use Rattle.std.proofs.Common.{rules}
use Rattle.scheduler.proofs.Lined.{push-lined}
use Rattle.scheduler.proofs.lines.Lines.push.Goals as goal

pub invariant_of-self : goal.invariant_of-self
invariant_of-self c =
    let s = c.self.inside in (
      push-lined s.cells.items s.first.items s.last.items s.next.items c.link.new.first c.link.new.next c.push_reserved-2.new.self.items
          c.push_reserved.new.self.items c.args.queue c.len-cell.result s.first.len s.next.len c.index-before.result.now c.requires.queue c.self.invariant.0
          (search rules) (search rules) (search rules) c.index-before.ensures
          (rw (c.deref_mut.ensures.value, c.deref_mut-2.ensures.value) at c.link.ensures) c.push_reserved-2.ensures.items c.push_reserved.ensures.items,
      search rules,
      search rules,
    )
