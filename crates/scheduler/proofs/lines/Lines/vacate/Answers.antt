use Rattle.std.proofs.Common.{rules}
use Rattle.scheduler.proofs.Lined.{vacate-lined}
use Rattle.scheduler.proofs.lines.Lines.vacate.Goals as goal

pub invariant_of-self : goal.invariant_of-self
invariant_of-self c =
    let s = c.self.inside in (
      vacate-lined s.cells.items s.first.items s.last.items s.next.items c.link.new.first c.end.new.last c.link.new.next c.args.queue c.args.cell
          s.first.len s.last.len s.next.len c.cell_before-before.result c.index-next.result.now (rw (← c.self.view_is) at c.requires) c.self.invariant.0
          (search rules) (search rules) (search rules) c.index-next.ensures (rw c.deref.ensures.value at c.cell_before-before.ensures)
          (rw (c.deref_mut.ensures.value, c.deref_mut-2.ensures.value) at c.link.ensures) (rw c.deref_mut-3.ensures.value at c.end.ensures),
      search rules,
      search rules,
    )
