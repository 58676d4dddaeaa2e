use Rattle.outboxes.specs.Boxes.{with_last}
use Rattle.outboxes.proofs.Tables.{none-changed, puts-addressed}
use Rattle.outboxes.proofs.outboxes.Outboxes.put.Goals as goal

pub invariant_of-self : goal.invariant_of-self
invariant_of-self c = (
  none-changed c.self.inside.next c.self.inside.by_number c.put.new.self c.self.invariant.0 (with_last c.into_parts-link.result.1.value.numbered)
      c.into_parts-link.result.0.0 c.put.ensures,
  c.self.invariant.1,
)

pub returns : goal.returns
returns c =
    rw (← c.self.view_is)
    (puts-addressed c.self.inside.most c.self.inside.next c.self.inside.step c.self.inside.by_number c.put.new.self c.into_parts-link.result.0.0
    c.into_parts-link.result.1.value.numbered c.args.reply c.into_parts-link.ensures.is c.put.ensures)
