use Rattle.outboxes.proofs.Tables.{none-shut, shuts}
use Rattle.outboxes.proofs.outboxes.Outboxes.shut.Goals as goal

pub invariant_of-self : goal.invariant_of-self
invariant_of-self c = (
  none-shut c.self.inside.next c.self.inside.by_number c.shut.new.self c.self.invariant.0 c.args.connection.0 c.shut.ensures,
  c.self.invariant.1,
)

pub returns : goal.returns
returns c =
    rw (← c.self.view_is)
    (shuts c.self.inside.most c.self.inside.next c.self.inside.step c.self.inside.by_number c.shut.new.self c.args.connection.0 c.shut.ensures)
