use Rattle.std.proofs.Common.{drop}
use Rattle.outboxes.proofs.Tables.{none-changed, takes}
use Rattle.outboxes.proofs.outboxes.Outboxes.take.Goals as goal

pub invariant_of-self : goal.invariant_of-self
invariant_of-self c = (
  none-changed c.self.inside.next c.self.inside.by_number c.take.new.self c.self.invariant.0 (λ ms. drop 1 ms) c.args.connection.0
      c.take.ensures.rest,
  c.self.invariant.1,
)

pub returns-clause-record : goal.returns-clause-record
returns-clause-record c = rw (← c.self.view_is) c.take.ensures.record

pub returns-clause-rest : goal.returns-clause-rest
returns-clause-rest c =
    rw (← c.self.view_is)
    (takes c.self.inside.most c.self.inside.next c.self.inside.step c.self.inside.by_number c.take.new.self c.args.connection.0 c.take.ensures.rest)
