use Rattle.std.proofs.Common.{ap}
use Rattle.outboxes.specs.Boxes.{addressed, with_last}
use Rattle.outboxes.specs.Messages.{ReplyMessage}
use Rattle.outboxes.proofs.Tables.{none-changed, puts-addressed}
use Rattle.outboxes.proofs.outboxes.Outboxes.put_at_once.Goals as goal

pub invariant_of-self : goal.invariant_of-self
invariant_of-self c = (
  none-changed c.self.inside.next c.self.inside.by_number c.put.new.self c.self.invariant.0 (with_last c.write.new.link.numbered) c.args.connection.0
      c.put.ensures,
  c.self.invariant.1,
)

pub returns-clause-ok : goal.returns-clause-ok
returns-clause-ok c =
    rw (← c.self.view_is)
    (puts-addressed c.self.inside.most c.self.inside.next c.self.inside.step c.self.inside.by_number c.put.new.self c.args.connection.0 _ _
    (ap (λ (numbered : ReplyMessage). addressed c.args.connection.0 numbered) c.in_ok-write.ensures.ok.0) c.put.ensures)
