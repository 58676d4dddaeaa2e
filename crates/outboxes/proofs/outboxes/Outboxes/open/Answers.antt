use Rattle.std.proofs.Common.{refl}
use Rattle.outboxes.specs.Tables.{boxes_of}
use Rattle.outboxes.proofs.Opening.{full-by-count, not-full, neither-opened, neither-refused, of-lane-after}
use Rattle.outboxes.proofs.Tables.{fresh, none-opened, opens, rises}
use Rattle.outboxes.proofs.outboxes.Outboxes.open.Goals as goal

pub invariant_of-self : goal.invariant_of-self
invariant_of-self c = (
  none-opened c.self.inside.next c.self.inside.by_number c.open.new.self c.self.invariant.0 c.self.inside.step c.self.invariant.1.0 c.in-Ok.ensures.ok,
  c.self.invariant.1,
)

pub returns-then-len-self-clause-full : goal.returns-then-len-self-clause-full
returns-then-len-self-clause-full c =
    rw (← c.self.view_is) (
      (λ _. full-by-count c.self.inside.most c.self.inside.next c.self.inside.step c.self.inside.by_number
          c.len.result c.len.ensures c.if-len-self.true),
      λ _. refl,
    )

pub returns-in-Err-clause-full : goal.returns-in-Err-clause-full
returns-in-Err-clause-full c =
    rw (← c.self.view_is)
    (neither-refused (boxes_of c.self.inside.most c.self.inside.next c.self.inside.step c.self.inside.by_number)
    _ refl
    (not-full c.self.inside.most c.self.inside.next c.self.inside.step c.self.inside.by_number
    c.len.result c.len.ensures c.if-len-self.false
    c.if-number-ge-MOST_NUMBERS.false))

pub returns-in-Ok-clause-ok : goal.returns-in-Ok-clause-ok
returns-in-Ok-clause-ok c =
    rw (← c.self.view_is)
    (opens c.self.inside.most c.self.inside.next c.self.inside.step c.self.inside.by_number c.open.new.self c.in-Ok.ensures.ok)

pub returns-in-Ok-clause-full : goal.returns-in-Ok-clause-full
returns-in-Ok-clause-full c =
    rw (← c.self.view_is)
    (neither-opened (boxes_of c.self.inside.most c.self.inside.next c.self.inside.step c.self.inside.by_number) _
    (not-full c.self.inside.most c.self.inside.next c.self.inside.step c.self.inside.by_number
    c.len.result c.len.ensures c.if-len-self.false
    c.if-number-ge-MOST_NUMBERS.false))

pub returns-then-len-self-clause-fresh : goal.returns-then-len-self-clause-fresh
returns-then-len-self-clause-fresh c = rw (← c.self.view_is) (fresh c.self.inside.next c.self.inside.by_number c.self.invariant.0)

pub returns-then-number-ge-MOST_NUMBERS-clause-fresh : goal.returns-then-number-ge-MOST_NUMBERS-clause-fresh
returns-then-number-ge-MOST_NUMBERS-clause-fresh c = rw (← c.self.view_is) (fresh c.self.inside.next c.self.inside.by_number c.self.invariant.0)

pub returns-in-Ok-clause-fresh : goal.returns-in-Ok-clause-fresh
returns-in-Ok-clause-fresh c = rw (← c.self.view_is) (fresh c.self.inside.next c.self.inside.by_number c.self.invariant.0)

pub returns-in-Err-clause-fresh : goal.returns-in-Err-clause-fresh
returns-in-Err-clause-fresh c = rw (← c.self.view_is) (fresh c.self.inside.next c.self.inside.by_number c.self.invariant.0)

pub returns-then-len-self-clause-rises : goal.returns-then-len-self-clause-rises
returns-then-len-self-clause-rises c = rw (← c.self.view_is) (rises c.self.inside.next c.self.inside.step c.self.invariant.1.0)

pub returns-then-number-ge-MOST_NUMBERS-clause-rises : goal.returns-then-number-ge-MOST_NUMBERS-clause-rises
returns-then-number-ge-MOST_NUMBERS-clause-rises c = rw (← c.self.view_is) (rises c.self.inside.next c.self.inside.step c.self.invariant.1.0)

pub returns-in-Ok-clause-rises : goal.returns-in-Ok-clause-rises
returns-in-Ok-clause-rises c = rw (← c.self.view_is) (rises c.self.inside.next c.self.inside.step c.self.invariant.1.0)

pub returns-in-Err-clause-rises : goal.returns-in-Err-clause-rises
returns-in-Err-clause-rises c = rw (← c.self.view_is) (rises c.self.inside.next c.self.inside.step c.self.invariant.1.0)

pub returns-in-Ok-clause-lane : goal.returns-in-Ok-clause-lane
returns-in-Ok-clause-lane c =
    rw (← c.self.view_is) (λ lane lanes of. (of.1, (of.0, of-lane-after c.self.inside.next c.self.inside.step lane lanes of.0 of.1)))
