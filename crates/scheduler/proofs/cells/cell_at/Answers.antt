use Rattle.std.proofs.Common.{arith, rules, ap, ◌∙◌, sym, length}
use Rattle.std.proofs.lemmas.List.{take_all}
use Rattle.scheduler.specs.Kept.{present}
use Rattle.scheduler.proofs.Present.{count-some, none-more, message-at}
use Rattle.scheduler.proofs.cells.cell_at.Goals as goal
use Rattle.scheduler.proofs.cells.cell_at.Goals.{then-is_some+else-left-eq0, else-is_some}

pub loop-cell-preserved : goal.loop-cell-preserved
loop-cell-preserved g c =
    let xs = c.args.messages.now in
    let r = c.index-messages-cell.result in
    let before = c.loop-cell.invariant in
    elim c.if-is_some.branch [
      | then-is_some+else-left-eq0 w ↦
          let more = count-some xs c.loop-cell.cell r (search rules) c.index-messages-cell.is (sym c.is_some.ensures ∙ w.if-is_some.true) in
          let left = w.left-is in
          let some = w.if-left-eq0.false in
          omega (arith, before, more, left, some)
      | else-is_some w ↦
          let more = ap length (none-more xs c.loop-cell.cell r (search rules) c.index-messages-cell.is (sym c.is_some.ensures ∙ w.if-is_some.false)) in
          let left = w.left-is in
          omega (arith, before, more, left)
    ]

pub returns-then-left-eq0-clause-there : goal.returns-then-left-eq0-clause-there
returns-then-left-eq0-clause-there g c =
    message-at c.args.messages.now c.loop-cell.cell c.index-messages-cell.result (search rules) c.index-messages-cell.is
    (sym c.is_some.ensures ∙ c.if-is_some.true)

pub unreachable-requires : goal.unreachable-requires
unreachable-requires g c =
    let over = c.loop-cell-test.false in
    let counted = c.loop-cell.invariant in
    let whole = ap (λ xs. length (present xs)) (take_all c.loop-cell.cell c.args.messages.now over) in
    let place = c.requires.place in
    omega (arith, counted, whole, place)
