use Rattle.std.proofs.Common.{◌≡◌, ◌≤◌, None, replicate, ap, ◌∙◌, rules, arith, subst}
use Rattle.desk.specs.Slots.{granted, all_granted}
use Rattle.desk.proofs.Slots.{one-idle}
use Rattle.desk.proofs.opening.idle_slots.Goals as goal

pub loop-done-preserved : goal.loop-done-preserved
loop-done-preserved g c =
    ap all_granted c.in_ok-push.ensures.items
    ∙ one-idle granted c.loop-done.slots.items c.idle_slot.result c.loop-done._done c.loop-done.invariant c.idle_slot.ensures

pub returns : goal.returns
returns g c =
    let over = c.loop-done-test.false in
    let most : c.loop-done._done ≤ c.args.count = search rules in
    let all : c.loop-done._done ≡ c.args.count = omega (arith, over, most) in
    subst (λ n. all_granted c.loop-done.slots.items ≡ replicate n None) all c.loop-done.invariant
