use Rattle.std.proofs.Common.{◌<◌, ◌≤◌, length, arith, refl}
use Rattle.std.proofs.lemmas.List.{length-map}
use Rattle.affinity.specs.Affinity.{affinity_of}
use Rattle.affinity.specs.Layout.{layout_of}
use Rattle.desk.specs.laws.lemmas.Taken.{taken-here, none-more, none-taken}
use Rattle.desk.specs.Slots.{granted, all_granted, shown}
use Rattle.desk.proofs.Slots.{told-there}
use Rattle.desk.proofs.taken.is_taken.Goals as goal

pub returns-then-is_excluded : goal.returns-then-is_excluded
returns-then-is_excluded g c =
    let L = layout_of c.args.layout.now in let gs = all_granted c.args.slots.now in
    let below = c.loop-worker-test.true in let all = length-map c.args.slots.now granted in
    let room : c.loop-worker.worker < length gs = omega (arith, below, all) in (
      λ e. taken-here shown L gs (affinity_of c.args.affinity) c.loop-worker.worker (granted c.index-slots-worker.result) c.is_excluded.result room
          (told-there granted c.args.slots.now c.loop-worker.worker c.index-slots-worker.result c.index-slots-worker.is) c.is_excluded.ensures
          c.if-is_excluded.true,
      λ taken. refl,
    )

pub loop-worker-preserved : goal.loop-worker-preserved
loop-worker-preserved g c =
    let L = layout_of c.args.layout.now in let gs = all_granted c.args.slots.now in
    let below = c.loop-worker-test.true in let all = length-map c.args.slots.now granted in
    let room : c.loop-worker.worker < length gs = omega (arith, below, all) in
    none-more shown L gs (affinity_of c.args.affinity) c.loop-worker.worker (granted c.index-slots-worker.result) c.is_excluded.result room
    (told-there granted c.args.slots.now c.loop-worker.worker c.index-slots-worker.result c.index-slots-worker.is) c.is_excluded.ensures
    c.if-is_excluded.false c.loop-worker.invariant

pub returns : goal.returns
returns g c =
    let L = layout_of c.args.layout.now in let gs = all_granted c.args.slots.now in
    let over = c.loop-worker-test.false in let all = length-map c.args.slots.now granted in
    let most : length gs ≤ c.loop-worker.worker = omega (arith, over, all) in (
      λ e. absurd (cc),
      λ taken. absurd (none-taken shown L gs (affinity_of c.args.affinity) c.loop-worker.worker most c.loop-worker.invariant taken),
    )
