use Rattle.std.proofs.Common.{arith, rules, ap, sym, ◌∙◌, ◌+◌, ◌≡◌, ℕ, length, take}
use Rattle.scheduler.specs.Kept.{present}
use Rattle.scheduler.proofs.Present.{count-more, count-below, used-after}
use Rattle.scheduler.proofs.cells.place_of.Goals as goal

pub loop-earlier-init : goal.loop-earlier-init
loop-earlier-init g c = (used-after c.args.messages.now c.args.start c.args.cell c.requires.vacant c.requires.there, sym (ap length c.requires.vacant))

pub overflow_add-place : goal.overflow_add-place
overflow_add-place g c =
    let xs = c.args.messages.now in
    let more = count-more xs c.loop-earlier.earlier c.loop-earlier.place c.index-messages-earlier.result c.is_some.result (search rules)
    c.index-messages-earlier.is c.is_some.ensures c.loop-earlier.invariant.1 in
    let byte = c.from-place.ensures in
    let below = count-below xs (c.loop-earlier.earlier + 1) in
    let test = c.loop-earlier-test.true in
    let fits = c.ranges.cell.fits in
    omega (arith, more, byte, below, test, fits)

pub loop-earlier-preserved : goal.loop-earlier-preserved
loop-earlier-preserved g c = (
  search rules,
  ap (λ (z : ℕ). c.loop-earlier.place + z) c.from-place.ensures
      ∙ count-more c.args.messages.now c.loop-earlier.earlier c.loop-earlier.place c.index-messages-earlier.result c.is_some.result (search rules)
      c.index-messages-earlier.is c.is_some.ensures c.loop-earlier.invariant.1,
)

pub returns : goal.returns
returns g c =
    let low = c.loop-earlier.invariant.0 in
    let high = c.loop-earlier-test.false in
    let at : c.loop-earlier.earlier ≡ c.args.cell = omega (arith, low, high) in
    c.loop-earlier.invariant.1 ∙ ap (λ (z : ℕ). length (present (take z c.args.messages.now))) at
