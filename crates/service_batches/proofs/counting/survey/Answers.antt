use Rattle.std.proofs.Common.{◌≡◌, ℕ, ◌∙◌, ap, arith}
use Rattle.nfs_model.specs.volume.Ranges.{RangeValue}
use Rattle.filer_state.specs.state.Sets.{range_value, placed, vbn_set}
use Rattle.service_batches.specs.Counts.{counts_shown}
use Rattle.service_batches.proofs.Counted.{all-counted}
use Rattle.service_batches.proofs.Right.{survey-done}
use Rattle.service_batches.proofs.counting.survey.Goals as goal

pub returns : goal.returns
returns c =
    let held = c.args.held.now in
    let range : ℕ → RangeValue = λ r. range_value (placed held.ranges.at r) in
    let end : c.loop-range.range ≡ 16 = (let past = c.loop-range-test.false in let within = c.loop-range.auto.range-end in omega (arith, past, within)) in
    survey-done (vbn_set held) c.loop-range.counts.items
    (λ p well has. c.loop-range.invariant ∙ ap (counts_shown range) end ∙ all-counted p well range has)
