use Rattle.std.proofs.Common.{◌≡◌, length, rules, arith}
use Rattle.filer_state.specs.state.Contents.{each}
use Rattle.filer_state.specs.state.Sets.{range_value, placed}
use Rattle.filer_state.specs.bytes.WritingUp.{free_count}
use Rattle.service_data.proofs.Counted.{free-first, free-more, free-all}
use Rattle.service_data.proofs.counting.count_free.Goals as goal

pub loop-range-init : goal.loop-range-init
loop-range-init c = free-first (λ r. range_value (placed c.args.held.now.ranges.at r))

pub loop-range-preserved : goal.loop-range-preserved
loop-range-preserved c =
    let long : length c.args.held.now.ranges.at ≡ 16 = search rules in
    free-more c.args.held.now.ranges.at (free_count (each (λ r. range_value (placed c.args.held.now.ranges.at r)) 0 16)) c.loop-range.range
    (let less = c.loop-range-test.true in omega (arith, less, long)) _ c.loop-range.free c.free_in-free.result c.loop-range.invariant
    c.free_in-free.ensures.value c.free_in-free.ensures.few

pub returns : goal.returns
returns c =
    free-all (λ r. range_value (placed c.args.held.now.ranges.at r)) (free_count (each (λ r. range_value (placed c.args.held.now.ranges.at r)) 0 16))
    c.loop-range.range c.loop-range.free c.loop-range.invariant (let past = c.loop-range-test.false in omega (arith, past)) c.loop-range.auto.range-end
