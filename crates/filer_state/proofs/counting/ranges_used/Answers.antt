use Rattle.std.proofs.Common.{◌≡◌, length, rules, arith}
use Rattle.filer_state.specs.state.Sets.{range_value, placed, vbn_set}
use Rattle.filer_state.specs.state.Tree.{ranges_used}
use Rattle.filer_state.proofs.Counted.{used-all, used-more}
use Rattle.filer_state.proofs.counting.ranges_used.Goals as goal

pub loop-range-preserved : goal.loop-range-preserved
loop-range-preserved c =
    let long : length c.args.held.now.ranges.at ≡ 16 = search rules in
    used-more c.args.held.now.ranges.at (ranges_used (vbn_set c.args.held.now)) c.loop-range.range
    (let less = c.loop-range-test.true in omega arith) _ c.loop-range.used c.used_in-used.result c.loop-range.invariant
    c.used_in-used.ensures.value c.used_in-used.ensures.few

pub returns-clause-used : goal.returns-clause-used
returns-clause-used c =
    used-all (λ r. range_value (placed c.args.held.now.ranges.at r)) (ranges_used (vbn_set c.args.held.now)) c.loop-range.range c.loop-range.used
    c.loop-range.invariant (let past = c.loop-range-test.false in omega arith) (search rules)
