use Rattle.std.proofs.Common.{◌≡◌, length, refl, rules, arith}
use Rattle.service.proofs.totals.Placed.{one-more, all-alike, all-in-use}
use Rattle.service.proofs.totals.ranges.put_in_use.Goals as goal

pub loop-range-preserved : goal.loop-range-preserved
loop-range-preserved c =
    let few = c.requires.few in
    let long : length c.loop-range.held.ranges.at ≡ 16 = search rules in
    one-more c.args.held.now c.loop-range.held c.loop-range.range c.loop-range.invariant
    _ _ _ (let below = c.loop-range-test.true in omega (arith, few, long, below)) refl c.put_place_in_use.ensures

pub returns-clause-ranges : goal.returns-clause-ranges
returns-clause-ranges c =
    all-in-use c.args.held.now c.loop-range.held c.loop-range.range c.loop-range.invariant c.requires.there c.args.count
    (let past = c.loop-range-test.false in omega (arith, past)) c.requires.few

pub returns-clause-alike : goal.returns-clause-alike
returns-clause-alike c = all-alike c.args.held.now c.loop-range.held c.loop-range.range c.loop-range.invariant
