use Rattle.std.proofs.Common.{◌≡◌, [], ◌∷◌, length, refl, rules, arith}
use Rattle.nfs_model.specs.volume.Ranges.{taken}
use Rattle.service_data.proofs.Parted.{step-leaves, step-alike, step-none, all-none}
use Rattle.service_data.proofs.parts.take_free.Goals as goal

pub returns-in-Some-clause-leaves : goal.returns-in-Some-clause-leaves
returns-in-Some-clause-leaves c =
    let long : length c.loop-range.held.ranges.at ≡ 16 = search rules in
    step-leaves c.args.held.now c.loop-range.held c.loop-range.invariant.0 long c.loop-range.range (let less = c.loop-range-test.true in omega arith)
    _ _ _ refl c.in-Some.number.0 c.in-Some.ensures.there c.in-Some.ensures.filled

pub returns-in-Some-clause-alike : goal.returns-in-Some-clause-alike
returns-in-Some-clause-alike c =
    let long : length c.loop-range.held.ranges.at ≡ 16 = search rules in
    step-alike c.args.held.now c.loop-range.held c.loop-range.invariant.0 long c.loop-range.range (let less = c.loop-range-test.true in omega arith)
    _ _ _ refl (taken (c.in-Some.number.0 ∷ [])) c.in-Some.ensures.left

pub loop-range-preserved : goal.loop-range-preserved
loop-range-preserved c =
    let long : length c.loop-range.held.ranges.at ≡ 16 = search rules in
    step-none c.args.held.now c.loop-range.held c.loop-range.invariant.0 long c.loop-range.range (let less = c.loop-range-test.true in omega arith)
    _ _ _ refl c.in_default.ensures.kept c.loop-range.invariant.1 c.in_default.ensures.none

pub returns-clause-none : goal.returns-clause-none
returns-clause-none c = λ k less.
    all-none c.args.held.now c.loop-range.range (let past = c.loop-range-test.false in omega arith) c.loop-range.invariant.1 k less
