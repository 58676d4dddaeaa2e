use Rattle.std.proofs.Common.{◌≡◌, ◌<◌, ◌+◌, ◌-◌, ◌/◌, length, arith}
use Rattle.nfs_values.specs.Answer.{entry_of}
use Rattle.directories.specs.Slots.{in_order}
use Rattle.directories.specs.sequences.lemmas.Parts.{has-fewer, read-there as in-part}
use Rattle.directories.proofs.Places.{below-middle, above-middle}
use Rattle.directories.proofs.Slots.{filled-at, element-at, read-there}
use Rattle.directories.proofs.Rising.{above-at, all-above}
use Rattle.directories.proofs.entries.position_after.Goals as goal

pub entry_in-requires : goal.entry_in-requires
entry_in-requires c =
    let middle = c.loop-low.low + (c.loop-low.high - c.loop-low.low) / 2 in
    let inside : middle < length c.args.order.now = omega (arith, c.loop-low.invariant, c.loop-low-test.true) in
    let part = c.narrowed-part.ensures c.args.order.now c.loop-low.invariant.part in
    let slot = in-part c.args.order.now c.loop-low.low c.loop-low.high _ _ middle c.at.result part (omega arith)
    (omega (arith, c.loop-low-test.true)) c.at.ensures in
    filled-at c.args.slots.now c.args.order.now middle c.at.result c.requires inside (read-there c.args.order.now middle c.at.result slot)

pub at-requires-clause-begins : goal.at-requires-clause-begins
at-requires-clause-begins c =
    let part = c.narrowed-part.ensures c.args.order.now c.loop-low.invariant.part in
    let begins = part.begins in omega (arith, begins)

pub at-requires-clause-ends : goal.at-requires-clause-ends
at-requires-clause-ends c =
    let part = c.narrowed-part.ensures c.args.order.now c.loop-low.invariant.part in
    let ends = part.ends in omega (arith, ends, c.loop-low-test.true)

pub loop-low-preserved-then-entry_in-cookie : goal.loop-low-preserved-then-entry_in-cookie
loop-low-preserved-then-entry_in-cookie c =
    let middle = c.loop-low.low + (c.loop-low.high - c.loop-low.low) / 2 in
    let inside : middle < length c.args.order.now = omega (arith, c.loop-low.invariant, c.loop-low-test.true) in
    let part = c.narrowed-part.ensures c.args.order.now c.loop-low.invariant.part in
    let slot = in-part c.args.order.now c.loop-low.low c.loop-low.high _ _ middle c.at.result part (omega arith)
    (omega (arith, c.loop-low-test.true)) c.at.ensures in
    let element = element-at c.args.slots.now c.args.order.now middle c.at.result (entry_of c.entry_in.result.now) inside
    (read-there c.args.order.now middle c.at.result slot) c.entry_in.ensures in
    record {
      ordered = omega (arith, c.loop-low.invariant, c.loop-low-test.true);
      part = has-fewer c.args.order.now c.loop-low.low c.loop-low.high _ _ (middle + 1) c.loop-low.high part (omega arith) (omega arith);
      within = c.loop-low.invariant.within;
      before = below-middle (in_order c.args.slots.now c.args.order.now) _ _ _ c.requires element c.if-entry_in-cookie.true;
      after = c.loop-low.invariant.after;
    }

pub loop-low-preserved : goal.loop-low-preserved
loop-low-preserved c =
    let middle = c.loop-low.low + (c.loop-low.high - c.loop-low.low) / 2 in
    let inside : middle < length c.args.order.now = omega (arith, c.loop-low.invariant, c.loop-low-test.true) in
    let part = c.narrowed-part.ensures c.args.order.now c.loop-low.invariant.part in
    let slot = in-part c.args.order.now c.loop-low.low c.loop-low.high _ _ middle c.at.result part (omega arith)
    (omega (arith, c.loop-low-test.true)) c.at.ensures in
    let element = element-at c.args.slots.now c.args.order.now middle c.at.result (entry_of c.entry_in.result.now) inside
    (read-there c.args.order.now middle c.at.result slot) c.entry_in.ensures in
    record {
      ordered = omega (arith, c.loop-low.invariant, c.loop-low-test.true);
      part = has-fewer c.args.order.now c.loop-low.low c.loop-low.high _ _ c.loop-low.low middle part (omega arith) (omega (arith, c.loop-low-test.true));
      within = omega (arith, c.loop-low.invariant, c.loop-low-test.true);
      before = c.loop-low.invariant.before;
      after = above-middle (in_order c.args.slots.now c.args.order.now) _ _ _ c.requires element c.if-entry_in-cookie.false;
    }

pub returns-then-cookie-lt-FIRST_COOKIE-clause-after : goal.returns-then-cookie-lt-FIRST_COOKIE-clause-after
returns-then-cookie-lt-FIRST_COOKIE-clause-after c =
    all-above 3 (in_order c.args.slots.now c.args.order.now) c.requires.0 c.args.cookie.0 c.requires.1 (omega arith)

pub returns-clause-after : goal.returns-clause-after
returns-clause-after c =
    let same : c.loop-low.high ≡ c.loop-low.low = omega (arith, c.loop-low.invariant, c.loop-low-test.false) in
    above-at c.args.cookie.0 c.loop-low.low (in_order c.args.slots.now c.args.order.now) c.loop-low.invariant.before (rw same at c.loop-low.invariant.after)
