use Rattle.std.proofs.Common.{◌≡◌, sym, ◌∙◌, ◌+◌, ◌-◌, ◌/◌, ◌≤◌, length, arith}
use Rattle.directories.specs.sequences.lemmas.Parts.{has-fewer, read-there}
use Rattle.directories.proofs.Halved.{digit-less, few-digits, fewer-digits}
use Rattle.directories.proofs.Middle.{less-middle, greater-middle, equal-middle, one-more}
use Rattle.directories.specs.Hash.{name_hash}
use Rattle.directories.specs.Index.{cookies, name_under}
use Rattle.directories.proofs.Orders.{all-at}
use Rattle.directories.proofs.Found.{known-here}
use Rattle.directories.proofs.Spots.{cookie-at}
use Rattle.directories.proofs.search.find_between.Goals as goal

pub loop-low-init : goal.loop-low-init
loop-low-init c =
    let around = c.narrow_at-around-3.ensures.around in
    let ordered = around.ordered in
    let within = around.within in
    let low = c.narrow_at-around-3.result.low in
    let high = c.narrow_at-around-3.result.high in
    let inside : high - low ≤ c.args.bounds.high - c.args.bounds.low =
    omega (arith, c.narrow_at-around.ensures.inside, c.narrow_at-around-2.ensures.inside, c.narrow_at-around-3.ensures.inside) in
    record {
      ordered = ordered;
      part = has-fewer c.args.index.now 0 (length c.args.index.now) _ _ low high c.part-part.ensures (omega arith) within;
      within = within;
      before = around.before c.args.entries.now.list c.args.name.now c.requires.index.sorted c.requires.hashed (sym c.requires.hash);
      after = around.after c.args.entries.now.list c.args.name.now c.requires.index.sorted c.requires.hashed (sym c.requires.hash);
      counted = let fewer = fewer-digits (high - low) (c.args.bounds.high - c.args.bounds.low) inside in omega (arith, fewer);
    }

pub compare-requires-clause-there : goal.compare-requires-clause-there
compare-requires-clause-there c =
    let middle = c.loop-low.low + (c.loop-low.high - c.loop-low.low) / 2 in
    let part = c.narrowed-part.ensures c.args.index.now c.loop-low.invariant.part in
    let spot = read-there c.args.index.now c.loop-low.low c.loop-low.high _ _ middle c.at.result part (omega arith)
    (omega (arith, c.loop-low-test.true)) c.at.ensures in
    known-here c.args.entries.now.list (cookies c.args.index.now) middle c.at.result.cookie c.requires.index
    (cookie-at c.args.index.now middle c.at.result spot)

pub compare-requires-clause-hashed : goal.compare-requires-clause-hashed
compare-requires-clause-hashed c =
    let middle = c.loop-low.low + (c.loop-low.high - c.loop-low.low) / 2 in
    let part = c.narrowed-part.ensures c.args.index.now c.loop-low.invariant.part in
    let spot = read-there c.args.index.now c.loop-low.low c.loop-low.high _ _ middle c.at.result part (omega arith)
    (omega (arith, c.loop-low-test.true)) c.at.ensures in
    all-at (λ s. s.hash ≡ name_hash (name_under c.args.entries.now.list s.cookie)) c.args.index.now middle c.at.result c.requires.hashed spot

pub at-requires-clause-begins : goal.at-requires-clause-begins
at-requires-clause-begins c =
    let part = c.narrowed-part.ensures c.args.index.now c.loop-low.invariant.part in
    let begins = part.begins in omega (arith, begins)

pub at-requires-clause-ends : goal.at-requires-clause-ends
at-requires-clause-ends c =
    let part = c.narrowed-part.ensures c.args.index.now c.loop-low.invariant.part in
    let ends = part.ends in omega (arith, ends, c.loop-low-test.true)

pub overflow_add-compared : goal.overflow_add-compared
overflow_add-compared c =
    let more = digit-less 0 (c.loop-low.high - c.loop-low.low) (omega (arith, c.loop-low-test.true)) (omega arith) in
    let few = few-digits (c.args.bounds.high - c.args.bounds.low) in
    let within = c.requires.around.within in
    omega (arith, c.loop-low.invariant, more, few, within)

pub loop-low-preserved-in-Less : goal.loop-low-preserved-in-Less
loop-low-preserved-in-Less c =
    let middle = c.loop-low.low + (c.loop-low.high - c.loop-low.low) / 2 in
    let part = c.narrowed-part.ensures c.args.index.now c.loop-low.invariant.part in
    let spot = read-there c.args.index.now c.loop-low.low c.loop-low.high _ _ middle c.at.result part (omega arith)
    (omega (arith, c.loop-low-test.true)) c.at.ensures in
    let there = cookie-at c.args.index.now middle c.at.result spot in
    record {
      ordered = omega (arith, c.loop-low.invariant, c.loop-low-test.true);
      part = has-fewer c.args.index.now c.loop-low.low c.loop-low.high _ _ (middle + 1) c.loop-low.high part (omega arith) (omega arith);
      within = c.loop-low.invariant.within;
      before =
          less-middle c.args.entries.now.list (cookies c.args.index.now) c.args.name.now middle c.at.result.cookie c.requires.index.sorted there
          (sym c.compare.ensures ∙ c.in-Less.is);
      after = c.loop-low.invariant.after;
      counted =
          one-more c.loop-low.compared (c.loop-low.high - c.loop-low.low) _ _ (omega (arith, c.loop-low-test.true))
          (omega (arith, c.loop-low-test.true)) c.loop-low.invariant.counted;
    }

pub loop-low-preserved : goal.loop-low-preserved
loop-low-preserved c =
    let middle = c.loop-low.low + (c.loop-low.high - c.loop-low.low) / 2 in
    let part = c.narrowed-part.ensures c.args.index.now c.loop-low.invariant.part in
    let spot = read-there c.args.index.now c.loop-low.low c.loop-low.high _ _ middle c.at.result part (omega arith)
    (omega (arith, c.loop-low-test.true)) c.at.ensures in
    let there = cookie-at c.args.index.now middle c.at.result spot in
    record {
      ordered = omega (arith, c.loop-low.invariant, c.loop-low-test.true);
      part = has-fewer c.args.index.now c.loop-low.low c.loop-low.high _ _ c.loop-low.low middle part (omega arith) (omega (arith, c.loop-low-test.true));
      within = omega (arith, c.loop-low.invariant, c.loop-low-test.true);
      before = c.loop-low.invariant.before;
      after = greater-middle c.args.entries.now.list (cookies c.args.index.now) c.args.name.now middle c.at.result.cookie c.requires.index.sorted there
          (sym c.compare.ensures ∙ c.in-Greater.is);
      counted =
          one-more c.loop-low.compared (c.loop-low.high - c.loop-low.low) _ _ (omega (arith, c.loop-low-test.true))
          (omega (arith, c.loop-low-test.true)) c.loop-low.invariant.counted;
    }

pub returns-in-Equal-clause-there : goal.returns-in-Equal-clause-there
returns-in-Equal-clause-there c =
    let middle = c.loop-low.low + (c.loop-low.high - c.loop-low.low) / 2 in
    let part = c.narrowed-part.ensures c.args.index.now c.loop-low.invariant.part in
    let spot = read-there c.args.index.now c.loop-low.low c.loop-low.high _ _ middle c.at.result part (omega arith)
    (omega (arith, c.loop-low-test.true)) c.at.ensures in
    let there = cookie-at c.args.index.now middle c.at.result spot in
    λ _. equal-middle c.args.entries.now.list (cookies c.args.index.now) c.args.name.now middle c.at.result.cookie there (sym c.compare.ensures ∙ c.in-Equal.is)

pub returns-in-Equal-clause-compared : goal.returns-in-Equal-clause-compared
returns-in-Equal-clause-compared c =
    let more = one-more c.loop-low.compared (c.loop-low.high - c.loop-low.low) 0 _ (omega (arith, c.loop-low-test.true))
    (omega arith) c.loop-low.invariant.counted in
    omega (arith, more)
