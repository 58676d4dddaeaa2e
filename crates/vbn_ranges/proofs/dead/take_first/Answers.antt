use Rattle.std.proofs.Common.{◌∙◌, ap, sym, subst, length, add-one, arith}
use Rattle.vbn_ranges.specs.Dead.{AreNumbered}
use Rattle.vbn_ranges.proofs.DeadTaken.{taken-here, numbered-here, nothing-here, nothing-taken, empty-list}
use Rattle.vbn_ranges.proofs.dead.take_first.Goals as goal

pub returns-then-not-is_empty-clause-batch : goal.returns-then-not-is_empty-clause-batch
returns-then-not-is_empty-clause-batch c =
    (taken-here c.requires.numbered.0 c.args.most c.loop-i.i c.loop-i.ranges c.args.ranges.now
    _ c.take_counted-batch.new.self _ c.loop-i.invariant.same c.requires.numbered.1
    c.loop-i.invariant.empty (omega arith) c.take_counted-batch.ensures.batch c.take_counted-batch.ensures.left
    (sym c.is_empty.ensures ∙ c.if-not-is_empty.true)).batch

pub returns-then-not-is_empty-clause-left : goal.returns-then-not-is_empty-clause-left
returns-then-not-is_empty-clause-left c =
    (taken-here c.requires.numbered.0 c.args.most c.loop-i.i c.loop-i.ranges c.args.ranges.now
    _ c.take_counted-batch.new.self _ c.loop-i.invariant.same c.requires.numbered.1
    c.loop-i.invariant.empty (omega arith) c.take_counted-batch.ensures.batch c.take_counted-batch.ensures.left
    (sym c.is_empty.ensures ∙ c.if-not-is_empty.true)).left

pub returns-then-not-is_empty-clause-numbered : goal.returns-then-not-is_empty-clause-numbered
returns-then-not-is_empty-clause-numbered c size numbered =
    numbered-here size c.args.most c.loop-i.i c.loop-i.ranges c.args.ranges.now _ c.take_counted-batch.new.self c.loop-i.invariant.same numbered
    (omega arith) c.take_counted-batch.ensures.left

pub loop-i-preserved : goal.loop-i-preserved
loop-i-preserved c =
    let ranges = c.loop-i.ranges in
    let stays = nothing-here c.args.most c.loop-i.i ranges _ c.take_counted-batch.new.self _ c.loop-i.invariant.empty (omega arith)
    c.take_counted-batch.ensures.batch
    c.take_counted-batch.ensures.left
    (sym c.is_empty.ensures ∙ c.if-not-is_empty.false) in
    record {
      same = stays.0 ∙ c.loop-i.invariant.same;
      empty = rw (stays.0, add-one) stays.1;
      looked =
          let none = ap length (empty-list c.take_counted-batch.result.0 (sym c.is_empty.ensures ∙ c.if-not-is_empty.false)) in
          let giving = c.take_counted-batch.ensures.giving in
          let looks = c.take_counted-batch.ensures.looked in
          let before = c.loop-i.invariant.looked in
          omega (arith, none, giving, looks, before);
    }

pub returns-clause-batch : goal.returns-clause-batch
returns-clause-batch c =
    c.new.ensures ∙ (nothing-taken c.args.most c.loop-i.i c.loop-i.ranges c.args.ranges.now c.loop-i.invariant.same c.loop-i.invariant.empty (omega arith)).0

pub returns-clause-left : goal.returns-clause-left
returns-clause-left c =
    (nothing-taken c.args.most c.loop-i.i c.loop-i.ranges c.args.ranges.now c.loop-i.invariant.same c.loop-i.invariant.empty (omega arith)).1

pub returns-clause-numbered : goal.returns-clause-numbered
returns-clause-numbered c size numbered = subst (AreNumbered size 0) (sym c.loop-i.invariant.same) numbered
