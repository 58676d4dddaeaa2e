use Rattle.std.proofs.Common.{◌≡◌, ℕ, List, ◌+◌, ◌-◌, subst, arith, length, take, drop}
use Rattle.std.specs.Prelude.{Option, Some, None}
use Rattle.engine_feed.specs.declared.stop.Stop.{Stop}
use Rattle.engine_feed.specs.Sound.{TakesIn}
use Rattle.engine_feed.specs.Words.{FeedsSome}
use Rattle.engine_feed.proofs.Loops.{none-taken, stays-same, stays-then, goes-on, stops, all-taken, the-rest, rest-length}
use Rattle.engine_feed.proofs.feeding.take_all.Goals as goal

pub loop-taken-init : goal.loop-taken-init
loop-taken-init c =
    let whole : length c.args.bytes.now ≡ length c.args.bytes.now - 0 = omega arith in
    record {
      within = omega arith;
      all = none-taken c.args.offer c.args.calls.now c.args.connection.now c.args.number.0;
      stays = stays-same c.args.calls.now c.args.connection.now c.args.number.0 c.requires.connection c.requires.calls;
      taking = subst (TakesIn c.args.connection.now) whole c.requires.taking;
    }

pub returns-in-Some-clause-feeds : goal.returns-in-Some-clause-feeds
returns-in-Some-clause-feeds c =
    let l = c.loop-taken in
    let i = l.invariant in
    let t = c.take_some-count in
    let n = c.args.number.0 in
    let some = subst (λ (o : Option Stop). FeedsSome c.args.offer l.calls l.connection n (take (length c.args.bytes.now - l.taken) (drop l.taken
    c.args.bytes.now))
    t.result.0 o t.new.calls t.new.connection) c.in-Some.is t.ensures.feeds in
    stops c.args.offer c.args.calls.now l.calls t.new.calls c.args.connection.now l.connection t.new.connection n c.args.bytes.now l.taken t.result.0
    c.in-Some.stop
    i.stays i.all i.within (subst (λ (bs : List ℕ). FeedsSome c.args.offer l.calls l.connection n bs t.result.0 (Some c.in-Some.stop) t.new.calls
    t.new.connection)
    (the-rest c.args.bytes.now l.taken) some)

pub returns-in-Some-clause-stays : goal.returns-in-Some-clause-stays
returns-in-Some-clause-stays c =
    let l = c.loop-taken in
    let t = c.take_some-count in
    stays-then c.args.calls.now l.calls t.new.calls c.args.connection.now l.connection t.new.connection c.args.number.0 l.invariant.stays t.ensures.stays

pub loop-taken-preserved : goal.loop-taken-preserved
loop-taken-preserved c =
    let l = c.loop-taken in
    let i = l.invariant in
    let t = c.take_some-count in
    let n = c.args.number.0 in
    let bytes = c.args.bytes.now in
    let size = rest-length bytes l.taken in
    let none = subst (λ (o : Option Stop). FeedsSome c.args.offer l.calls l.connection n (take (length bytes - l.taken) (drop l.taken bytes))
    t.result.0 o t.new.calls t.new.connection) c.in_default.is t.ensures.feeds in
    let left : length (take (length bytes - l.taken) (drop l.taken bytes)) - t.result.0 ≡ length bytes - (l.taken + t.result.0) = omega (arith, size) in
    record {
      within = omega (arith, size, t.ensures.within, i.within);
      all =
          goes-on c.args.offer c.args.calls.now l.calls t.new.calls c.args.connection.now l.connection t.new.connection n bytes l.taken t.result.0 i.stays i.all
          (subst (λ (bs : List ℕ). FeedsSome c.args.offer l.calls l.connection n bs t.result.0 None t.new.calls t.new.connection) (the-rest bytes l.taken)
          none);
      stays = stays-then c.args.calls.now l.calls t.new.calls c.args.connection.now l.connection t.new.connection n i.stays t.ensures.stays;
      taking = subst (TakesIn t.new.connection) left (t.ensures.goes_on c.in_default.is).1;
    }

pub returns-clause-feeds : goal.returns-clause-feeds
returns-clause-feeds c setup w k p =
    let l = c.loop-taken in
    all-taken c.args.offer setup w c.args.calls.now l.calls c.args.connection.now l.connection c.args.number.0 c.args.bytes.now l.taken
    (omega (arith, l.invariant.within, c.loop-taken-test.false)) l.invariant.all k p
