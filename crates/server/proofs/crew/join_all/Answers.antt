use Rattle.std.proofs.Common.{◌∙◌, ap, arith}
use Rattle.depot_rule.specs.Sums.{total}
use Rattle.filer_lanes.specs.Lanes.{by_identity, seats_of, IsLaneOf}
use Rattle.server.specs.Threads.{identity_with, seats_with, ServesFor}
use Rattle.tends.proofs.Lists.{none-left}
use Rattle.tends.proofs.Handed.{handed, all-pushed, all-popped}
use Rattle.server.proofs.crew.join_all.Goals as goal

pub loop-thread-preserved : goal.loop-thread-preserved
loop-thread-preserved g c =
    let i = c.loop-thread.invariant in
    let t = c.in-Some.thread in
    let w = c.join.result in
    let all = c.loop-thread.threads.items in
    let rest = c.pop.new.self.items in
    let xs = c.loop-thread.lanes.items in
    let ys = c.push_reserved.new.self.items in
    let was = c.in-Some.ensures.items in
    let is = c.push_reserved.ensures.items in
    let heir = c.join.ensures in
    let a = c.push_reserved.ensures.len in
    let b = c.push_reserved.ensures.capacity in
    let l = c.in-Some.ensures.len in
    let r = i.room in
    let n = i.len in
    record {
      room = omega (arith, a, b, l, r);
      of = λ filer serves lanes.
          let both = i.of filer serves lanes in
          let popped = all-popped (ServesFor filer) all rest t was both.0 in
          (popped.0, all-pushed (IsLaneOf filer) xs ys w is both.1 (heir.filer ∙ popped.1));
      len = omega (arith, a, l, n);
      seats = handed seats_of seats_with xs ys all rest w t is was heir.seats ∙ i.seats;
      each = λ weigh. handed (by_identity weigh) (identity_with weigh) xs ys all rest w t is was (ap weigh heir.identity) ∙ i.each weigh;
    }

pub returns-clause-of : goal.returns-clause-of
returns-clause-of g c filer serves lanes = (c.loop-thread.invariant.of filer serves lanes).1

pub returns-clause-seats : goal.returns-clause-seats
returns-clause-seats g c =
    let none = ap (total seats_with) (none-left c.loop-thread.threads.items (let z = c.in_default.ensures.cases.0 in let o = c.loop-thread.threads.ok.0 in
    omega (arith, z, o))) in
    let s = c.loop-thread.invariant.seats in
    omega (arith, none, s)

pub returns-clause-each : goal.returns-clause-each
returns-clause-each g c weigh =
    let none =
    ap (total (identity_with weigh)) (none-left c.loop-thread.threads.items (let z = c.in_default.ensures.cases.0 in let o = c.loop-thread.threads.ok.0 in
    omega (arith, z, o))) in
    let s = c.loop-thread.invariant.each weigh in
    omega (arith, none, s)
