use Rattle.std.proofs.Common.{ap, ◌∙◌, refl, arith}
use Rattle.depot_rule.specs.Sums.{total}
use Rattle.filer_lanes.specs.Lanes.{by_identity, seats_of, IsLaneOf}
use Rattle.server.specs.Threads.{identity_for, seats_for, IsTaskFor}
use Rattle.tends.proofs.Handed.{handed, all-pushed, all-popped}
use Rattle.tends.proofs.Lists.{none-left}
use Rattle.server.proofs.running.man_all.Goals as goal

pub loop-lane-preserved : goal.loop-lane-preserved
loop-lane-preserved g c =
    let i = c.loop-lane.invariant in
    let x = c.in-Some.lane in
    let all = c.loop-lane.lanes.items in
    let rest = c.pop.new.self.items in
    let ts = c.loop-lane.tasks.items in
    let us = c.push_reserved-in-Some.new.self.items in
    let was = c.in-Some.ensures.items in
    let is = c.push_reserved-in-Some.ensures.items in
    let a = c.push_reserved-in-Some.ensures.len in
    let b = c.push_reserved-in-Some.ensures.capacity in
    let d = c.push_reserved.ensures.len in
    let e = c.push_reserved.ensures.capacity in
    let l = c.in-Some.ensures.len in
    let m = c.in-Some.ensures.capacity in
    let r = i.task_room in
    let q = i.box_room in
    let n = i.len in
    record {
      task_room = omega (arith, a, b, l, r);
      box_room = omega (arith, d, e, l, q);
      room = m ∙ i.room;
      len = omega (arith, a, l, n);
      of = λ filer lanes tasks.
          let both = i.of filer lanes tasks in
          let popped = all-popped (IsLaneOf filer) all rest x was both.0 in
          (popped.0, all-pushed (IsTaskFor filer) ts us _ is both.1 popped.1);
      seats = handed seats_for seats_of ts us all rest _ x is was refl ∙ i.seats;
      each = λ weigh. handed (identity_for weigh) (by_identity weigh) ts us all rest _ x is was refl ∙ i.each weigh;
    }

pub returns-in_err-common-clause-of : goal.returns-in_err-common-clause-of
returns-in_err-common-clause-of g c filer lanes tasks = (c.loop-lane.invariant.of filer lanes tasks).1

pub returns-in-Err-clause-of : goal.returns-in-Err-clause-of
returns-in-Err-clause-of g c filer lanes tasks = (c.loop-lane.invariant.of filer lanes tasks).1

pub returns-in_err-try_clone-clause-of : goal.returns-in_err-try_clone-clause-of
returns-in_err-try_clone-clause-of g c filer lanes tasks = (c.loop-lane.invariant.of filer lanes tasks).1

pub returns-clause-of : goal.returns-clause-of
returns-clause-of g c filer lanes tasks = (c.loop-lane.invariant.of filer lanes tasks).1

pub returns-clause-seats : goal.returns-clause-seats
returns-clause-seats g c =
    let none = ap (total seats_of)
    (none-left c.loop-lane.lanes.items (let z = c.in_default.ensures.cases.0 in let o = c.loop-lane.lanes.ok.0 in omega (arith, z, o))) in
    let s = c.loop-lane.invariant.seats in
    omega (arith, none, s)

pub returns-clause-each : goal.returns-clause-each
returns-clause-each g c weigh =
    let none = ap (total (by_identity weigh))
    (none-left c.loop-lane.lanes.items (let z = c.in_default.ensures.cases.0 in let o = c.loop-lane.lanes.ok.0 in omega (arith, z, o))) in
    let s = c.loop-lane.invariant.each weigh in
    omega (arith, none, s)
