use Rattle.std.proofs.Common.{◌≡◌, ◌∙◌, length, ap, arith}
use Rattle.depot_rule.specs.Sums.{total}
use Rattle.lanes.specs.Words.{Identity}
use Rattle.filer_lanes.specs.Lanes.{by_identity, places, seats_of, IsLaneOf}
use Rattle.tends.proofs.Lists.{all-popped, all-pushed, none-left, total-last, total-none}
use Rattle.lane_rows.proofs.closing.serve_each.Goals as goal

pub loop-lane-preserved : goal.loop-lane-preserved
loop-lane-preserved g c =
    let i = c.loop-lane.invariant in
    let x = c.in-Some.lane in
    let y = c.serve.result in
    let all = c.loop-lane.lanes.items in
    let rest = c.pop.new.self.items in
    let xs = c.loop-lane.served.items in
    let ys = c.push_reserved.new.self.items in
    let was = c.in-Some.ensures.items in
    let is = c.push_reserved.ensures.items in
    let stays = c.serve.ensures in
    let a = c.push_reserved.ensures.len in
    let b = c.push_reserved.ensures.capacity in
    let l = c.in-Some.ensures.len in
    let r = i.room in
    let n = i.len in
    record {
      room = omega (arith, a, b, l, r);
      len = omega (arith, a, l, n);
      of = λ filer h.
          let both = i.of filer h in
          let popped = all-popped (IsLaneOf filer) all rest x was both.0 in
          (popped.0, all-pushed (IsLaneOf filer) xs ys y is both.1 (stays.filer ∙ popped.1));
      seats =
          let p = total-last seats_of all rest x was in
          let q = total-last seats_of ys xs y is in
          let s = stays.seats in
          let t = i.seats in omega (arith, p, q, s, t);
      each = λ weigh.
          let p = total-last (by_identity weigh) all rest x was in
          let q = total-last (by_identity weigh) ys xs y is in
          let s = ap weigh stays.identity in
          let t = i.each weigh in omega (arith, p, q, s, t);
    }

pub returns-clause-lanes : goal.returns-clause-lanes
returns-clause-lanes g c filer are =
    let i = c.loop-lane.invariant in
    let none = none-left c.loop-lane.lanes.items (let z = c.in_default.ensures.cases.0 in let o = c.loop-lane.lanes.ok.0 in omega (arith, z, o)) in
    record {
      of = (i.of filer are.of).1;
      seats = let n = total-none seats_of c.loop-lane.lanes.items none in let s = i.seats in let t = are.seats in omega (arith, n, s, t);
      each = λ weigh.
          let n = total-none (by_identity (λ (d : Identity). weigh d.0)) c.loop-lane.lanes.items none in
          let s = i.each (λ (d : Identity). weigh d.0) in
          let t = are.each weigh in
          let z = c.in_default.ensures.cases.0 in
          let m = i.len in
          let o = c.args.lanes.ok.0 in
          let p = c.loop-lane.served.ok.0 in
          let e : length c.loop-lane.served.items ≡ length c.args.lanes.items = omega (arith, z, m, o, p) in
          let u = ap (λ k. total weigh (places k)) e in
          omega (arith, n, s, t, u);
    }
