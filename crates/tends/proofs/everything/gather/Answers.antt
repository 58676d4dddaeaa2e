use Rattle.std.proofs.Common.{◌≤◌, ap, arith}
use Rattle.depot_rule.specs.Sums.{total}
use Rattle.granted_calls.specs.shared_waiting.Passes.{known}
use Rattle.turns.specs.declared.worker.Worker.{Worker}
use Rattle.granted_calls.specs.Balance.{by_key}
use Rattle.turns.specs.Words.{seats_in, IsIn}
use Rattle.tends.specs.Shares.{carried_by, kept_by}
use Rattle.tends.proofs.Joins.{kept-once}
use Rattle.tends.proofs.Lists.{all-popped, as-many, total-last}
use Rattle.tends.proofs.Sharing.{with-first}
use Rattle.tends.proofs.everything.gather.Goals as goal

pub join_all-seat-requires-clause-inside : goal.join_all-seat-requires-clause-inside
join_all-seat-requires-clause-inside g c =
    (all-popped (IsIn c.args.filer.now) c.args.workers.items c.pop.new.self.items c.in-Some.worker c.in-Some.ensures.items c.requires.workers).0

pub join_all-seat-requires-clause-room : goal.join_all-seat-requires-clause-room
join_all-seat-requires-clause-room g c =
    let many = as-many seats_in (λ (w : Worker). let o : 1 ≤ seats_in w = omega arith in o) c.args.workers.items in
    let all = c.requires.seats in
    let n = c.args.workers.ok.0 in
    let l = c.in-Some.ensures.len in
    let e = c.begin-first.ensures in
    let l0 = e.len.0 in
    let l1 = e.len.1 in
    let r0 = e.room.0 in
    let r1 = e.room.1 in
    let w0 = c.args.room.wide.0 in
    let w1 = c.args.room.wide.1 in
    (omega (arith, many, all, n, l, l0, r0, w0), omega (arith, many, all, n, l, l1, r1, w1))

pub drain-waiting-requires-clause-whole : goal.drain-waiting-requires-clause-whole
drain-waiting-requires-clause-whole g c =
    c.join_passes-pass.ensures.share
    (c.join_all-seat.ensures.share c.args.passes.items
    (with-first (known c.begin-first.result.pass) c.in-Some.worker c.args.workers.items c.pop.new.self.items c.args.passes.items
    c.in-Some.ensures.items c.begin-first.ensures.pass c.requires.whole))

pub returns-clause-left : goal.returns-clause-left
returns-clause-left g c =
    let e = c.join_all-seat.ensures in
    record {
      seat = e.inside.seat;
      opened = e.inside.opened;
      only =
          let s = total-last seats_in c.args.workers.items c.pop.new.self.items c.in-Some.worker c.in-Some.ensures.items in
          let a = c.requires.seats in
          let b = c.begin-first.ensures.seats in
          let d = e.seats in
          omega (arith, s, a, b, d);
      none_open = c.join_all-seat.result.none_open;
      hands = c.join_all-seat.result.in_hand;
    }

pub returns-clause-hands : goal.returns-clause-hands
returns-clause-hands g c weigh =
    let s = total-last (carried_by weigh) c.args.workers.items c.pop.new.self.items c.in-Some.worker c.in-Some.ensures.items in
    let a = c.join_all-seat.ensures.hands weigh in
    let b = ap (total weigh) c.begin-first.ensures.hands in
    omega (arith, s, a, b)

pub returns-clause-kept : goal.returns-clause-kept
returns-clause-kept g c weight =
    let s = total-last (kept_by weight) c.args.workers.items c.pop.new.self.items c.in-Some.worker c.in-Some.ensures.items in
    let a = c.join_all-seat.ensures.kept weight in
    let b = ap (total (by_key weight)) c.begin-first.ensures.kept in
    let k = kept-once weight c.in-Some.worker.kept in
    omega (arith, s, a, b, k)
