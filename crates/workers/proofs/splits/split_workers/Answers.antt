use Rattle.std.proofs.Common.{rules, ap, arith}
use Rattle.granted_calls.specs.Balance.{Passed}
use Rattle.turns.specs.Words.{passed, seats_in, IsIn}
use Rattle.depot_rule.specs.Sums.{total}
use Rattle.tends.specs.Shares.{entries_by, picks_by, puts_by, share_of}
use Rattle.tends.proofs.Lists.{all-pushed, total-last}
use Rattle.tends.proofs.Sharing.{halved}
use Rattle.workers.proofs.splits.split_workers.Goals as goal

pub loop-preserved : goal.loop-preserved
loop-preserved c =
    let i = c.loop.invariant in
    let s = c.split-first in
    let pushed = c.push_reserved.ensures.items in
    let ws = c.loop.into.items in
    let more = c.push_reserved.new.self.items in
    let h = ap (λ (v : Passed). v.halvings) s.ensures.passes.0 in
    let n = c.push_reserved.ensures.len in
    record {
      inside = s.ensures.first;
      each = all-pushed (IsIn c.args.filer.now) ws more s.result.1 pushed i.each s.ensures.second;
      len = let b = i.len in omega (arith, n, b);
      room = let a = c.push_reserved.ensures.capacity in let b = i.room in omega (arith, a, b);
      seats =
          let a = total-last seats_in more ws s.result.1 pushed in
          let p = s.ensures.seats.0 in
          let q = s.ensures.seats.1 in
          let d = i.seats in
          omega (arith, a, p, q, d);
      left = let p = s.ensures.seats.0 in let d = i.left in omega (arith, n, p, d);
      halvings = let j = i.halvings in omega (arith, h, j, n);
      share = λ k le.
          let j = i.halvings in
          let a = halved k (passed c.loop.worker) ws more s.result.0 s.result.1 s.ensures.passes.0 s.ensures.passes.1 pushed
          (omega (arith, j, le, n)) in
          let b = i.share k (omega (arith, le, n)) in
          omega (arith, a, b);
      entries = λ weigh.
          let a = total-last (entries_by weigh) more ws s.result.1 pushed in
          let p = ap (total weigh) s.ensures.entries.0 in
          let q = ap (total weigh) s.ensures.entries.1 in
          let d = i.entries weigh in
          omega (arith, a, p, q, d);
      put = λ weigh.
          let a = total-last (puts_by weigh) more ws s.result.1 pushed in
          let p = ap (λ (v : Passed). total weigh v.put) s.ensures.passes.0 in
          let q = ap (λ (v : Passed). total weigh v.put) s.ensures.passes.1 in
          let d = i.put weigh in
          omega (arith, a, p, q, d);
      picked = λ weigh.
          let a = total-last (picks_by weigh) more ws s.result.1 pushed in
          let p = ap (λ (v : Passed). total weigh v.picked) s.ensures.passes.0 in
          let q = ap (λ (v : Passed). total weigh v.picked) s.ensures.passes.1 in
          let d = i.picked weigh in
          omega (arith, a, p, q, d);
    }

pub returns-clause-inside : goal.returns-clause-inside
returns-clause-inside c =
    let i = c.loop.invariant in
    all-pushed (IsIn c.args.filer.now) c.loop.into.items c.push_reserved-2.new.self.items c.loop.worker c.push_reserved-2.ensures.items
    i.each i.inside

pub returns-clause-seats : goal.returns-clause-seats
returns-clause-seats c =
    let a = total-last seats_in c.push_reserved-2.new.self.items c.loop.into.items c.loop.worker c.push_reserved-2.ensures.items in
    let d = c.loop.invariant.seats in
    omega (arith, a, d)

pub returns-clause-share : goal.returns-clause-share
returns-clause-share c k le =
    let i = c.loop.invariant in
    let a = total-last (share_of k) c.push_reserved-2.new.self.items c.loop.into.items c.loop.worker c.push_reserved-2.ensures.items in
    let b = i.share k (search rules) in
    omega (arith, a, b)

pub returns-clause-entries : goal.returns-clause-entries
returns-clause-entries c weigh =
    let a = total-last (entries_by weigh) c.push_reserved-2.new.self.items c.loop.into.items c.loop.worker c.push_reserved-2.ensures.items in
    let d = c.loop.invariant.entries weigh in
    omega (arith, a, d)

pub returns-clause-put : goal.returns-clause-put
returns-clause-put c weigh =
    let a = total-last (puts_by weigh) c.push_reserved-2.new.self.items c.loop.into.items c.loop.worker c.push_reserved-2.ensures.items in
    let d = c.loop.invariant.put weigh in
    omega (arith, a, d)

pub returns-clause-picked : goal.returns-clause-picked
returns-clause-picked c weigh =
    let a = total-last (picks_by weigh) c.push_reserved-2.new.self.items c.loop.into.items c.loop.worker c.push_reserved-2.ensures.items in
    let d = c.loop.invariant.picked weigh in
    omega (arith, a, d)
