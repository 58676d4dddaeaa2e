use Rattle.std.proofs.Common.{rules, ap, arith}
use Rattle.depot_rule.specs.Sums.{total}
use Rattle.depot_rule.specs.lemmas.Sums.{total-append}
use Rattle.filer_state.specs.state.Jobs.{batches_in}
use Rattle.std.specs.Prelude.{option_to_list}
use Rattle.granted_calls.specs.shared_waiting.Passes.{known}
use Rattle.granted_calls.specs.Balance.{by_key}
use Rattle.turns.specs.Words.{seats_in, IsIn}
use Rattle.tends.specs.Shares.{carried_by, kept_by}
use Rattle.tends.proofs.Joins.{kept-once}
use Rattle.tends.proofs.Lists.{all-popped, none-left, total-last}
use Rattle.tends.proofs.Sharing.{share-worker, none-more}
use Rattle.tends.proofs.joining.join_all.Goals as goal

pub join-gathered-requires-clause-inside : goal.join-gathered-requires-clause-inside
join-gathered-requires-clause-inside c =
    (all-popped (IsIn c.args.filer.now) c.loop-worker.workers.items c.pop.new.self.items c.in-Some.worker c.in-Some.ensures.items
    c.loop-worker.invariant.each).1

pub loop-worker-preserved : goal.loop-worker-preserved
loop-worker-preserved c =
    let i = c.loop-worker.invariant in
    let x = c.in-Some.worker in
    let is = c.in-Some.ensures.items in
    let all = c.loop-worker.workers.items in
    let rest = c.pop.new.self.items in
    let e = c.join-gathered.ensures in
    let l = c.in-Some.ensures.len in
    record {
      inside = e.inside;
      each = (all-popped (IsIn c.args.filer.now) all rest x is i.each).0;
      hands_room = let a = e.room.0 in let b = e.len.0 in let r = i.hands_room in omega (arith, a, b, l, r);
      kept_room = let a = e.room.1 in let b = e.len.1 in let r = i.kept_room in omega (arith, a, b, l, r);
      seats = let a = total-last seats_in all rest x is in let b = e.seats in let s = i.seats in omega (arith, a, b, s);
      share = λ passes given. share-worker (known c.loop-worker.gathered.pass) (known c.join-gathered.result.pass) x all rest passes is e.pass
          (i.share passes given);
      hands = λ weigh.
          let a = total-last (carried_by weigh) all rest x is in
          let b = ap (total weigh) e.hands in
          let d = total-append weigh c.loop-worker.gathered.hands.items (batches_in x.hand) in
          let s = i.hands weigh in
          omega (arith, a, b, d, s);
      kept = λ weight.
          let a = total-last (kept_by weight) all rest x is in
          let b = ap (total (by_key weight)) e.kept in
          let d = total-append (by_key weight) c.loop-worker.gathered.kept.items (option_to_list x.kept) in
          let k = kept-once weight x.kept in
          let s = i.kept weight in
          omega (arith, a, b, d, k, s);
    }

pub returns-clause-share : goal.returns-clause-share
returns-clause-share c passes given =
    none-more (known c.loop-worker.gathered.pass) c.loop-worker.workers.items passes (none-left c.loop-worker.workers.items (search rules))
    (c.loop-worker.invariant.share passes given)

pub returns-clause-seats : goal.returns-clause-seats
returns-clause-seats c =
    let none = ap (total seats_in) (none-left c.loop-worker.workers.items (search rules)) in
    let s = c.loop-worker.invariant.seats in
    omega (arith, none, s)

pub returns-clause-hands : goal.returns-clause-hands
returns-clause-hands c weigh =
    let none = ap (total (carried_by weigh)) (none-left c.loop-worker.workers.items (search rules)) in
    let s = c.loop-worker.invariant.hands weigh in
    omega (arith, none, s)

pub returns-clause-kept : goal.returns-clause-kept
returns-clause-kept c weight =
    let none = ap (total (kept_by weight)) (none-left c.loop-worker.workers.items (search rules)) in
    let s = c.loop-worker.invariant.kept weight in
    omega (arith, none, s)
