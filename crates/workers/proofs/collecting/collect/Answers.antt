use Rattle.std.proofs.Common.{rules, ◌∙◌, ◌+◌, ap, arith, subst}
use Rattle.depot_rule.specs.Sums.{total}
use Rattle.tends.specs.Shares.{share_of}
use Rattle.workers.specs.Threads.{lent_share_with, seats_with, share_with, started_with, PutsInto, ServesIn}
use Rattle.tends.proofs.Handed.{handed, all-pushed, all-popped}
use Rattle.workers.proofs.Heirs.{same-share}
use Rattle.workers.proofs.Lending.{lent-both, lent-same}
use Rattle.tends.proofs.Lists.{none-left, total-last}
use Rattle.granted_calls.specs.declared.shared.Filer.{Filer}
use Rattle.granted_calls.specs.declared.shared_outboxes.SharedOutboxes.{SharedOutboxes}
use Rattle.granted_calls.specs.SharedOutboxes.{IsOf}
use Rattle.turns.specs.Words.{seats_in, IsIn}
use Rattle.granted_calls.specs.shared_waiting.Passes.{known}
use Rattle.workers.proofs.collecting.collect.Goals as goal

pub join_pass-pass-requires : goal.join_pass-pass-requires
join_pass-pass-requires g c =
    let i = c.loop-thread.invariant in
    let popped = all-popped (PutsInto c.args.outboxes.now) c.loop-thread.threads.items c.pop.new.self.items c.in-Some.thread
    c.in-Some.ensures.items i.put in
    (i.of, subst (λ (o : SharedOutboxes). IsOf o c.join-worker.result.pass) popped.1 c.join-worker.ensures.0.1)

pub loop-thread-preserved : goal.loop-thread-preserved
loop-thread-preserved g c =
    let i = c.loop-thread.invariant in
    let t = c.in-Some.thread in
    let j = c.join-worker in
    let w = j.result.worker in
    let all = c.loop-thread.threads.items in
    let rest = c.pop.new.self.items in
    let xs = c.loop-thread.workers.items in
    let ys = c.push_reserved.new.self.items in
    let was = c.in-Some.ensures.items in
    let is = c.push_reserved.ensures.items in
    let heir = j.ensures.1.0 in
    let p = c.join_pass-pass in
    let own = known t.promise.work.value.pass in
    let a = c.push_reserved.ensures.len in
    let b = c.push_reserved.ensures.capacity in
    let l = c.in-Some.ensures.len in
    let r = i.room in
    let n = i.len in
    record {
      room = omega (arith, a, b, l, r);
      of = p.ensures.of;
      put = (all-popped (PutsInto c.args.outboxes.now) all rest t was i.put).0;
      inside = λ filer serves workers.
          let both = i.inside filer serves workers in
          let popped = all-popped (ServesIn filer) all rest t was both.0 in
          (popped.0, all-pushed (IsIn filer) xs ys w is both.1 (subst (λ (f : Filer). IsIn f w) popped.1 j.ensures.0.0));
      len = omega (arith, a, l, n);
      seats = handed seats_in seats_with xs ys all rest w t is was heir.1 ∙ i.seats;
      share = λ k. handed (share_of k) (share_with k) xs ys all rest w t is was (same-share k (started_with t) w heir) ∙ i.share k;
      level = i.level + ((known c.loop-thread.pass).halvings + (known j.result.pass).halvings);
      lent = λ k le.
          let u = lent-both k (known c.loop-thread.pass) (known j.result.pass) (known p.result) p.ensures.both (omega (arith, le)) in
          let v = lent-same k own (known j.result.pass) j.ensures.1.1 in
          let q = total-last (lent_share_with k) all rest t was in
          let e = i.lent k (omega (arith, le)) in
          omega (arith, u, v, q, e);
    }

pub returns-clause-inside : goal.returns-clause-inside
returns-clause-inside g c filer serves workers = (c.loop-thread.invariant.inside filer serves workers).1

pub returns-clause-lent : goal.returns-clause-lent
returns-clause-lent g c =
    let i = c.loop-thread.invariant in (
      i.level,
      λ k le.
          let none = ap (total (lent_share_with k)) (none-left c.loop-thread.threads.items (search rules)) in
          let e = i.lent k le in
          omega (arith, none, e),
    )
